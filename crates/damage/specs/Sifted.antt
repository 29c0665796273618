-- What the tests of the ranges tell: one that hits is damage; where none does, the counts and numbers are in range, the snapshots ascend, and damage is
-- two entries of one object.
use Rattle.std.specs.Prelude.{◌≡◌, Bool, true, false, map, take, leb}
use Rattle.model.specs.Lists.{any_b, twice_b, rising_from}
use Rattle.model.specs.Damage.{damaged}
use Rattle.tables.specs.declared.Store.{Store}
use Rattle.tables.specs.Rows.{pendings}
use Rattle.tables.specs.Contents.{stored, Counted}

pub record Sifted (out : Bool) (store : Store) : Type 0 where
  pub hit : out ≡ true → damaged (stored store) ≡ true
  pub left : out ≡ false → damaged (stored store) ≡ twice_b (map (λ e. e.object) (take store.heads.pending (pendings store.written.pending)))
  pub counted : out ≡ false → Counted store.heads
  pub low : out ≡ false → any_b (λ e. leb 512 e.object) (take store.heads.pending (pendings store.written.pending)) ≡ false
  pub rising : out ≡ false → rising_from 0 (take store.heads.snapshots store.snapshots) ≡ true
