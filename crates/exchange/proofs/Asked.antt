-- What a request answers and writes, by the test that settles it.
use Prim.Native.Nat.{ℕ, ◌≤◌, ◌<◌}
use mathlib.Core.Path.{◌≡◌, refl}
use mathlib.Core.Bool.{true, false}
use mathlib.Core.List.{List}
use lib.ListN.{length}
use borrow.Author.Tests.{le-leb, lt-leb}
use Rattle.model.specs.declared.Answer.TheVariants.{Done, Damaged, Shape}
use Rattle.model.specs.Bytes.{write_at}
use Rattle.model.specs.Store.{Store}
use Rattle.model.specs.Damage.{damaged}
use Rattle.model.specs.Exchange.{request_bytes, ask}
use Rattle.reads.specs.Read.{Read}

module _ (st : Store) (to : ℕ) (buffer : List ℕ) where
  pub ask_damaged : damaged st ≡ true → Read (ask st to buffer) Damaged buffer
  unfolding ask
  ask_damaged d = rw d (record { answered = refl; filled = refl })

  module _ (d : damaged st ≡ false) where
    pub ask_short : length buffer < 19 → Read (ask st to buffer) Shape buffer
    unfolding ask
    ask_short l = rw (d, lt-leb 19 (length buffer) l) (record { answered = refl; filled = refl })

    module _ (l : 19 ≤ length buffer) where
      pub ask_behind : to < st.horizon → Read (ask st to buffer) Shape buffer
      unfolding ask
      ask_behind h = rw (d, le-leb 19 (length buffer) l, lt-leb st.horizon to h) (record { answered = refl; filled = refl })

      pub ask_done : st.horizon ≤ to → {left : List ℕ} → left ≡ write_at 0 (request_bytes st.horizon to) buffer → Read (ask st to buffer) (Done 19) left
      unfolding ask
      ask_done h f = rw (d, le-leb 19 (length buffer) l, le-leb st.horizon to h) (record { answered = refl; filled = f })
