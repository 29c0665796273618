-- Damage is the same for any words on disk, writing stamps and words of copies.
use Prim.Native.Nat.{ℕ, zero, suc}
use mathlib.Core.Path.{◌≡◌, refl, ap, sym, ◌∙◌}
use mathlib.Core.List.{List, [], ◌∷◌}
use lib.ListN.{length, drop}
use lib.Dec.{leb}
use Rattle.model.specs.Lists.{either, any_b}
use Rattle.model.specs.Limits.{pages}
use Rattle.model.specs.Damage.{overfull, misnumbered, doubled, misordered, damaged}
use Rattle.tables.specs.declared.Heads.{Heads}
use Rattle.tables.specs.declared.CopyHead.{CopyHead}
use Rattle.tables.specs.Rows.{copy_heads, copies_of, up_to}
use Rattle.tables.specs.Contents.{contents}
use Rattle.tables.proofs.Copies.{no_copy}
use Rattle.tables.proofs.Counts.{up_to_length}

module _ (n : ℕ) (hs : List CopyHead) (copied copied' : List ℕ) where
  same_count : length (up_to no_copy n (copies_of hs copied)) ≡ length (up_to no_copy n (copies_of hs copied'))
  same_count = up_to_length no_copy n (copies_of hs copied) ∙ sym (up_to_length no_copy n (copies_of hs copied'))

same_pages : (n : ℕ) (hs : List CopyHead) (copied copied' : List ℕ)
    → any_b (λ c. leb pages c.page) (up_to no_copy n (copies_of hs copied)) ≡ any_b (λ c. leb pages c.page) (up_to no_copy n (copies_of hs copied'))
same_pages zero hs copied copied' = refl
same_pages (suc n) [] copied copied' = refl
same_pages (suc n) (h ∷ hs) copied copied' = ap (either (leb pages h.page)) (same_pages n hs (drop 16 copied) (drop 16 copied'))

pub any_words : (values stamps copied values' stamps' copied' : List ℕ) (pending past : List (List ℕ)) (snapshots : List ℕ) (copies : List (List ℕ)) (h : Heads)
    → damaged (contents values stamps pending past snapshots copies copied h) ≡ damaged (contents values' stamps' pending past snapshots copies copied' h)
unfolding damaged overfull misnumbered doubled misordered
any_words values stamps copied values' stamps' copied' pending past snapshots copies h =
    rw (same_count h.copies (copy_heads copies) copied copied', same_pages h.copies (copy_heads copies) copied copied')
