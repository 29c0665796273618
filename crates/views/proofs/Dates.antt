-- A value as of a stamp, or now, is the same for any writing stamps on disk.
use Prim.Native.Nat.{ℕ}
use mathlib.Core.Path.{◌≡◌, refl}
use mathlib.Core.List.{List, [], ◌∷◌}
use lib.Dec.{leb}
use Rattle.std.proofs.Common.{Option, Some, None}
use Rattle.model.specs.declared.Seen.{Seen}
use Rattle.model.specs.declared.Past.{Past}
use Rattle.model.specs.Store.{Slot, none, some, lookup, current_of, look_of, span_or, holds_b, disk}
use Rattle.tables.specs.declared.Heads.{Heads}
use Rattle.tables.specs.Contents.{contents}
use Rattle.tables.proofs.Cases.{by_test}
use Rattle.views.specs.declared.Word.TheVariants.{Value}
use Rattle.views.specs.Views.{part_of, seen_by}

module _ (x y : Seen) where
  now_value : (s : Slot) → x.value ≡ y.value → (current_of s x).value ≡ (current_of s y).value
  now_value none e = e
  now_value (some p) e = refl

  look_value : (s : Slot) (t : ℕ) → x.value ≡ y.value → (look_of s t x).value ≡ (look_of s t y).value
  look_value none t e = e
  look_value (some p) t e = by_test (leb p.latest t) (λ b. rw b) (λ b. rw b e)

  span_value : (o t : ℕ) (qs : List Past) → x.value ≡ y.value → (span_or o t qs x).value ≡ (span_or o t qs y).value
  span_value o t [] e = e
  span_value o t (q ∷ qs) e = let ih = span_value o t qs e in by_test (holds_b o t q) (λ b. rw b) (λ b. rw b ih)

pub any_dates : (values dated dated' : List ℕ) (pending past : List (List ℕ)) (snapshots : List ℕ) (copies : List (List ℕ)) (copied : List ℕ) (h : Heads) (o : ℕ) (as_of : Option ℕ)
    → part_of Value (seen_by (contents values dated pending past snapshots copies copied h) o as_of)
    ≡ part_of Value (seen_by (contents values dated' pending past snapshots copies copied h) o as_of)
any_dates values dated dated' pending past snapshots copies copied h o None =
    let st = contents values dated pending past snapshots copies copied h in
    let st' = contents values dated' pending past snapshots copies copied h in
    now_value (disk st o) (disk st' o) (lookup o st.pending) refl
any_dates values dated dated' pending past snapshots copies copied h o (Some s) =
    let st = contents values dated pending past snapshots copies copied h in
    let st' = contents values dated' pending past snapshots copies copied h in
    look_value (span_or o s st.past (disk st o)) (span_or o s st'.past (disk st' o)) (lookup o st.pending) s (span_value (disk st o) (disk st' o) o s st.past refl)
