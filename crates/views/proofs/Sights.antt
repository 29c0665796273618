-- Past rows and pending entries laid over a page's words on disk give the page that the model looks up in a store's contents.
use Prim.Native.Nat.{ℕ}
use mathlib.Core.Path.{◌≡◌, refl, ap, ◌∙◌}
use mathlib.Core.Bool.{false}
use mathlib.Core.List.{List, []}
use native.Mathlib.Omega.{arith}
use lib.ListN.{length, take, get_or}
use Rattle.std.proofs.Common.{Option, Some, None, is_some}
use Rattle.model.specs.declared.Seen.{Seen}
use Rattle.model.specs.Store.{Store, page16, object_at, slot_of, lookup, pending_seen, past_seen, disk}
use Rattle.tables.specs.declared.Heads.{Heads}
use Rattle.tables.specs.declared.Written.{Written}
use Rattle.tables.specs.Rows.{pending_of, past_of, pendings, pasts}
use Rattle.tables.specs.Contents.{contents}
use Rattle.tables.proofs.Cases.{clash}
use Rattle.tables.proofs.Counts.{up_to_take}
use Rattle.tables.proofs.Rows.{pendings_length, pasts_length}
use Rattle.views.specs.declared.View.{View}
use Rattle.views.specs.Views.{part_of, seen_by, viewed, covers_b, shows_b, Lookable}
use Rattle.views.proofs.Laying.{lay_page}
use Rattle.views.proofs.Pages.{page_same}
use Rattle.views.proofs.Showing.{pasts_over, pendings_over, spanned, topped, past_shown, pending_shown}

absent : (t : Option ℕ) → is_some t ≡ false → t ≡ None
absent None e = refl
absent (Some s) e = clash e

-- the tables of rows are as long as their types say
pub record Sized (w : Written) : Type 0 where
  pub pending_rows : length w.pending ≡ 128
  pub past_rows : length w.past ≡ 256

-- ---- a page below its pending entries: on disk where the view is current, else with its past rows
module _ (w : Written) (h : Heads) (v : View) where
  abbrev pub on_disk : ℕ → Seen
  on_disk k = record { value = get_or w.disk (object_at v.page k) 0; stamp = get_or w.dated (object_at v.page k) 0 }

  abbrev pub below_entries : ℕ → Seen
  below_entries k = spanned v.as_of (object_at v.page k) (take h.past (pasts w.past)) (on_disk k)

  module _ {out : List ℕ} (d : out ≡ page16 (λ k. part_of v.word (on_disk k))) where
    pub below_now : is_some v.as_of ≡ false → out ≡ page16 (λ k. part_of v.word (below_entries k))
    below_now e = d ∙ page_same _ _ (λ k b. rw (absent v.as_of e))

    pub below_past : pasts_over v (take h.past (pasts w.past)) out ≡ page16 (λ k. part_of v.word (below_entries k))
    below_past =
        rw d
        (lay_page (covers_b v) (λ q. slot_of q.object) (λ q. part_of v.word (past_seen q)) (take h.past (pasts w.past)) _ _
        (λ k b. past_shown v k b v.as_of refl (on_disk k) (take h.past (pasts w.past))))

  seen_is : (st : Store) (o : ℕ) (t : Option ℕ) → topped t (lookup o st.pending) (spanned t o st.past (disk st o)) ≡ seen_by st o t
  seen_is st o None = refl
  seen_is st o (Some s) = refl

  -- ---- the page
  pub sight_page : Sized w → Lookable w h v.page → {out : List ℕ} → out ≡ page16 (λ k. part_of v.word (below_entries k))
      → (snapshots : List ℕ) (copies : List (List ℕ)) (copied : List ℕ)
      → pendings_over v (take h.pending (pendings w.pending)) out
      ≡ page16 (λ k. viewed (contents w.disk w.dated w.pending w.past snapshots copies copied h) v (object_at v.page k))
  sight_page z a {out} d snapshots copies copied =
      let es = take h.pending (pendings w.pending) in
      let st = contents w.disk w.dated w.pending w.past snapshots copies copied h in
      ap (pendings_over v es) d
      ∙ lay_page (shows_b v) (λ e. slot_of e.object) (λ e. part_of v.word (pending_seen e)) es _ _
      (λ k b. pending_shown v k b v.as_of refl (below_entries k) es a.single)
      ∙ page_same _ _
      (λ k b.
      let o = object_at v.page k in
      rw (
        ← up_to_take (pending_of []) h.pending (pendings w.pending) (omega (arith, pendings_length w.pending 128 z.pending_rows, a.pending_count)),
        ← up_to_take (past_of []) h.past (pasts w.past) (omega (arith, pasts_length w.past 256 z.past_rows, a.past_count)),
      )
      (ap (part_of v.word) (seen_is st o v.as_of)))
