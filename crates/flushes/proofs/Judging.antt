-- The judge's list is the model's, and so are its mark and its verdict.
use Prim.Native.Nat.{ℕ, ◌+◌, max}
use mathlib.Core.Path.{◌≡◌, ap, sym, ◌∙◌}
use mathlib.Core.List.{List}
use native.Mathlib.Omega.{arith}
use lib.ListN.{length, take}
use Rattle.model.specs.declared.Verdict.{Verdict}
use Rattle.model.specs.Lists.{kept}
use Rattle.model.specs.Store.{Store, mark}
use Rattle.model.specs.Changes.{of_page, dues}
use Rattle.model.specs.Judgement.{judge_flush}
use Rattle.tables.specs.declared.Store as tables
use Rattle.tables.specs.Rows.{pendings, copy_heads, copies_of}
use Rattle.tables.specs.Contents.{stored}
use Rattle.tables.proofs.Copies.{no_copy}
use Rattle.tables.proofs.Counts.{up_to_length}
use Rattle.flushes.specs.Promises.{Whole, Ready, Listed}
use Rattle.flushes.specs.Parts.{seen_in, dues_seen, top, rule_of, leaves_under, verdict_by}
use Rattle.flushes.proofs.Listing.{dues_same}
use Rattle.flushes.proofs.Marks.{mark_after}
use Rattle.flushes.proofs.Verdicts.{judged}
use Rattle.flushes.proofs.Holdings.{staying, same, past_count}

verdict_same : {a b c d x y z w : ℕ} → a ≡ x → b ≡ y → c ≡ z → d ≡ w → verdict_by a b c d ≡ verdict_by x y z w
verdict_same p q r s = rw (p, q, r, s)

module _ (store : tables.Store) (page : ℕ) (a : Ready store page) (k : Whole store) where
  abbrev st : Store
  st = stored store

  pub listing : {due : List ℕ} {m marked : ℕ} → marked ≡ mark (take store.heads.copies (copies_of (copy_heads store.copies) store.copied)) page
      → due ≡ dues_seen (seen_in store.written store.heads) page marked (take store.heads.snapshots store.snapshots)
      → m ≡ max marked (top due) → Listed st page due m
  listing {due} {m} {marked} e l t =
      let s = sym (same store page a k) in
      let f : marked ≡ mark st.copies page = e ∙ ap (λ x. mark x.copies page) s in
      let d : due ≡ dues st page st.snapshots =
      l ∙ ap (λ x. dues_seen (seen_in store.written store.heads) page marked x.snapshots) s ∙ dues_same store page marked f st.snapshots in
      record { listed = d; marks = omega (arith, t, f, ap top d, mark_after st page) }

  pub judging : {due : List ℕ} {m n : ℕ} → Listed st page due m → n ≡ length (staying store page m) → {v : Verdict}
      → v ≡ verdict_by (length (kept (of_page page) (take store.heads.pending (pendings store.written.pending)))) (length due) store.heads.copies
      (n + length (kept (leaves_under store.written.disk store.written.dated store.snapshots (rule_of store.heads page m)) (take store.heads.pending (pendings store.written.pending))))
      → v ≡ judge_flush st page
  judging {due} {m} {n} l q e =
      let leavers = length (kept (leaves_under store.written.disk store.written.dated store.snapshots (rule_of store.heads page m)) (take store.heads.pending (pendings store.written.pending))) in
      e
      ∙ verdict_same (ap (λ x. length (kept (of_page page) x.pending)) (sym (same store page a k))) (ap length l.listed)
      (sym (up_to_length no_copy store.heads.copies (copies_of (copy_heads store.copies) store.copied)))
      (ap (λ x. x + leavers) q ∙ sym (past_count store page a k l))
      ∙ sym (judged st page)
