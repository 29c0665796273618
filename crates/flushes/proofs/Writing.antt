-- There is room for what the writer adds, and the tables that it leaves hold the model's store.
use Prim.Native.Nat.{ℕ, ◌+◌, ◌≤◌}
use mathlib.Core.Path.{◌≡◌, refl, ap, sym, ◌∙◌, subst}
use mathlib.Core.Bool.{not}
use mathlib.Core.List.{List, [], ◌++◌, map}
use native.Mathlib.Omega.{arith}
use lib.ListN.{length, take, length-append, length-map}
use lib.Seq.{length-take-le}
use Rattle.model.specs.declared.Past.{Past}
use Rattle.model.specs.Lists.{kept}
use Rattle.model.specs.Store.{Store}
use Rattle.model.specs.Changes.{of_page, stored, dues, copy_at, copies_after, flush_store}
use Rattle.tables.specs.declared.Heads.{Heads}
use Rattle.tables.specs.declared.Written.{Written}
use Rattle.tables.specs.declared.Store as tables
use Rattle.tables.specs.Rows.{pending_of, pendings, pasts, copy_heads, copies_of}
use Rattle.tables.specs.Contents as contents
use Rattle.tables.specs.Contents.{Counted}
use Rattle.tables.proofs.Copies.{no_copy}
use Rattle.tables.proofs.Counts.{contents_taken, up_to_length}
use Rattle.shares.specs.Shares.{rows_at, Numbered}
use Rattle.flushes.specs.Promises.{Whole, Ready, Listed, Room, Applied}
use Rattle.flushes.specs.Parts.{rule_of, copy_in, buried_in, graves, Holding, Settled}
use Rattle.flushes.proofs.Sharing.{leaving_start}
use Rattle.flushes.proofs.Marks.{copies_looked}
use Rattle.flushes.proofs.Holdings.{counted, same, staying, leaving, past_rows}

-- a store is the model's after a flush where each part is
flush_store_lem : (st : Store) (p : ℕ) (x : Store)
    → x.values ≡ stored p (λ e. e.value) st.pending st.values → x.stamps ≡ stored p (λ e. e.latest) st.pending st.stamps
    → x.pending ≡ kept (λ e. not (of_page p e)) st.pending → x.past ≡ (flush_store st p).past → x.copies ≡ copies_after st p
    → x.snapshots ≡ st.snapshots → x.horizon ≡ st.horizon → x.last ≡ st.last → x ≡ flush_store st p
unfolding flush_store
flush_store_lem st p x values stamps pending past copies snapshots horizon last =
    λ i. record {
      values = values i;
      stamps = stamps i;
      pending = pending i;
      past = past i;
      snapshots = snapshots i;
      horizon = horizon i;
      last = last i;
      copies = copies i;
    }

copies_more : (st : Store) (p : ℕ) → copies_after st p ≡ st.copies ++ map (copy_at st p) (dues st p st.snapshots)
unfolding copies_after
copies_more st p = refl

copies_flushed : (st : Store) (p : ℕ) → (flush_store st p).copies ≡ copies_after st p
unfolding flush_store
copies_flushed st p = refl

-- the heads after a flush
abbrev pub heads_after : Heads → ℕ → ℕ → ℕ → Heads
heads_after h left rows n =
    record { pending = left; past = rows; snapshots = h.snapshots; copies = h.copies + n; horizon = h.horizon; last = h.last }

module _ (store : tables.Store) (page : ℕ) (a : Ready store page) (k : Whole store) where
  abbrev st : Store
  st = contents.stored store

  -- the rows that the numbered entries leave
  abbrev pub named : List ℕ → ℕ → List Past
  named ns m = graves store.written.disk store.written.dated store.snapshots (rule_of store.heads page m) (rows_at (pending_of []) (pendings store.written.pending) ns)

  module _ {due : List ℕ} {m : ℕ} (l : Listed st page due m) (r : Room (flush_store st page)) where
    pub copies_fit : store.heads.copies + length due ≤ 128
    copies_fit =
        let c = ap length (copies_flushed st page ∙ copies_more st page) in
        omega (
          arith,
          r.copy_room,
          simp (length-append, length-map) at c,
          up_to_length no_copy store.heads.copies (copies_of (copy_heads store.copies) store.copied),
          ap length l.listed,
        )

    past_fits : length (staying store page m ++ leaving store page m) ≤ 256
    past_fits = subst (λ qs. length qs ≤ 256) (past_rows store page a k l) r.past_room

    module _ {ns : List ℕ} (u : Numbered (pending_of []) (of_page page) (pendings store.written.pending) store.heads.pending ns)
        {past : List (List ℕ)} {rest : ℕ} (q : Holding past rest (staying store page m)) where
      named_leaving : named ns m ≡ leaving store page m
      named_leaving =
          ap (map (buried_in store.written.disk store.written.dated)) (leaving_start store.written.disk store.written.dated store.snapshots (rule_of store.heads page m) u)

      pub graves_fit : (rest ≤ 256) × (length (take rest (pasts past) ++ named ns m) ≤ 256)
      graves_fit =
          let b = simp length-append at past_fits in
          (omega (arith, q.count), rw (q.rows, named_leaving) past_fits)

      pub applied : {between after : Written} {copies : List (List ℕ)} {copied : List ℕ} {left rows : ℕ}
          → let x : tables.Store = record { written = after; snapshots = store.snapshots; copies = copies; copied = copied; heads = heads_after store.heads left rows (length due) } in
          take (store.heads.copies + length due) (copies_of (copy_heads copies) copied) ≡ take store.heads.copies (copies_of (copy_heads store.copies) store.copied) ++ map (copy_in store.written store.heads page) due
          → Holding between.past rows (take rest (pasts past) ++ named ns m)
          → (between.disk ≡ store.written.disk) × (between.dated ≡ store.written.dated) × (between.pending ≡ store.written.pending)
          → Settled page (take store.heads.pending (pendings between.pending)) between after left
          → Whole x → Applied store page x
      applied {between} {after} {copies} {copied} {left} {rows} c b o s whole =
          let e = same store page a k in
          let before = counted store in
          let h = heads_after store.heads left rows (length due) in
          let x : tables.Store = record { written = after; snapshots = store.snapshots; copies = copies; copied = copied; heads = h } in
          let g : Holding between.past rows (staying store page m ++ leaving store page m) = rw (q.rows, named_leaving) at b in
          let z : Settled page (take store.heads.pending (pendings store.written.pending)) between after left =
          subst (λ ps. Settled page (take store.heads.pending (pendings ps)) between after left) o.2 s in
          let counts : Counted h =
          record {
            pending_count = omega (arith, z.fewer, length-take-le store.heads.pending (pendings store.written.pending) (omega arith));
            past_count = omega (arith, g.count, past_fits);
            snapshot_count = a.counted.snapshot_count;
            copy_count = copies_fit;
          } in
          let cs =
          c
          ∙ ap (λ es. take store.heads.copies (copies_of (copy_heads store.copies) store.copied) ++ es)
          (ap (map (copy_in store.written store.heads page)) l.listed ∙ copies_looked st page st.snapshots ∙ ap (λ y. map (copy_at y page) (dues y page y.snapshots)) e)
          ∙ sym (copies_more before page) in
          let p = ap (λ t. take rows (pasts t)) z.past ∙ g.rows ∙ sym (past_rows store page a k l) ∙ ap (λ y. (flush_store y page).past) e in
          let values = z.values ∙ ap (stored page (λ y. y.value) before.pending) o.0 in
          let stamps = z.stamps ∙ ap (stored page (λ y. y.latest) before.pending) o.1 in
          record {
            contains = contents_taken after.disk after.dated after.pending after.past store.snapshots copies copied h whole counts
                ∙ flush_store_lem before page (counted x) values stamps z.left p cs refl refl refl
                ∙ sym (ap (λ y. flush_store y page) e);
            counted = counts;
            known = refl;
          }
