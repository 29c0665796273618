-- The store before a flush, by the counts; what a look at it asks; and its past after the flush.
use Prim.Native.Nat.{ℕ, ◌+◌}
use mathlib.Core.Path.{◌≡◌, refl, ap, sym, ◌∙◌, subst}
use mathlib.Core.Bool.{true}
use mathlib.Core.List.{List, ◌++◌}
use lib.ListN.{length, take, length-append, length-map}
use Rattle.model.specs.declared.Past.{Past}
use Rattle.model.specs.Lists.{kept, rising_from}
use Rattle.model.specs.Store.{Store}
use Rattle.model.specs.Changes.{dues, flush_store}
use Rattle.tables.specs.declared.Store as tables
use Rattle.tables.specs.Rows.{pendings, pasts}
use Rattle.tables.specs.Contents.{stored}
use Rattle.tables.proofs.Rows.{pendings_length, pasts_length}
use Rattle.tables.proofs.Counts.{taken, contents_taken}
use Rattle.views.specs.Views.{Lookable}
use Rattle.views.proofs.Sights.{Sized}
use Rattle.shares.specs.Many.{Ordered}
use Rattle.shares.proofs.Orders.{rising_ordered}
use Rattle.flushes.specs.Promises.{Whole, Ready, Listed}
use Rattle.flushes.specs.Parts.{rule_of, stays_under, leaves_under, graves}
use Rattle.flushes.proofs.Rising.{dues_rising}
use Rattle.flushes.proofs.Staying.{past_after}

-- the past rows after a flush: those that stay, behind them those that the entries leave
abbrev pub staying : tables.Store → ℕ → ℕ → List Past
staying store p m = kept (stays_under store.snapshots (rule_of store.heads p m)) (take store.heads.past (pasts store.written.past))

abbrev pub leaving : tables.Store → ℕ → ℕ → List Past
leaving store p m = graves store.written.disk store.written.dated store.snapshots (rule_of store.heads p m) (take store.heads.pending (pendings store.written.pending))

-- the store by the counts
abbrev pub counted : tables.Store → Store
counted s = taken s.written.disk s.written.dated s.written.pending s.written.past s.snapshots s.copies s.copied s.heads

module _ (store : tables.Store) (page : ℕ) (a : Ready store page) where
  pub looks : Lookable store.written store.heads page
  looks = record { pending_count = a.counted.pending_count; past_count = a.counted.past_count; in_range = a.in_range; single = a.single }

  module _ (k : Whole store) where
    pub sized : Sized store.written
    sized = record {
      pending_rows = sym (pendings_length store.written.pending _ refl) ∙ k.pending_rows;
      past_rows = sym (pasts_length store.written.past _ refl) ∙ k.past_rows;
    }

    pub same : stored store ≡ counted store
    same = contents_taken store.written.disk store.written.dated store.written.pending store.written.past store.snapshots store.copies store.copied store.heads k a.counted

    module _ {due : List ℕ} {m : ℕ} (l : Listed (stored store) page due m) where
      pub dues_ordered : Ordered due
      dues_ordered =
          let st = stored store in
          let r : rising_from 0 st.snapshots ≡ true = ap (λ x. rising_from 0 x.snapshots) same ∙ a.rising in
          subst (λ ds. Ordered ds) (sym l.listed) (rising_ordered 0 (dues st page st.snapshots) (dues_rising st page 0 st.snapshots r))

      pub past_rows : (flush_store (stored store) page).past ≡ staying store page m ++ leaving store page m
      past_rows =
          let q = subst (λ st. Listed st page due m) same l in
          ap (λ st. (flush_store st page).past) same ∙ past_after (counted store) page m q.marks

      pub past_count : length (flush_store (stored store) page).past
          ≡ length (staying store page m) + length (kept (leaves_under store.written.disk store.written.dated store.snapshots (rule_of store.heads page m)) (take store.heads.pending (pendings store.written.pending)))
      past_count = ap length past_rows ∙ simp (length-append, length-map)
