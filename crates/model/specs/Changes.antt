-- Document 01, "Calls": the store after an accepted commit, gossip message or flush.
use Rattle.std.specs.Prelude.{ℕ, Bool, not, List, [], ◌∷◌, ◌++◌, map, set, ltb, eqb}
use Rattle.model.specs.declared.Pending.{Pending}
use Rattle.model.specs.declared.Past.{Past}
use Rattle.model.specs.Lists.{pick, both, either, kept, add_if}
use Rattle.model.specs.Store.{Store, Copy, Slot, none, some, object_at, page_of, some_slot, mark, live_b, lookup, disk, current, look, page_as_of}

-- a commit's writes: each an object and its new value
pub record Write : Type 0 where
  pub object : ℕ
  pub value : ℕ

abbrev pub objects_of : List Write → List ℕ
objects_of ws = map (λ w. w.object) ws

abbrev pub paired : List ℕ → List ℕ → List Write
paired [] vs = []
paired (o ∷ os) [] = []
paired (o ∷ os) (v ∷ vs) = record { object = o; value = v } ∷ paired os vs

-- "One record is a commit, a gossip message or a flush"
pub data Change : Type 0 where
  commit : ℕ → List Write → Change
  gossip : ℕ → ℕ → List ℕ → Change
  flush : ℕ → Change

-- ---- Commit
-- "the entry takes t and the new value. Otherwise a pending entry is added with first = latest = t."
abbrev pub put : ℕ → ℕ → ℕ → List Pending → List Pending
put o t v [] = record { object = o; first = t; latest = t; value = v } ∷ []
put o t v (e ∷ es) =
    pick (eqb e.object o) (record { object = e.object; first = e.first; latest = t; value = v } ∷ es) (e ∷ put o t v es)

-- "the past value (object, t1, t, v1) is added if live"
abbrev pub closed : Pending → ℕ → ℕ → Past
closed e o t = record { object = o; from = e.latest; until = t; value = e.value }

abbrev pub displaced : Slot → Store → ℕ → ℕ → List Past
displaced none st o t = st.past
displaced (some e) st o t = add_if (live_b st.horizon st.snapshots st.copies (closed e o t)) st.past (closed e o t)

unfoldable pub write_one : Store → ℕ → ℕ → ℕ → Store
write_one st t o v = record {
  values = st.values;
  stamps = st.stamps;
  pending = put o t v st.pending;
  past = displaced (lookup o st.pending) st o t;
  snapshots = st.snapshots;
  horizon = st.horizon;
  last = st.last;
  copies = st.copies;
}

-- "a commit's in the order of its writes"
abbrev pub writes : Store → ℕ → List Write → Store
writes st t [] = st
writes st t (w ∷ ws) = writes (write_one st t w.object w.value) t ws

-- "L becomes t."
unfoldable pub last_at : Store → ℕ → Store
last_at st t = record {
  values = st.values;
  stamps = st.stamps;
  pending = st.pending;
  past = st.past;
  snapshots = st.snapshots;
  horizon = st.horizon;
  last = t;
  copies = st.copies;
}

abbrev pub commit_store : Store → ℕ → List Write → Store
commit_store st t ws = writes (last_at st t) t ws

-- ---- Gossip: "Stamps beyond H are added, H becomes curr, and dead past values are dropped."
abbrev pub known_after : Store → List ℕ → List ℕ
known_after st stamps = st.snapshots ++ kept (ltb st.horizon) stamps

unfoldable pub gossip_store : Store → ℕ → List ℕ → Store
gossip_store st curr stamps = record {
  values = st.values;
  stamps = st.stamps;
  pending = st.pending;
  past = kept (live_b curr (known_after st stamps) st.copies) st.past;
  snapshots = known_after st stamps;
  horizon = curr;
  last = st.last;
  copies = st.copies;
}

-- ---- Flush
-- the stamp that wrote the object's value "as of the next known snapshot (or currently, if s is the last)": the next is
-- the first of those behind s. It lies beyond the mark as s does, so no copy serves it and the writing stamp is known
abbrev pub next_stamp : Store → ℕ → List ℕ → ℕ
next_stamp st o [] = (current st o).stamp
next_stamp st o (n ∷ ns) = (look st o n).stamp

-- "A known snapshot s beyond the mark is due when some object of the page has .. a value written after s"
abbrev pub due_b : Store → ℕ → ℕ → List ℕ → Bool
due_b st p s ns = both (ltb (mark st.copies p) s) (some_slot (λ k. ltb s (next_stamp st (object_at p k) ns)))

abbrev pub dues : Store → ℕ → List ℕ → List ℕ
dues st p [] = []
dues st p (s ∷ ns) = pick (due_b st p s ns) (s ∷ dues st p ns) (dues st p ns)

-- "Copies of all due snapshots, valued as of s before the flush, are archived in ascending order."
abbrev pub copy_at : Store → ℕ → ℕ → Copy
copy_at st p s = record { page = p; stamp = s; values = page_as_of st p s }

unfoldable pub copies_after : Store → ℕ → List Copy
copies_after st p = st.copies ++ map (copy_at st p) (dues st p st.snapshots)

-- "Then each pending entry of the page goes to disk": f of it, in a list by object number
abbrev pub of_page : ℕ → Pending → Bool
of_page p e = eqb (page_of e.object) p

abbrev pub stored : ℕ → (Pending → ℕ) → List Pending → List ℕ → List ℕ
stored p f [] l = l
stored p f (e ∷ es) l = stored p f es (pick (of_page p e) (set l e.object (f e)) l)

-- "the old disk value becomes the past value (disk stamp, first stamp)"
abbrev pub buried : Store → Pending → Past
buried st e = record { object = e.object; from = (disk st e.object).stamp; until = e.first; value = (disk st e.object).value }

-- "dead past values of the page are dropped, judged by the new mark"
abbrev pub stays_b : ℕ → List ℕ → List Copy → ℕ → Past → Bool
stays_b h known cs p q = either (not (eqb (page_of q.object) p)) (live_b h known cs q)

unfoldable pub flush_store : Store → ℕ → Store
flush_store st p = record {
  values = stored p (λ e. e.value) st.pending st.values;
  stamps = stored p (λ e. e.latest) st.pending st.stamps;
  pending = kept (λ e. not (of_page p e)) st.pending;
  past = kept (stays_b st.horizon st.snapshots (copies_after st p) p) (st.past ++ map (buried st) (kept (of_page p) st.pending));
  snapshots = st.snapshots;
  horizon = st.horizon;
  last = st.last;
  copies = copies_after st p;
}

-- ---- the store after an accepted change
abbrev pub after : Store → Change → Store
after st (commit t ws) = commit_store st t ws
after st (gossip prev curr stamps) = gossip_store st curr stamps
after st (flush p) = flush_store st p
