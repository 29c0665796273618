-- The known snapshots and the horizon are what the gossip of the history told.
use Prim.Native.Nat.{ℕ}
use mathlib.Core.Path.{◌≡◌, refl, ap, sym, ◌∙◌}
use mathlib.Core.Bool.{true}
use mathlib.Core.List.{List, [], ◌∷◌, ◌++◌}
use lib.Dec.{ltb, leb, eqb}
use borrow.Author.Tests.{lt-ltb, le-ltb, le-leb}
use Rattle.model.specs.Lists.{both, either, kept, elem_b}
use Rattle.model.specs.Store.{Store, fresh}
use Rattle.model.specs.Changes.{Change, commit, gossip, flush, last_at, commit_store, gossip_store, flush_store}
use Rattle.history.specs.History.{replay_from, replay, AcceptedFrom, AllAccepted, horizon_from, horizon_of, told_b, last_from, last_of}
use Rattle.history.proofs.Laws.{by_test, clash, by_le, either_false, either_assoc}
use Rattle.history.proofs.Lists.{any_append, elem_kept, elem_dropped, elem_within}
use Rattle.history.proofs.Judged.{GossipOk, gossip_ok}
use Rattle.history.proofs.Writes.{writes_same}

gossip_known : (st : Store) (prev curr : ℕ) (stamps : List ℕ) (s : ℕ) → GossipOk st prev curr stamps
    → elem_b s (st.snapshots ++ kept (ltb st.horizon) stamps) ≡ either (elem_b s st.snapshots) (elem_b s stamps)
gossip_known st prev curr stamps s c =
    let h = st.horizon in
    let known = st.snapshots in
    any_append (λ x. eqb x s) known (kept (ltb h) stamps)
    ∙ by_le s h
    (λ l.
    rw (elem_dropped (ltb h) s stamps (le-ltb h s l))
    (by_test (elem_b s known)
    (λ e. rw e)
    (λ e.
    by_test (elem_b s stamps)
    (λ i.
    let x : elem_b s (kept (λ y. leb y h) stamps) ≡ true = elem_kept (λ y. leb y h) s stamps (le-leb s h l) ∙ i in
    clash (elem_b s known) (elem_within (λ y. both (ltb prev y) (leb y h)) s known (sym (ap (elem_b s) c.agrees) ∙ x)) e)
    (λ i. rw (e, i)))))
    (λ l. rw (elem_kept (ltb h) s stamps (lt-ltb h s l)))

told_from : (s : ℕ) (h : List Change) (st : Store) → AcceptedFrom st h → elem_b s (replay_from st h).snapshots ≡ either (elem_b s st.snapshots) (told_b s h)
unfolding gossip_store flush_store last_at
told_from s [] st g = sym (either_false (elem_b s st.snapshots))
told_from s (commit t ws ∷ cs) st g =
    told_from s cs (commit_store st t ws) g.2 ∙ ap (λ l. either (elem_b s l) (told_b s cs)) (writes_same ws (last_at st t) t).snapshots
told_from s (gossip prev curr stamps ∷ cs) st g =
    told_from s cs (gossip_store st curr stamps) g.2
    ∙ ap (λ b. either b (told_b s cs)) (gossip_known st prev curr stamps s (gossip_ok st prev curr stamps g.0 g.1))
    ∙ either_assoc (elem_b s st.snapshots) (elem_b s stamps) (told_b s cs)
told_from s (flush p ∷ cs) st g = told_from s cs (flush_store st p) g.2

horizon_from_lem : (h : List Change) (st : Store) → (replay_from st h).horizon ≡ horizon_from st.horizon h
unfolding gossip_store flush_store last_at
horizon_from_lem [] st = refl
horizon_from_lem (commit t ws ∷ cs) st = horizon_from_lem cs (commit_store st t ws) ∙ ap (λ n. horizon_from n cs) (writes_same ws (last_at st t) t).horizon
horizon_from_lem (gossip prev curr stamps ∷ cs) st = horizon_from_lem cs (gossip_store st curr stamps)
horizon_from_lem (flush p ∷ cs) st = horizon_from_lem cs (flush_store st p)

last_from_lem : (h : List Change) (st : Store) → (replay_from st h).last ≡ last_from st.last h
unfolding gossip_store flush_store last_at
last_from_lem [] st = refl
last_from_lem (commit t ws ∷ cs) st = last_from_lem cs (commit_store st t ws) ∙ ap (λ n. last_from n cs) (writes_same ws (last_at st t) t).last
last_from_lem (gossip prev curr stamps ∷ cs) st = last_from_lem cs (gossip_store st curr stamps)
last_from_lem (flush p ∷ cs) st = last_from_lem cs (flush_store st p)

pub known_told : (h : List Change) → AllAccepted h → (s : ℕ) → elem_b s (replay h).snapshots ≡ told_b s h
unfolding replay fresh
known_told h g s = told_from s h fresh g

pub horizon_told : (h : List Change) → (replay h).horizon ≡ horizon_of h
unfolding replay fresh
horizon_told h = horizon_from_lem h fresh

pub last_told : (h : List Change) → (replay h).last ≡ last_of h
unfolding replay fresh
last_told h = last_from_lem h fresh
