-- A history is a list of accepted changes, the oldest first: the store that it leaves, and what a reader of it must see.
use Rattle.std.specs.Prelude.{ℕ, ◌≤◌, ◌≡◌, Bool, true, false, List, [], ◌∷◌, leb, eqb}
use Rattle.model.specs.declared.Seen.{Seen}
use Rattle.model.specs.declared.Verdict.TheVariants.{Accepted}
use Rattle.model.specs.Lists.{both, either, pick, elem_b}
use Rattle.model.specs.Store.{Store, fresh}
use Rattle.model.specs.Changes.{Write, Change, commit, gossip, flush, after}
use Rattle.model.specs.Judgement.{well_formed, judge}

-- ---- the store that a history leaves
abbrev pub replay_from : Store → List Change → Store
replay_from st [] = st
replay_from st (c ∷ cs) = replay_from (after st c) cs

unfoldable pub replay : List Change → Store
replay h = replay_from fresh h

-- each change is well formed, and accepted by the store that the ones before it leave
abbrev pub AcceptedFrom : Store → List Change → Type 0
AcceptedFrom st [] = Unit {0}
AcceptedFrom st (c ∷ cs) = (well_formed c ≡ true) × (judge st c ≡ Accepted) × AcceptedFrom (after st c) cs

abbrev pub AllAccepted : List Change → Type 0
AllAccepted h = AcceptedFrom fresh h

-- ---- the last commit that writes o and is stamped at or before s: its value and stamp; x where there is none
abbrev pub write_seen : ℕ → ℕ → ℕ → Write → Seen → Seen
write_seen o s t w x = pick (both (eqb w.object o) (leb t s)) (record { value = w.value; stamp = t }) x

abbrev pub writes_seen : ℕ → ℕ → ℕ → List Write → Seen → Seen
writes_seen o s t [] x = x
writes_seen o s t (w ∷ ws) x = writes_seen o s t ws (write_seen o s t w x)

abbrev pub change_seen : ℕ → ℕ → Change → Seen → Seen
change_seen o s (commit t ws) x = writes_seen o s t ws x
change_seen o s (gossip prev curr stamps) x = x
change_seen o s (flush p) x = x

abbrev pub latest_from : ℕ → ℕ → List Change → Seen → Seen
latest_from o s [] x = x
latest_from o s (c ∷ cs) x = latest_from o s cs (change_seen o s c x)

-- the value and stamp of the object's latest write at or before s; 0 and 0 where there is none
abbrev pub latest : List Change → ℕ → ℕ → Seen
latest h o s = latest_from o s h (record { value = 0; stamp = 0 })

-- ---- what the gossip of a history says: how far it reaches
abbrev pub horizon_from : ℕ → List Change → ℕ
horizon_from n [] = n
horizon_from n (commit t ws ∷ cs) = horizon_from n cs
horizon_from n (gossip prev curr stamps ∷ cs) = horizon_from curr cs
horizon_from n (flush p ∷ cs) = horizon_from n cs

abbrev pub horizon_of : List Change → ℕ
horizon_of h = horizon_from 0 h

-- some message of the history names the snapshot s
abbrev pub told_b : ℕ → List Change → Bool
told_b s [] = false
told_b s (commit t ws ∷ cs) = told_b s cs
told_b s (gossip prev curr stamps ∷ cs) = either (elem_b s stamps) (told_b s cs)
told_b s (flush p ∷ cs) = told_b s cs

-- the snapshot that a read at a time uses: told, at or before the time, and the newest such
pub record Newest (h : List Change) (time s : ℕ) : Type 0 where
  pub told : told_b s h ≡ true
  pub before : s ≤ time
  pub newest : (u : ℕ) → told_b u h ≡ true → u ≤ time → u ≤ s

-- ---- the stamp of its last commit
abbrev pub last_from : ℕ → List Change → ℕ
last_from n [] = n
last_from n (commit t ws ∷ cs) = last_from t cs
last_from n (gossip prev curr stamps ∷ cs) = last_from n cs
last_from n (flush p ∷ cs) = last_from n cs

abbrev pub last_of : List Change → ℕ
last_of h = last_from 0 h
