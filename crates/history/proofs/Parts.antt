-- Histories in two parts.
use Prim.Native.Nat.{ℕ}
use mathlib.Core.Path.{◌≡◌, refl, ap, sym, ◌∙◌}
use mathlib.Core.Bool.{true}
use mathlib.Core.List.{List, [], ◌∷◌, ◌++◌}
use Rattle.model.specs.declared.Seen.{Seen}
use Rattle.model.specs.declared.Verdict.TheVariants.{Accepted}
use Rattle.model.specs.Lists.{either, elem_b}
use Rattle.model.specs.Store.{Store}
use Rattle.model.specs.Changes.{Change, commit, gossip, flush, after}
use Rattle.model.specs.Judgement.{well_formed, judge}
use Rattle.history.specs.History.{replay_from, AcceptedFrom, change_seen, latest_from, told_b}
use Rattle.history.proofs.Laws.{either_assoc}

-- a leading part of an accepted history is accepted, and the rest by the store that it leaves
pub accepted_part : (h k : List Change) (st : Store) → AcceptedFrom st (h ++ k) → AcceptedFrom st h × AcceptedFrom (replay_from st h) k
accepted_part [] k st g = (tt, g)
accepted_part (c ∷ cs) k st g = let ih = accepted_part cs k (after st c) g.2 in ((g.0, g.1, ih.0), ih.1)

-- and back, for one change more
pub accepted_more : (h : List Change) (c : Change) (st : Store) → AcceptedFrom st h → well_formed c ≡ true → judge (replay_from st h) c ≡ Accepted
    → AcceptedFrom st (h ++ (c ∷ []))
accepted_more [] c st a w j = (w, j, tt)
accepted_more (x ∷ xs) c st a w j = (a.0, a.1, accepted_more xs c (after st x) a.2 w j)

pub replay_parts : (h k : List Change) (st : Store) → replay_from st (h ++ k) ≡ replay_from (replay_from st h) k
replay_parts [] k st = refl
replay_parts (c ∷ cs) k st = replay_parts cs k (after st c)

pub latest_append : (o s : ℕ) (h k : List Change) (x : Seen) → latest_from o s (h ++ k) x ≡ latest_from o s k (latest_from o s h x)
latest_append o s [] k x = refl
latest_append o s (c ∷ cs) k x = latest_append o s cs k (change_seen o s c x)

pub told_append : (s : ℕ) (h k : List Change) → told_b s (h ++ k) ≡ either (told_b s h) (told_b s k)
told_append s [] k = refl
told_append s (commit t ws ∷ cs) k = told_append s cs k
told_append s (gossip prev curr stamps ∷ cs) k =
    ap (either (elem_b s stamps)) (told_append s cs k) ∙ sym (either_assoc (elem_b s stamps) (told_b s cs) (told_b s k))
told_append s (flush p ∷ cs) k = told_append s cs k
