-- A restart from the bytes of an accepted history, whole or cut at any byte, gives the store of the whole records that they hold.
use Prim.Native.Nat.{ℕ, zero, suc, ◌+◌, ◌<◌, ◌≤◌}
use mathlib.Core.Path.{◌≡◌, refl, ap, sym, ◌∙◌, subst}
use mathlib.Core.List.{List, [], ◌∷◌, ◌++◌, append-nil}
use native.Mathlib.Nat.{add-zero}
use native.Mathlib.Omega.{arith}
use lib.ListN.{length, take, length-append, length-take}
use borrow.Author.Tests.{le-ltb}
use Rattle.model.specs.Limits.{most_journal}
use Rattle.model.specs.Store.{Store, fresh}
use Rattle.model.specs.Changes.{Change, after}
use Rattle.model.specs.Records.{encode, Step, end, short, malformed, whole, step_at}
use Rattle.model.specs.Restart.{Restarted, resumed, stepped, walk, fresh_start, restart}
use Rattle.history.specs.Words.{All, Words}
use Rattle.history.specs.History.{replay_from, replay, AcceptedFrom, AllAccepted}
use Rattle.history.specs.Runs.{history_of, encodings, journal_of}
use Rattle.history.proofs.Lists.{all_part}
use Rattle.history.proofs.Journal.{encodings_many, Fit, Torn, Stops, torn_stops, next_bytes, next_step, history_back, torn_nothing, cut_records}
use Rattle.history.proofs.Parts.{accepted_part}

pub accepted_fit : (h : List Change) (st : Store) → AcceptedFrom st h → All Words h → All Fit h
accepted_fit [] st a w = tt
accepted_fit (c ∷ cs) st a w = (record { formed = a.0; words = w.0 }, accepted_fit cs (after st c) a.2 w.1)

-- ---- the walk
stop_walk : (s : Step) (at : ℕ) (st : Store) (more : Change → ℕ → Restarted) → Stops s → stepped s at st more ≡ resumed st at
stop_walk end at st more h = refl
stop_walk short at st more h = refl
stop_walk (malformed offset) at st more h = absurd h
stop_walk (whole c next) at st more h = absurd h

walks : (h : List Change) (n : ℕ) (pre torn : List ℕ) (st : Store) → length h ≤ n → AcceptedFrom st h → All Fit h → Torn torn
    → walk n (pre ++ (encodings h ++ torn)) (length pre) st ≡ resumed (replay_from st h) (length pre + length (encodings h))
unfolding walk
walks [] zero pre torn st l a f t = rw add-zero
walks [] (suc n) pre torn st l a f t =
    stop_walk (step_at (pre ++ torn) (length pre)) (length pre) st _ (torn_stops torn t pre) ∙ rw add-zero
walks (c ∷ cs) zero pre torn st l a f t = absurd (omega arith)
walks (c ∷ cs) (suc n) pre torn st l a f t =
    let e : length (pre ++ encode c) + length (encodings cs) ≡ length pre + length (encode c ++ encodings cs) = simp length-append (omega arith) in
    rw (next_step c pre (encodings cs) torn f.0, a.1, next_bytes c pre (encodings cs) torn)
    (walks cs n (pre ++ encode c) torn (after st c) (omega arith) a.2 f.1 t ∙ ap (resumed (replay_from (after st c) cs)) e)

-- A RESTART FROM AN ACCEPTED HISTORY'S JOURNAL, and a torn record behind it
pub restart_torn : (h : List Change) (torn : List ℕ) → AllAccepted h → All Words h → Torn torn → length (journal_of h ++ torn) ≤ most_journal
    → restart (journal_of h ++ torn) ≡ resumed (replay h) (length (journal_of h))
unfolding restart replay
restart_torn h torn a w t l =
    let n = length (journal_of h ++ torn) in
    let e : 1 + length (encodings h) ≡ length (journal_of h) = omega arith in
    rw (le-ltb most_journal n l)
    (walks h n (1 ∷ []) torn fresh (omega (arith, encodings_many h, length-append (encodings h) torn)) a (accepted_fit h fresh a w) t
    ∙ ap (resumed (replay h)) e)

pub restart_nothing : restart [] ≡ resumed fresh 0
unfolding restart fresh_start
restart_nothing = refl

-- what survives of a history in bytes that begin its journal
pub record Survives (h : List Change) (bytes : List ℕ) : Type 0 where
  pub kept : List Change
  pub lost : List Change
  pub torn : List ℕ
  pub parts : h ≡ kept ++ lost
  pub bytes_kept : bytes ≡ journal_of kept ++ torn
  pub is_torn : Torn torn
  pub accepted : AllAccepted kept
  pub words : All Words kept
  pub read_off : history_of bytes ≡ kept
  pub restarted : restart bytes ≡ resumed (replay kept) (length (journal_of kept))

module _ (h : List Change) (a : AllAccepted h) (w : All Words h) (l : length (journal_of h) ≤ most_journal) where
  -- A CUT AT ANY BYTE BEHIND THE FIRST
  pub survives : (n : ℕ) → Survives h (take (suc n) (journal_of h))
  survives n =
      let c = cut_records h (accepted_fit h fresh a w) n in
      let k = c.kept in
      let e : take (suc n) (journal_of h) ≡ journal_of k ++ c.torn = ap (λ l. 1 ∷ l) c.bytes_kept in
      let b = (accepted_part k c.lost fresh (subst AllAccepted c.parts a)).0 in
      let v = all_part Words k c.lost (subst (All Words) c.parts w) in
      let m : length (journal_of k ++ c.torn) ≤ most_journal = omega (arith, ap length e, length-take (suc n) (journal_of h)) in
      record {
        kept = k;
        lost = c.lost;
        torn = c.torn;
        parts = c.parts;
        bytes_kept = e;
        is_torn = c.is_torn;
        accepted = b;
        words = v;
        read_off = ap history_of e ∙ history_back k c.torn (accepted_fit k fresh b v) c.is_torn;
        restarted = ap restart e ∙ restart_torn k c.torn b v c.is_torn m;
      }

  pub restart_cut : (n : ℕ) → 0 < n
      → restart (take n (journal_of h)) ≡ resumed (replay (history_of (take n (journal_of h)))) (length (journal_of (history_of (take n (journal_of h)))))
  restart_cut zero z = absurd (omega arith)
  restart_cut (suc n) z = let s = survives n in rw s.read_off s.restarted

  -- THE WHOLE JOURNAL
  pub restart_whole : restart (journal_of h) ≡ resumed (replay h) (length (journal_of h))
  restart_whole =
      let e = append-nil (journal_of h) in
      ap restart (sym e) ∙ restart_torn h [] a w torn_nothing (subst (λ (b : List ℕ). length b ≤ most_journal) (sym e) l)
