-- The bytes of a history: read off they give the history back, and their first n bytes are those of a leading part of it and a torn record.
use Prim.Native.Nat.{ℕ, zero, suc, ◌+◌, ◌-◌, ◌<◌, ◌≤◌}
use mathlib.Core.Path.{◌≡◌, refl, ap, sym, ◌∙◌, subst}
use mathlib.Core.Bool.{true}
use mathlib.Core.List.{List, [], ◌∷◌, ◌++◌, append_assoc, append-nil}
use native.Mathlib.Omega.{arith}
use lib.ListN.{length, take, length-append}
use lib.Seq.{take-nil, drop-append_seam, take-append-le, take-append-add}
use Rattle.model.specs.Changes.{Change, flush}
use Rattle.model.specs.Judgement.{well_formed}
use Rattle.model.specs.Records.{encode, Step, end, short, malformed, whole, step_on, step_at}
use Rattle.history.specs.Words.{All, Words}
use Rattle.history.specs.Runs.{recorded, history_from, history_of, encodings, journal_of}
use Rattle.history.proofs.Laws.{by_le}
use Rattle.history.proofs.Encoding.{encode_length, reads_back_at, torn_none, torn_short}

-- ---- encodings
pub encodings_append : (h k : List Change) → encodings (h ++ k) ≡ encodings h ++ encodings k
encodings_append [] k = refl
encodings_append (c ∷ cs) k = ap (λ l. encode c ++ l) (encodings_append cs k) ∙ sym (append_assoc (encode c) (encodings cs) (encodings k))

pub journal_more : (h : List Change) (c : Change) → journal_of (h ++ (c ∷ [])) ≡ journal_of h ++ encode c
journal_more h c = rw (encodings_append h (c ∷ []), append-nil)

pub encodings_many : (h : List Change) → length h ≤ length (encodings h)
encodings_many [] = omega arith
encodings_many (c ∷ cs) = omega (arith, encodings_many cs, length-append (encode c) (encodings cs), encode_length c)

-- ---- a change that may stand in a journal
pub record Fit (c : Change) : Type 0 where
  pub formed : well_formed c ≡ true
  pub words : Words c

-- ---- a torn record: a proper beginning of an encoding, or nothing
pub record Torn (bytes : List ℕ) : Type 0 where
  pub change : Change
  pub formed : well_formed change ≡ true
  pub size : ℕ
  pub part : size < length (encode change)
  pub is : bytes ≡ take size (encode change)

-- where a reader stops without refusal
abbrev pub Stops : Step → Type 0
Stops end = Unit {0}
Stops short = Unit {0}
Stops (malformed offset) = ⊥
Stops (whole c next) = ⊥

part_stops : (c : Change) → well_formed c ≡ true → (n at : ℕ) → n < length (encode c) → Stops (step_on (take n (encode c)) at)
part_stops c w zero at l = subst Stops (sym (torn_none c at)) tt
part_stops c w (suc n) at l = subst Stops (sym (torn_short c w (suc n) at l (omega arith))) tt

pub torn_stops : (torn : List ℕ) → Torn torn → (pre : List ℕ) → Stops (step_at (pre ++ torn) (length pre))
torn_stops torn t pre = rw (drop-append_seam pre torn, t.is) (part_stops t.change t.formed t.size (length pre) t.part)

-- ---- reading it off
stop_records : (s : Step) (more : ℕ → List Change) → Stops s → recorded s more ≡ []
stop_records end more h = refl
stop_records short more h = refl
stop_records (malformed offset) more h = absurd h
stop_records (whole c next) more h = absurd h

-- the place behind a record, for the bytes before it and those behind it
module _ (c : Change) (pre rest torn : List ℕ) where
  pub next_bytes : pre ++ ((encode c ++ rest) ++ torn) ≡ (pre ++ encode c) ++ (rest ++ torn)
  next_bytes = simp append_assoc

  pub next_step : Fit c → step_at (pre ++ ((encode c ++ rest) ++ torn)) (length pre) ≡ whole c (length (pre ++ encode c))
  next_step f =
      ap (λ l. step_at (pre ++ l) (length pre)) (append_assoc (encode c) rest torn)
      ∙ reads_back_at c f.formed f.words pre (rest ++ torn) ∙ ap (whole c) (sym (length-append pre (encode c)))

reads_off : (h : List Change) (n : ℕ) (pre torn : List ℕ) → length h ≤ n → All Fit h → Torn torn
    → history_from n (pre ++ (encodings h ++ torn)) (length pre) ≡ h
reads_off [] zero pre torn l f t = refl
reads_off [] (suc n) pre torn l f t = stop_records (step_at (pre ++ torn) (length pre)) _ (torn_stops torn t pre)
reads_off (c ∷ cs) zero pre torn l f t = absurd (omega arith)
reads_off (c ∷ cs) (suc n) pre torn l f t =
    rw (next_step c pre (encodings cs) torn f.0, next_bytes c pre (encodings cs) torn)
    (ap (λ k. c ∷ k) (reads_off cs n (pre ++ encode c) torn (omega arith) f.1 t))

-- THE BYTES OF A HISTORY SAY THE HISTORY, whatever torn record follows
pub history_back : (h : List Change) (torn : List ℕ) → All Fit h → Torn torn → history_of (journal_of h ++ torn) ≡ h
unfolding history_of
history_back h torn f t =
    let n = length (journal_of h ++ torn) in
    reads_off h n (1 ∷ []) torn (omega (arith, encodings_many h, length-append (encodings h) torn)) f t

-- nothing is a torn record too
pub torn_nothing : Torn []
torn_nothing = record { change = flush 0; formed = refl; size = 0; part = omega (arith, encode_length (flush 0)); is = refl }

pub history_whole : (h : List Change) → All Fit h → history_of (journal_of h) ≡ h
history_whole h f = ap history_of (sym (append-nil (journal_of h))) ∙ history_back h [] f torn_nothing

-- ---- the first bytes of a history's records: what is kept of the history, what is lost, and the torn record
pub record Cut (h : List Change) (bytes : List ℕ) : Type 0 where
  pub kept : List Change
  pub lost : List Change
  pub torn : List ℕ
  pub parts : h ≡ kept ++ lost
  pub bytes_kept : bytes ≡ encodings kept ++ torn
  pub is_torn : Torn torn

pub cut_records : (h : List Change) → All Fit h → (n : ℕ) → Cut h (take n (encodings h))
cut_records [] f n = record { kept = []; lost = []; torn = []; parts = refl; bytes_kept = take-nil n; is_torn = torn_nothing }
cut_records (c ∷ cs) f n =
    by_le (length (encode c)) n
    (λ l.
    let m = n - length (encode c) in
    let ih = cut_records cs f.1 m in
    let e : n ≡ length (encode c) + m = omega arith in
    record {
      kept = c ∷ ih.kept;
      lost = ih.lost;
      torn = ih.torn;
      parts = ap (λ k. c ∷ k) ih.parts;
      bytes_kept =
          ap (λ x. take x (encode c ++ encodings cs)) e ∙ take-append-add (encode c) (encodings cs) m ∙ ap (λ l. encode c ++ l) ih.bytes_kept
          ∙ sym (append_assoc (encode c) (encodings ih.kept) ih.torn);
      is_torn = ih.is_torn;
    })
    (λ l. record {
      kept = [];
      lost = c ∷ cs;
      torn = take n (encode c);
      parts = refl;
      bytes_kept = take-append-le n (encode c) (encodings cs) (omega arith);
      is_torn = record { change = c; formed = f.0.formed; size = n; part = l; is = refl };
    })
