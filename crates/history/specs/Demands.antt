-- The three demands, as statements about the calls of crate model and about machines that runs reach.
use Rattle.std.specs.Prelude.{ℕ, ◌*◌, ◌^◌, ◌<◌, ◌≤◌, ◌≡◌, true, false, List, [], ◌∷◌, ◌++◌, length, take, drop, pos}
use Rattle.model.specs.declared.Answer.{Answer}
use Rattle.model.specs.declared.Answer.TheVariants.{Done, Ahead, NoSnapshot}
use Rattle.model.specs.Limits.{last_tick}
use Rattle.model.specs.Answers.{code_of}
use Rattle.model.specs.Store.{Store, fresh, object_at, page16}
use Rattle.model.specs.Damage.{damaged}
use Rattle.model.specs.Changes.{Change, commit, gossip, flush, paired}
use Rattle.model.specs.Reads.{Shown, snapshot_read, clock_read, current_read, standing, known}
use Rattle.model.specs.Records.{encode}
use Rattle.model.specs.Calls.{version, Outcome, commit_call, gossip_call, flush_call}
use Rattle.model.specs.Restart.{Restarted, resumed, fresh_start, restart}
use Rattle.history.specs.Words.{Below}
use Rattle.history.specs.History.{replay, AllAccepted, latest, horizon_of, told_b, Newest, last_of}
use Rattle.history.specs.Runs.{Machine, used, call_flush, call_fresh, cut, left, happens, history_of, history, journal_of}

-- any code but 0; any code but 2
abbrev pub NotDone : Answer → Type 0
NotDone a = code_of a ≡ 0 → ⊥

abbrev pub NotDamaged : Answer → Type 0
NotDamaged a = code_of a ≡ 2 → ⊥

-- ---- Demand 1, for every input: a call promises that its outcome is the one that the model gives, so two outcomes that keep the
-- promise are equal, and a refusal changes nothing
abbrev pub One : {A : Type 0} → A → Type 0
One {A} promised = (x y : A) → x ≡ promised → y ≡ promised → x ≡ y

abbrev pub Unchanged : Store → List ℕ → ℕ → Outcome → Type 0
Unchanged st j used o = NotDone o.answer → (o.store ≡ st) × (o.journal ≡ j) × (o.place ≡ used)

abbrev pub Unshown : List ℕ → Shown → Type 0
Unshown buffer s = NotDone s.answer → s.buffer ≡ buffer

pub record DemandOne : Type 0 where
  pub commit_one : (st : Store) (j : List ℕ) (used t : ℕ) (os vs : List ℕ) → One (commit_call st j used t os vs)
  pub gossip_one : (st : Store) (j : List ℕ) (used prev curr : ℕ) (stamps : List ℕ) → One (gossip_call st j used prev curr stamps)
  pub flush_one : (st : Store) (j : List ℕ) (used p : ℕ) → One (flush_call st j used p)
  pub snapshot_one : (st : Store) (time p : ℕ) (buffer : List ℕ) → One (snapshot_read st time p buffer)
  pub clock_one : (st : Store) (tick p : ℕ) (buffer : List ℕ) → One (clock_read st tick p buffer)
  pub current_one : (st : Store) (p : ℕ) (buffer : List ℕ) → One (current_read st p buffer)
  pub standing_one : (st : Store) → One (standing st)
  pub known_one : (st : Store) → One (known st)
  pub restart_one : (j : List ℕ) → One (restart j)
  pub fresh_one : One fresh_start
  pub commit_refused : (st : Store) (j : List ℕ) (used t : ℕ) (os vs : List ℕ) → Unchanged st j used (commit_call st j used t os vs)
  pub gossip_refused : (st : Store) (j : List ℕ) (used prev curr : ℕ) (stamps : List ℕ) → Unchanged st j used (gossip_call st j used prev curr stamps)
  pub flush_refused : (st : Store) (j : List ℕ) (used p : ℕ) → Unchanged st j used (flush_call st j used p)
  pub snapshot_refused : (st : Store) (time p : ℕ) (buffer : List ℕ) → Unshown buffer (snapshot_read st time p buffer)
  pub clock_refused : (st : Store) (tick p : ℕ) (buffer : List ℕ) → Unshown buffer (clock_read st tick p buffer)
  pub current_refused : (st : Store) (p : ℕ) (buffer : List ℕ) → Unshown buffer (current_read st p buffer)
  pub standing_refused : (st : Store) → NotDone (standing st).answer
      → (standing st).figures ≡ record { pending = 0; past = 0; snapshots = 0; copies = 0; lag = pos 0 }
  pub known_refused : (st : Store) → NotDone (known st).answer → ((known st).horizon ≡ 0) × ((known st).last ≡ 0) × ((known st).snapshots ≡ [])
  pub restart_refused : (j : List ℕ) → NotDone (restart j).answer → ((restart j).store ≡ fresh) × ((restart j).place ≡ 0)

-- ---- Demand 2, of every machine that a run reaches. The used bytes are opened by the version byte
abbrev pub opened : List ℕ → List ℕ
opened [] = version ∷ []
opened (b ∷ bs) = b ∷ bs

-- the change joins the history, exactly its encoding joins the used bytes, and no byte behind them changes
pub record Appends (m after : Machine) (c : Change) : Type 0 where
  pub joins : history after ≡ history m ++ (c ∷ [])
  pub encoded : used after ≡ opened (used m) ++ encode c
  pub behind : drop after.place after.journal ≡ drop after.place m.journal

-- code 0 appends the change and is answered with the new place; any other code leaves the machine as it was
pub record Recorded (m : Machine) (o : Outcome) (c : Change) : Type 0 where
  pub number : code_of o.answer ≡ 0 → o.answer ≡ Done o.place
  pub appends : code_of o.answer ≡ 0 → Appends m (left o) c
  pub refuses : NotDone o.answer → left o ≡ m

pub record DemandTwo (m : Machine) : Type 0 where
  pub commits : (t : ℕ) (os vs : List ℕ) → t < 2 ^ 64 → Below (2 ^ 64) vs
      → Recorded m (commit_call m.store m.journal m.place t os vs) (commit t (paired os vs))
  pub gossips : (prev curr : ℕ) (stamps : List ℕ) → prev < 2 ^ 64 → curr < 2 ^ 64 → Below (2 ^ 64) stamps
      → Recorded m (gossip_call m.store m.journal m.place prev curr stamps) (gossip prev curr stamps)
  pub flushes : (p : ℕ) → Recorded m (flush_call m.store m.journal m.place p) (flush p)
  -- the used bytes are nothing, or the version byte and the encodings of the history in order
  pub empty_is : m.place ≡ 0 → (used m ≡ []) × (history m ≡ [])
  pub journal_is : 0 < m.place → used m ≡ journal_of (history m)
  -- a cut leaves the history of the surviving bytes, which begins the old one; fresh leaves none
  pub cut_is : (n : ℕ) (others : List ℕ) → history (happens m (cut n others)) ≡ history_of (take n (used m))
  pub cut_begins : (n : ℕ) → (lost : List Change) × (history m ≡ history_of (take n (used m)) ++ lost)
  pub fresh_is : history (happens m call_fresh) ≡ []

-- ---- Demand 3, of every machine that a run reaches: what its calls answer and show, by its history alone
-- the sixteen values of a page, each of the latest commit of the history that writes the object and is stamped no later than s
abbrev pub page_of_history : List Change → ℕ → ℕ → List ℕ
page_of_history h p s = page16 (λ k. (latest h (object_at p k) s).value)

-- the reads of a page into a buffer of 16. A snapshot read past the horizon is Ahead; with no known snapshot at or before its time No
-- snapshot; else, and only then, Done with the newest such, of which there is one
pub record Reads (h : List Change) (st : Store) (p : ℕ) (buffer : List ℕ) : Type 0 where
  pub ahead : (time : ℕ) → horizon_of h < time → snapshot_read st time p buffer ≡ record { answer = Ahead (horizon_of h); buffer = buffer }
  pub none : (time : ℕ) → time ≤ horizon_of h → ((u : ℕ) → told_b u h ≡ true → u ≤ time → ⊥)
      → snapshot_read st time p buffer ≡ record { answer = NoSnapshot; buffer = buffer }
  pub known : (time u : ℕ) → told_b u h ≡ true → u ≤ time → (s : ℕ) × Newest h time s
  pub shows : (time s : ℕ) → time ≤ horizon_of h → Newest h time s
      → snapshot_read st time p buffer ≡ record { answer = Done s; buffer = page_of_history h p s }
  pub only : (time s : ℕ) → (snapshot_read st time p buffer).answer ≡ Done s → (time ≤ horizon_of h) × Newest h time s
  pub clock : (tick : ℕ) → tick ≤ last_tick → clock_read st tick p buffer ≡ snapshot_read st (256 * tick) p buffer
  pub now : (s : ℕ) → last_of h ≤ s → current_read st p buffer ≡ record { answer = Done 0; buffer = page_of_history h p s }

-- no call answers Damaged
pub record Undamaged (m : Machine) : Type 0 where
  pub store : damaged m.store ≡ false
  pub commits : (t : ℕ) (os vs : List ℕ) → NotDamaged (commit_call m.store m.journal m.place t os vs).answer
  pub gossips : (prev curr : ℕ) (stamps : List ℕ) → NotDamaged (gossip_call m.store m.journal m.place prev curr stamps).answer
  pub flushes : (p : ℕ) → NotDamaged (flush_call m.store m.journal m.place p).answer
  pub snapshots : (time p : ℕ) (buffer : List ℕ) → NotDamaged (snapshot_read m.store time p buffer).answer
  pub clocks : (tick p : ℕ) (buffer : List ℕ) → NotDamaged (clock_read m.store tick p buffer).answer
  pub currents : (p : ℕ) (buffer : List ℕ) → NotDamaged (current_read m.store p buffer).answer
  pub stands : NotDamaged (standing m.store).answer
  pub knows : NotDamaged (known m.store).answer

-- the two stores are read alike, with any arguments
pub record ReadAlike (st u : Store) : Type 0 where
  pub snapshots : (time p : ℕ) (buffer : List ℕ) → snapshot_read u time p buffer ≡ snapshot_read st time p buffer
  pub clocks : (tick p : ℕ) (buffer : List ℕ) → clock_read u tick p buffer ≡ clock_read st tick p buffer
  pub currents : (p : ℕ) (buffer : List ℕ) → current_read u p buffer ≡ current_read st p buffer

-- a restart that is Done, with a history's store and the place behind its journal
abbrev pub rebuilt : List Change → Restarted
rebuilt h = resumed (replay h) (length (journal_of h))

pub record DemandThree (m : Machine) : Type 0 where
  pub accepted : AllAccepted (history m)
  pub store_is : m.store ≡ replay (history m)
  pub reads : (p : ℕ) (buffer : List ℕ) → p < 32 → length buffer ≡ 16 → Reads (history m) m.store p buffer
  pub undamaged : Undamaged m
  pub flush_alters_nothing : (q : ℕ) → ReadAlike m.store (happens m (call_flush q)).store
  -- a restart from a cut at any byte is Done and rebuilds the history that survives; from the uncut bytes it gives the same contents
  pub restart_cut : (n : ℕ) → 0 < n → 0 < m.place → restart (take n (used m)) ≡ rebuilt (history_of (take n (used m)))
  pub restart_none : restart [] ≡ resumed fresh 0
  pub restart_same : restart (used m) ≡ resumed m.store m.place
