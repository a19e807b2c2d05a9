-- The three demands of the request, in its words and order, over the calls of include/reach.h. `Demands calls` is what a set of calls
-- must meet: Laws/Ours proves it of the exported calls (`ours`, whose fields their contracts cite), and Laws/StandIns that no stand-in of
-- document 01 meets it. Theorem.antt has what follows in its plainest form.
use Rattle.std.specs.Prelude.{◌≡◌, ◌⊎◌, ◌↔◌, true, List, [], ◌∷◌, ◌++◌, map, ℕ, ◌+◌, ◌-◌, ◌≤◌, ◌<◌, length, get_or, take, drop, replicate}
use Rattle.meaning.specs.Meaning.{Program, Choice, layer_of, total, holds, weight_of, given}
use Rattle.format.specs.Bytes.{Bytes}
use Rattle.format.specs.File.{literal, decode}
use Rattle.format.specs.Refusals.{verdict}
use Rattle.diagram.specs.Diagram.{diagram_of}
use Rattle.diagram.specs.Listing.{listing, reads}
use Rattle.store.specs.Store.{number_all}
use Rattle.update.specs.Update.{diagram_at, new_diagram, update_builds}
use Rattle.rounds.specs.Layers.{finished_layer, first_layer, next_layer, atoms_of}
use Rattle.rounds.specs.Load.{loaded_store}
use Rattle.rounds.specs.Budget.{layer_cost, cost}
use Rattle.state.specs.Hand.{Lent, Hand, words_in, room, store, zeros}
use Rattle.questions.specs.Questions.{weight_so_far, listed}
use Rattle.fitting.specs.Fit.{fit_together}
use Rattle.calls.specs.Refusals.{
  Table,
  first_of,
  file_refusal,
  file_detail,
  load_tests,
  later,
  update_tests,
  close_tests,
  run_tests,
  weight_tests,
  given_tests,
  listing_tests,
}
use Rattle.calls.specs.Calls.{
  Calls,
  Stepped,
  Ranned,
  Weighing,
  Sharing,
  Listing,
  LayersAnswer,
  cleared,
  evidence_weight,
  both_weight,
}
use Rattle.calls.specs.declared.Counts.{Counts}
use Rattle.demands.specs.Reached.{back, back_from, Reached}

-- ---- 1. "Every file, question and order of calls gets an answer or one of the numbered refusals, and every call ends. .. A refused call
-- leaves the store, the working numbers and the output as they stood, save where document 01 or a later request names what a refusal
-- writes."

-- "Each returns its number and a detail": those of the first row of the table that is due
pub record Refuses (tests : Table) (refusal detail : ℕ) : Type 0 where
  pub number : refusal ≡ (first_of tests).0
  pub detail_is : detail ≡ (first_of tests).1

-- reading: refusals 1 to 11; a file's counts and its total
pub record Reads (s : List ℕ) (r : Counts) : Type 0 where
  pub refusal : r.refusal ≡ file_refusal (verdict s)
  pub detail_is : r.detail ≡ file_detail (verdict s)
  pub counted : r.refusal ≡ 0 →
      (r.facts ≡ length (decode s).facts) × (r.derived ≡ length (decode s).layers) × (r.total ≡ total (decode s).facts)
  pub refused : (r.refusal ≡ 0 → ⊥) → (r.facts ≡ 0) × (r.derived ≡ 0) × (r.total ≡ 0)

-- loading, update and close: a refusal "leaves all lent memory as it was", and the state comes back as it was
pub record Steps (tests : Table) (h : Hand) (u : Stepped) : Type 0 where
  pub refuses : Refuses tests u.answer.refusal u.answer.detail
  pub kept : (u.answer.refusal ≡ 0 → ⊥) → back u ≡ h

-- run: and no outcome and no updates
pub record Runs (tests : Table) (h : Hand) (u : Ranned) : Type 0 where
  pub refuses : Refuses tests u.answer.refusal u.answer.detail
  pub kept : (u.answer.refusal ≡ 0 → ⊥) → (back_from u ≡ h) × (u.answer.outcome ≡ 0) × (u.answer.updates ≡ 0)

-- weight so far, of the present diagram of any hand that fits; "N + 2 working numbers, which are 0 after an answer ..; numbers beyond keep
-- their values"
pub record Weighs (s : List ℕ) (h : Hand) (a : ℕ) (numbers : List ℕ) (u : Weighing) : Type 0 where
  pub refuses : Refuses (later s h (weight_tests s h a numbers)) u.answer.refusal u.answer.detail
  pub answered : u.answer.refusal ≡ 0 → (u.answer.weight ≡ weight_so_far (decode s) (store h) a) × (u.numbers ≡ cleared h numbers)
  pub kept : (u.answer.refusal ≡ 0 → ⊥) → (u.answer.weight ≡ 0) × (u.numbers ≡ numbers)
  pub store_kept : u.lent ≡ h.lent

-- weight given evidence, of the conjunctions; "and takes those nodes back"; ".. or refusal 20"
pub record Shares (s : List ℕ) (h : Hand) (a : ℕ) (evidence numbers : List ℕ) (u : Sharing) : Type 0 where
  pub refuses :
      Refuses (later s h (given_tests s h a evidence numbers (evidence_weight s h evidence))) u.answer.refusal u.answer.detail
  pub answered : u.answer.refusal ≡ 0 →
      (u.answer.both ≡ both_weight s h a evidence) × (u.answer.evidence ≡ evidence_weight s h evidence)
  pub numbers_cleared : (u.answer.refusal ≡ 0) ⊎ (u.answer.refusal ≡ 20) → u.numbers ≡ cleared h numbers
  pub numbers_kept : (u.answer.refusal ≡ 0 → ⊥) → (u.answer.refusal ≡ 20 → ⊥) → u.numbers ≡ numbers
  pub refused : (u.answer.refusal ≡ 0 → ⊥) → (u.answer.both ≡ 0) × (u.answer.evidence ≡ 0)
  pub store_kept : u.lent ≡ h.lent

-- listing, of the present diagram; "Bytes beyond are kept."
pub record Lists (s : List ℕ) (h : Hand) (a : ℕ) (out : List ℕ) (u : Listing) : Type 0 where
  pub refuses : Refuses (later s h (listing_tests s h a out (listed (decode s) (store h) a))) u.answer.refusal u.answer.detail
  pub answered : u.answer.refusal ≡ 0 →
      (u.answer.length ≡ length (listed (decode s) (store h) a)) ×
      (u.out ≡ listed (decode s) (store h) a ++ drop u.answer.length out)
  pub kept : (u.answer.refusal ≡ 0 → ⊥) → (u.answer.length ≡ 0) × (u.out ≡ out)
  pub store_kept : u.lent ≡ h.lent

-- every call, with every file, memory and number
pub record Answers (calls : Calls) : Type 0 where
  pub read : (s : List ℕ) → Reads s (calls.read s)
  pub load : (s : List ℕ) (l : Lent) → Steps (load_tests s l) (record { lent = l; state = zeros }) (calls.load s l)
  pub update : (s : List ℕ) (h : Hand) (a : ℕ) → Steps (later s h (update_tests s h a)) h (calls.update s h a)
  pub close : (s : List ℕ) (h : Hand) → Steps (later s h (close_tests s h)) h (calls.close s h)
  pub run : (s : List ℕ) (h : Hand) (budget : ℕ) → Runs (later s h (run_tests s h)) h (calls.run s h budget)
  pub weight : (s : List ℕ) (h : Hand) (a : ℕ) (numbers : List ℕ) → Weighs s h a numbers (calls.weight s h a numbers)
  pub given : (s : List ℕ) (h : Hand) (a : ℕ) (evidence numbers : List ℕ) →
      Shares s h a evidence numbers (calls.given s h a evidence numbers)
  pub listing : (s : List ℕ) (h : Hand) (a : ℕ) (out : List ℕ) → Lists s h a out (calls.listing s h a out)
  -- the smallest layers or why there are none, of any file of bytes (document 02, L4)
  pub layers : (s out : List ℕ) → Bytes s → LayersAnswer s out (calls.layers s out)

-- ---- 2. "As long as the bench lends the same file and hands back the store and numbers as it got them (3 assumes this too): at the
-- finish, a branch's weight is exactly the summed weight of those choices of facts whose model, built layer by layer from nothing, holds
-- the branch; with observations, both weights are exact. Before the finish, after any order of updates, the weight shown is never above
-- that sum."

-- the count of nodes is that of the store; "Unused entries among the N are zero"; "entries beyond, like atom places beyond 544, keep their
-- values"
pub record Tidy (l : Lent) (h : Hand) : Type 0 where
  pub count : h.state.nodes ≡ length (store h).nodes
  pub unused : drop h.state.nodes (words_in h.lent.nodes) ≡ replicate (room h - h.state.nodes) 0
  pub nodes_beyond : drop 4096 h.lent.nodes ≡ drop 4096 l.nodes
  pub places_beyond : drop 544 h.lent.places ≡ drop 544 l.places
  pub nodes_long : length h.lent.nodes ≡ length l.nodes
  pub places_long : length h.lent.places ≡ length l.places

-- "Loading builds the F fact nodes, numbers 2 to F+1; all other places are 0." "The layer in work starts at the lowest layer that has
-- atoms."
pub record Loaded (P : Program) (l : Lent) (h : Hand) : Type 0 where
  pub holds_it : store h ≡ loaded_store P
  pub layer : h.state.layer ≡ first_layer P
  pub tidy : Tidy l h

-- "The atom then gets that sum; no other atom changes." "New nodes of a built function get the next numbers in listing order."
pub record Updated (P : Program) (h : Hand) (a : ℕ) (h₁ : Hand) : Type 0 where
  pub gets : diagram_at (store h₁) a ≡ new_diagram P (store h) a
  pub others : (b : ℕ) → (b ≡ a → ⊥) → get_or h₁.lent.places b 0 ≡ get_or h.lent.places b 0
  pub numbered : (store h₁).nodes ≡ number_all (store h).nodes (update_builds P (store h) a)
  pub layer : h₁.state.layer ≡ h.state.layer
  pub tidy : Tidy h.lent h₁

-- "If none stops it, the next layer that has atoms is in work, or the run is finished."
abbrev pub closed_hand : List ℕ → Hand → Hand
closed_hand s h = record {
  lent = h.lent;
  state = record { layer = next_layer (decode s) h.state.layer; nodes = h.state.nodes };
}

-- updates of these atoms, one call after another, none of them refused
pub data Each (calls : Calls) (s : List ℕ) : Hand → List ℕ → Hand → Type 0 where
  none : {h : Hand} → Each calls s h [] h
  next : {h h₁ : Hand} {a : ℕ} {l : List ℕ} → (calls.update s h a).answer.refusal ≡ 0 → Each calls s (back (calls.update s h a)) l h₁ →
      Each calls s h (a ∷ l) h₁

-- the atoms of the layer in work, "in ascending order"
abbrev pub in_work : List ℕ → Hand → List ℕ
in_work s h = atoms_of (decode s) h.state.layer

-- whole rounds, with so many updates: "round after round; after a full round that changed no atom it closes the layer, free of charge"
pub data Rounds (calls : Calls) (s : List ℕ) : Hand → ℕ → Hand → Type 0 where
  none : {h : Hand} → Rounds calls s h 0 h
  round : {h h₁ h₂ : Hand} {n : ℕ} → Each calls s h (in_work s h) h₁ → (h₁.lent.places ≡ h.lent.places → ⊥) →
      Rounds calls s h₁ n h₂ → Rounds calls s h (length (in_work s h) + n) h₂
  closing : {h h₁ h₂ : Hand} {n : ℕ} → Each calls s h (in_work s h) h₁ → h₁.lent.places ≡ h.lent.places →
      (calls.close s h₁).answer.refusal ≡ 0 → Rounds calls s (back (calls.close s h₁)) n h₂ →
      Rounds calls s h (length (in_work s h) + n) h₂

-- "It answers finished, spent or full": 1, 2 or 3. "Finished comes before spent, spent before full"; full is that of the next update
pub data Ends (calls : Calls) (s : List ℕ) (budget : ℕ) (rest : List ℕ) (u : Ranned) : Type 0 where
  finished : u.answer.outcome ≡ 1 → u.answer.state.layer ≡ finished_layer → Ends calls s budget rest u
  spent : u.answer.outcome ≡ 2 → (u.answer.state.layer ≡ finished_layer → ⊥) → u.answer.updates ≡ budget → Ends calls s budget rest u
  full : {a : ℕ} {l : List ℕ} → u.answer.outcome ≡ 3 → (u.answer.state.layer ≡ finished_layer → ⊥) → u.answer.updates < budget →
      rest ≡ a ∷ l → (calls.update s (back_from u) a).answer.refusal ≡ 12 → Ends calls s budget rest u

-- "with the number of updates made, and the state is that after exactly those updates": whole rounds, then the begun part of one more
pub record RunAs (calls : Calls) (s : List ℕ) (budget : ℕ) (h : Hand) (u : Ranned) : Type 0 where
  pub whole : ℕ
  pub between : Hand
  pub rounds : Rounds calls s h whole between
  pub begun : List ℕ
  pub rest : List ℕ
  pub order : in_work s between ≡ begun ++ rest
  pub part : Each calls s between begun (back_from u)
  pub unfinished : (begun ≡ []) ⊎ (rest ≡ [] → ⊥)
  pub count : u.answer.updates ≡ whole + length begun
  pub within : u.answer.updates ≤ budget
  pub ends : Ends calls s budget rest u

-- updates of one layer as a run makes them: rounds that changed an atom, then one more round or its begun part; with so many updates
pub data InLayer (calls : Calls) (s : List ℕ) : Hand → ℕ → Type 0 where
  part : {h h₁ : Hand} {begun : List ℕ} (rest : List ℕ) → in_work s h ≡ begun ++ rest → Each calls s h begun h₁ →
      InLayer calls s h (length begun)
  round : {h h₁ : Hand} {n : ℕ} → Each calls s h (in_work s h) h₁ → (h₁.lent.places ≡ h.lent.places → ⊥) →
      InLayer calls s h₁ n → InLayer calls s h (length (in_work s h) + n)

-- weight so far, of what the calls gave back; facts and the atoms of closed layers need not wait for the finish
pub record Weighed (s : List ℕ) (h : Hand) (a : ℕ) (numbers : List ℕ) (u : Weighing) : Type 0 where
  pub refusal : u.answer.refusal ≡ (first_of (weight_tests s h a numbers)).0
  pub never_above : u.answer.refusal ≡ 0 → u.answer.weight ≤ weight_of (decode s) a
  pub settled : u.answer.refusal ≡ 0 → layer_of (decode s) a < h.state.layer → u.answer.weight ≡ weight_of (decode s) a
  pub exact : u.answer.refusal ≡ 0 → h.state.layer ≡ finished_layer → u.answer.weight ≡ weight_of (decode s) a

-- weight given evidence, which is refused before the finish; 20 goes by the meaning of the evidence
pub record Shared (s : List ℕ) (h : Hand) (a : ℕ) (evidence numbers : List ℕ) (u : Sharing) : Type 0 where
  pub refusal : u.answer.refusal ≡ (first_of (given_tests s h a evidence numbers (given (decode s) a (map literal evidence)).evidence)).0
  pub exact : u.answer.refusal ≡ 0 →
      (u.answer.both ≡ (given (decode s) a (map literal evidence)).both) ×
      (u.answer.evidence ≡ (given (decode s) a (map literal evidence)).evidence)

pub record Exact (calls : Calls) : Type 0 where
  -- when each call is refused: loading in any memory, the others with what the calls gave back, which fits together;
  pub load_refused : (s : List ℕ) (l : Lent) → (calls.load s l).answer.refusal ≡ (first_of (load_tests s l)).0
  pub update_refused : (s : List ℕ) → Bytes s → (h : Hand) → Reached calls s h → (a : ℕ) →
      (calls.update s h a).answer.refusal ≡ (first_of (update_tests s h a)).0
  pub close_refused : (s : List ℕ) → Bytes s → (h : Hand) → Reached calls s h →
      (calls.close s h).answer.refusal ≡ (first_of (close_tests s h)).0
  pub run_refused : (s : List ℕ) → Bytes s → (h : Hand) → Reached calls s h → (budget : ℕ) →
      (calls.run s h budget).answer.refusal ≡ (first_of (run_tests s h)).0
  pub fits : (s : List ℕ) → Bytes s → (h : Hand) → Reached calls s h → fit_together s h ≡ true
  -- what it then does,
  pub load : (s : List ℕ) (l : Lent) → (calls.load s l).answer.refusal ≡ 0 → Loaded (decode s) l (back (calls.load s l))
  pub update : (s : List ℕ) (h : Hand) (a : ℕ) → (calls.update s h a).answer.refusal ≡ 0 →
      Updated (decode s) h a (back (calls.update s h a))
  pub close : (s : List ℕ) (h : Hand) → (calls.close s h).answer.refusal ≡ 0 → back (calls.close s h) ≡ closed_hand s h
  pub run : (s : List ℕ) → Bytes s → (h : Hand) (budget : ℕ) → (calls.run s h budget).answer.refusal ≡ 0 →
      RunAs calls s budget h (calls.run s h budget)
  -- "bounded by n × (n + 1) per layer",
  pub bound : (s : List ℕ) → Bytes s → (h : Hand) → Reached calls s h → (n : ℕ) → InLayer calls s h n →
      n ≤ layer_cost (decode s) h.state.layer
  -- "a budget of the sum of n × (n + 1) over the remaining layers of n atoms gives finished or full",
  pub enough : (s : List ℕ) → Bytes s → (h : Hand) → Reached calls s h → (budget : ℕ) → cost (decode s) h.state.layer ≤ budget →
      ((calls.run s h budget).answer.outcome ≡ 1) ⊎ ((calls.run s h budget).answer.outcome ≡ 3)
  -- and the weights
  pub weight : (s : List ℕ) → Bytes s → (h : Hand) → Reached calls s h → (a : ℕ) (numbers : List ℕ) →
      Weighed s h a numbers (calls.weight s h a numbers)
  pub given : (s : List ℕ) → Bytes s → (h : Hand) → Reached calls s h → (a : ℕ) (evidence numbers : List ℕ) →
      Shared s h a evidence numbers (calls.given s h a evidence numbers)

-- ---- 3. "Take two finished runs over files with equally many facts, however their rules and updates were ordered. The listings of a
-- branch from each, where both are given, are the same bytes exactly when the two branches hold under the same choices. Read by the
-- published rule, a listing says yes to a choice exactly when its branch holds there."

-- the listing of the choices that hold an atom, which no search and no order has a part in
abbrev pub listing_of : Program → ℕ → List ℕ
listing_of P a = listing (length P.facts) (diagram_of (length P.facts) 0 (holds P a))

-- the bytes of a listing
abbrev pub written : Listing → List ℕ
written u = take u.answer.length u.out

pub record Canonical (calls : Calls) : Type 0 where
  -- when it is given, and what it is,
  pub given_when : (s : List ℕ) → Bytes s → (h : Hand) → Reached calls s h → (a : ℕ) (out : List ℕ) →
      (calls.listing s h a out).answer.refusal ≡ (first_of (listing_tests s h a out (listing_of (decode s) a))).0
  pub bytes : (s : List ℕ) → Bytes s → (h : Hand) → Reached calls s h → (a : ℕ) (out : List ℕ) →
      (calls.listing s h a out).answer.refusal ≡ 0 → written (calls.listing s h a out) ≡ listing_of (decode s) a
  pub same : (s t : List ℕ) → Bytes s → Bytes t → (h g : Hand) → Reached calls s h → Reached calls t g →
      length (decode s).facts ≡ length (decode t).facts → (a b : ℕ) (out more : List ℕ) →
      (calls.listing s h a out).answer.refusal ≡ 0 → (calls.listing t g b more).answer.refusal ≡ 0 →
      (written (calls.listing s h a out) ≡ written (calls.listing t g b more)) ↔
      ((c : Choice) → length c ≡ length (decode s).facts → holds (decode s) a c ≡ holds (decode t) b c)
  pub read : (s : List ℕ) → Bytes s → (h : Hand) → Reached calls s h → (a : ℕ) (out : List ℕ) →
      (calls.listing s h a out).answer.refusal ≡ 0 → (c : Choice) → length c ≡ length (decode s).facts →
      reads (written (calls.listing s h a out)) c ≡ holds (decode s) a c

-- ---- the demands

pub record Demands (calls : Calls) : Type 0 where
  pub one : Answers calls
  pub two : Exact calls
  pub three : Canonical calls
