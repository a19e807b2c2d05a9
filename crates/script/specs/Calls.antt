-- What the functions of a script ask and answer, and what the lent words, tables and results then hold.
use Rattle.std.specs.Prelude.{
  ◌≡◌,
  true,
  false,
  List,
  ◌++◌,
  map,
  ℕ,
  ◌+◌,
  ◌-◌,
  ◌≤◌,
  ◌<◌,
  eqb,
  length,
  get_or,
  drop,
  replicate,
  Option,
  Some,
  None,
  Result,
}
use Rattle.diagram.specs.Diagram.{Diagram, combine, negate, fact_diagram}
use Rattle.diagram.specs.Listing.{number}
use Rattle.store.specs.Store.{pack, nodes_in}
use Rattle.store.specs.declared.Full.{Full}
use Rattle.combine.specs.Memo.{absorbing}
use Rattle.combine.specs.Live.{Lives, Turned}
use Rattle.combine.specs.declared.Builder.{Builder}
use Rattle.script.specs.Script.{State, Ended, done, bad, full, result_of, is_valid, ran}
use Rattle.script.specs.declared.End.{End}
use Rattle.script.specs.declared.How.TheVariants as how
use Rattle.script.specs.declared.Instruction.{Instruction}
use Rattle.script.specs.declared.Instruction.TheVariants as instruction

-- ---- an instruction

-- an operation's number and the two operands stand for an instruction,
abbrev pub Means : ℕ → ℕ → ℕ → Instruction → Type 0
Means o x y (instruction.Fact f) = (o ≡ 0) × (f ≡ x)
Means o x y (instruction.Both op a b) = (o ≡ 1 + absorbing op) × (a ≡ x) × (b ≡ y)
Means o x y (instruction.Not a) = (o ≡ 3) × (a ≡ x)

-- which has a fact below 32, or only results among the first `made`
abbrev pub Fits : ℕ → Instruction → Type 0
Fits made (instruction.Fact f) = f < 32
Fits made (instruction.Both op a b) = (a < made) × (b < made)
Fits made (instruction.Not a) = a < made

-- there is an instruction exactly where the numbers are valid
abbrev pub Parsed : ℕ → ℕ → ℕ → ℕ → Option Instruction → Type 0
Parsed o x y made (Some i) = (is_valid o x y made ≡ true) × Means o x y i × Fits made i
Parsed o x y made None = is_valid o x y made ≡ false

-- what an instruction builds
abbrev pub built : State → Instruction → Diagram
built st (instruction.Fact f) = fact_diagram f
built st (instruction.Both op a b) = combine (eqb (absorbing op) 1) (result_of st a) (result_of st b)
built st (instruction.Not a) = negate (result_of st a)

-- the state that a builder and the results so far stand for
abbrev pub state_of : Builder → List ℕ → State
state_of b rs = record { nodes = nodes_in b.store.now.words.now b.store.now.count; results = rs }

-- a builder that lives, results that are its nodes, and an instruction of these
pub record StepAsked (b : Builder) (results : List ℕ) (i : Instruction) : Type 0 where
  pub live : Lives b
  pub inside : (j : ℕ) → j < length results → get_or results j 0 < b.store.now.count + 2
  pub fits : Fits (length results) i

-- a turn of the builder
abbrev pub StepDone : Builder → Builder → List ℕ → Instruction → Result ℕ Full → Type 0
StepDone b b₁ results i r = Turned b b₁ (number (state_of b results).nodes (built (state_of b results) i)) r

-- ---- a script

-- the answer in numbers: how it ended, the results and the nodes
abbrev pub answer : Ended → End
answer (done st) = record { how = how.Done; results = length st.results; nodes = length st.nodes }
answer (bad st) = record { how = how.Bad; results = length st.results; nodes = length st.nodes }
answer (full st) = record { how = how.Full; results = length st.results; nodes = length st.nodes }

-- the state at the end
abbrev pub last_of : Ended → State
last_of (done st) = st
last_of (bad st) = st
last_of (full st) = st

-- a builder of at most 4,096 words that are all zeros, with no node yet
pub record RunAsked (b : Builder) (results : List ℕ) : Type 0 where
  pub live : Lives b
  pub none : b.store.now.count ≡ 0
  pub zeros : b.store.now.words.now ≡ replicate (length b.store.now.words.now) 0
  pub few : length results ≤ 65536

-- the store holds the nodes and then zeros; the results stand at the front of what was lent for them
pub record Ran (entry exit results results' script : List ℕ) (r : End) : Type 0 where
  pub answers : r ≡ answer (ran (length entry) script (length results))
  pub words :
      exit ≡ map pack (last_of (ran (length entry) script (length results))).nodes ++
      replicate (length entry - length (last_of (ran (length entry) script (length results))).nodes) 0
  pub kept :
      results' ≡ (last_of (ran (length entry) script (length results))).results ++
      drop (length (last_of (ran (length entry) script (length results))).results) results
