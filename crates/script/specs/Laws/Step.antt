-- One instruction: when its numbers are valid, that they build what it says, and that the call which it stands for builds just that.
use Rattle.std.specs.Prelude.{◌≡◌, false, List, ℕ, ◌-◌, ◌/◌, ◌≤◌, ◌<◌, ltb, length, get_or, Result}
use Rattle.std.proofs.Math.Path.{refl}
use Rattle.std.proofs.Common.{ap, arith}
use borrow.Author.Tests.{eq-eqb, ne_eqb, lt-ltb, le-ltb}
use Rattle.diagram.specs.Diagram.{Good, fact_diagram}
use Rattle.diagram.specs.Listing.{add, number}
use Rattle.diagram.specs.declared.Node.{Node}
use Rattle.store.specs.Store.{nodes_in}
use Rattle.store.specs.Kept as stores
use Rattle.store.specs.Calls.{Outcome, MakeAsked}
use Rattle.store.specs.declared.Full.{Full}
use Rattle.store.specs.declared.Store.{Store}
use Rattle.combine.specs.Memo.{absorbing}
use Rattle.combine.specs.Calls.{Kept, CombineAsked, Combined, NegateAsked, Negated}
use Rattle.combine.specs.Live.{with_store}
use Rattle.combine.specs.declared.Builder.{Builder}
use Rattle.combine.specs.declared.Op.{Op}
use Rattle.combine.specs.declared.Op.TheVariants as op
use Rattle.combine.specs.Laws.Live.{combine-asked, negate-asked, combine-turned, negate-turned, store-turned}
use Rattle.script.specs.Script.{State, steps, is_valid, builds}
use Rattle.script.specs.Calls.{Means, Fits, built, StepAsked, StepDone}
use Rattle.script.specs.declared.Instruction.{Instruction}
use Rattle.script.specs.declared.Instruction.TheVariants as instruction

-- ---- the number of instructions

-- those of the script where there is room,
pub steps-whole : (s : List ℕ) (room : ℕ) → length s / 5 < room → length s / 5 ≡ steps s room
steps-whole s room h = rw (lt-ltb (length s / 5) room h) refl

-- and otherwise as many as there is room for
pub steps-room : (s : List ℕ) (room : ℕ) → room ≤ length s / 5 → room ≡ steps s room
steps-room s room h = rw (le-ltb (length s / 5) room h) refl

-- ---- the test of an instruction

module _ (o x y made : ℕ) where
  -- a fact is tested by its number,
  pub valid-fact : o ≡ 0 → ltb x 32 ≡ is_valid o x y made
  valid-fact e = rw (eq-eqb o 0 e) refl

  -- a negation by its one result,
  pub valid-not : o ≡ 3 → ltb x made ≡ is_valid o x y made
  valid-not e = rw (ne_eqb o 0 (λ q. omega arith), eq-eqb o 3 e) refl

  -- an operation that is none is refused,
  pub valid-none : 3 < o → false ≡ is_valid o x y made
  valid-none h = rw (ne_eqb o 0 (λ q. omega arith), ne_eqb o 3 (λ q. omega arith), lt-ltb 3 o h) refl

  module _ (a : o ≡ 0 → ⊥) (b : o ≡ 3 → ⊥) (h : o ≤ 3) where
    -- and so is one whose second result is none yet;
    pub valid-second : made ≤ y → false ≡ is_valid o x y made
    valid-second le = rw (ne_eqb o 0 a, ne_eqb o 3 b, le-ltb 3 o h, le-ltb y made le) refl

    -- the first is then tested
    pub valid-both : y < made → ltb x made ≡ is_valid o x y made
    valid-both lt = rw (ne_eqb o 0 a, ne_eqb o 3 b, le-ltb 3 o h, lt-ltb y made lt) refl

module _ (o x y made : ℕ) where
  fact-in : (i : Instruction) → Means o x y i → Fits made i → o ≡ 0 → x < 32
  fact-in (instruction.Fact f) m fits e = rw m.1 at fits
  fact-in (instruction.Both p a b) m fits e = absurd (omega (arith, m.0))
  fact-in (instruction.Not a) m fits e = absurd (omega (arith, m.0))

  first-in : (i : Instruction) → Means o x y i → Fits made i → (o ≡ 0 → ⊥) → x < made
  first-in (instruction.Fact f) m fits a = absurd (a m.0)
  first-in (instruction.Both p k l) m fits a = rw m.1 at fits.0
  first-in (instruction.Not k) m fits a = rw m.1 at fits

  second-in : (i : Instruction) → Means o x y i → Fits made i → (o ≡ 0 → ⊥) → (o ≡ 3 → ⊥) → y < made
  second-in (instruction.Fact f) m fits a b = absurd (a m.0)
  second-in (instruction.Both p k l) m fits a b = rw m.2 at fits.1
  second-in (instruction.Not k) m fits a b = absurd (b m.0)

module _ (o x y : ℕ) where
  not-is : (i : Instruction) → Means o x y i → o ≡ 3 → i ≡ instruction.Not x
  not-is (instruction.Fact f) m e = absurd (omega (arith, m.0))
  not-is (instruction.Both op.And a b) m e = absurd (omega (arith, m.0))
  not-is (instruction.Both op.Or a b) m e = absurd (omega (arith, m.0))
  not-is (instruction.Not a) m e = ap instruction.Not m.1

  both-is : (i : Instruction) → Means o x y i → (o ≡ 0 → ⊥) → (o ≡ 3 → ⊥) →
      (p : Op) × (i ≡ instruction.Both p x y) × (o - 1 ≡ absorbing p)
  both-is (instruction.Fact f) m a b = absurd (a m.0)
  both-is (instruction.Both p k l) m a b = (p, (λ j. instruction.Both p (m.1 j) (m.2 j)), omega (arith, m.0))
  both-is (instruction.Not k) m a b = absurd (b m.0)

-- ---- what it builds

-- the numbers of an instruction build what it does
pub means-builds : (st : State) (o x y : ℕ) (i : Instruction) → Means o x y i → builds st o x y ≡ built st i
unfolding builds
means-builds st o x y (instruction.Fact f) m = rw (m.0, m.1) refl
means-builds st o x y (instruction.Both op.And a b) m = rw (m.0, m.1, m.2) refl
means-builds st o x y (instruction.Both op.Or a b) m = rw (m.0, m.1, m.2) refl
means-builds st o x y (instruction.Not a) m = rw (m.0, m.1) refl

fact-number : (ns : List Node) (x : ℕ) → number ns (fact_diagram x) ≡ add ns (record { fact = x; low = 0; high = 1 })
unfolding number
fact-number ns x = refl

fact-good : (x : ℕ) → x < 32 → Good 32 0 (fact_diagram x)
fact-good x h = (omega arith, h, tt, tt, λ e. let z : ◌≡◌ {A = ℕ} 0 1 = cc in omega arith)

module _ {b : Builder} {results : List ℕ} {i : Instruction} (asked : StepAsked b results i) where
  module _ (o x y : ℕ) (means : Means o x y i) where
    -- what the node of a fact asks,
    pub fact-asked : o ≡ 0 → MakeAsked b.store.now.words.now b.store.now.count (record { fact = x; low = 0; high = 1 })
    fact-asked e =
        let h = fact-in o x y (length results) i means asked.fits e in
        record {
          used = asked.live.ready.used;
          room = asked.live.ready.room;
          small = omega arith;
          low_small = omega arith;
          high_small = omega arith;
        }

    module _ (a : o ≡ 0 → ⊥) where
      -- the first result of an operation is there,
      pub first-there : x < length results
      first-there = first-in o x y (length results) i means asked.fits a

      -- what a negation asks,
      pub not-asked : NegateAsked b.store.now.words.now b.image.now b.store.now.count 32 (get_or results x 0)
      not-asked = negate-asked asked.live (asked.inside x first-there)

      module _ (c : o ≡ 3 → ⊥) where
        -- the second result is there too,
        pub second-there : y < length results
        second-there = second-in o x y (length results) i means asked.fits a c

        -- and what a combination asks
        pub two-asked :
            CombineAsked b.store.now.words.now b.memo.now b.store.now.count 32 (get_or results x 0) (get_or results y 0)
        two-asked = combine-asked asked.live (asked.inside x first-there) (asked.inside y second-there)

  -- a fact is built by its node,
  pub fact-step : {x : ℕ} → i ≡ instruction.Fact x → {s : Store} → stores.Kept b.store.now s → (r : Result ℕ Full) →
      Outcome b.store.now.words.now s.words.now b.store.now.count
      (add (nodes_in b.store.now.words.now b.store.now.count) (record { fact = x; low = 0; high = 1 })) s.count r →
      StepDone b (with_store b s) results i r
  fact-step {x} is {s} kept r out =
      let fits = rw is at asked.fits in
      rw is (store-turned asked.live kept (fact_diagram x) (fact-good x fits) r
      (rw (fact-number (nodes_in b.store.now.words.now b.store.now.count) x) out))

  -- a conjunction or a disjunction by a combination,
  pub both-step : {o : Op} {x y : ℕ} → i ≡ instruction.Both o x y → {b₁ : Builder} → Kept b b₁ →
      b₁.image.now ≡ b.image.now → (r : Result ℕ Full) →
      Combined b.store.now.words.now b₁.store.now.words.now b₁.memo.now b.store.now.count (absorbing o) (get_or results x 0)
      (get_or results y 0) b₁.store.now.count r →
      StepDone b b₁ results i r
  both-step {o} {x} {y} is kept image r out =
      let fits : (x < length results) × (y < length results) = rw is at asked.fits in
      rw is (combine-turned asked.live kept r (asked.inside x fits.0) (asked.inside y fits.1) image out)

  -- and a negation by one
  pub not-step : {x : ℕ} → i ≡ instruction.Not x → {b₁ : Builder} → Kept b b₁ → b₁.memo.now ≡ b.memo.now →
      (r : Result ℕ Full) →
      Negated b.store.now.words.now b₁.store.now.words.now b₁.image.now b.store.now.count (get_or results x 0) b₁.store.now.count r →
      StepDone b b₁ results i r
  not-step {x} is kept memo r out =
      let fits : x < length results = rw is at asked.fits in
      rw is (negate-turned asked.live kept r (asked.inside x fits) memo out)

  module _ (o x y : ℕ) (means : Means o x y i) (a : o ≡ 0 → ⊥) {b₁ : Builder} (kept : Kept b b₁) (r : Result ℕ Full) where
    -- the same by the instruction's numbers, of a negation,
    pub not_step : o ≡ 3 → b₁.memo.now ≡ b.memo.now →
        Negated b.store.now.words.now b₁.store.now.words.now b₁.image.now b.store.now.count (get_or results x 0) b₁.store.now.count r →
        StepDone b b₁ results i r
    not_step e memo out = not-step (not-is o x y i means e) kept memo r out

    -- and of a conjunction or a disjunction
    pub two-step : (o ≡ 3 → ⊥) → b₁.image.now ≡ b.image.now →
        Combined b.store.now.words.now b₁.store.now.words.now b₁.memo.now b.store.now.count (o - 1) (get_or results x 0)
        (get_or results y 0) b₁.store.now.count r →
        StepDone b b₁ results i r
    two-step c image out =
        let (p, is, k) = both-is o x y i means a c in
        both-step is kept image r (rw k at out)
