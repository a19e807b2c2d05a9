-- The instructions one after another: what stands between two of them, and that what is left answers what the whole script answers.
-- The words after the nodes are zeros throughout, since a building leaves them, and what had no room is taken back.
use Rattle.std.specs.Prelude.{
  ◌≡◌,
  Bool,
  true,
  false,
  List,
  [],
  ◌∷◌,
  ◌++◌,
  ℕ,
  suc,
  ◌+◌,
  ◌-◌,
  ◌*◌,
  ◌/◌,
  ◌≤◌,
  ◌<◌,
  ltb,
  min,
  length,
  get_or,
  take,
  drop,
  set,
  replicate,
  Some,
  Result,
  Ok,
  Err,
}
use Rattle.std.proofs.Math.Path.{refl, ap}
use Rattle.std.proofs.Common.{
  sym,
  ap₂,
  ◌∙◌,
  add-one,
  length-set,
  take-append-drop,
  length-take-le,
  take-suc-set,
  drop-set-lt,
  drop-drop,
  get_or-take,
  get_or-set_same,
  get_or-set_other,
  lt-ltb,
  le-ltb,
}
use native.Mathlib.Omega.{arith}
use Rattle.std.proofs.Math.Decide.{dec_lt}
use Rattle.diagram.specs.Listing.{Numbered, number}
use Rattle.meaning.specs.Lists.{zeroed}
use Rattle.store.specs.Calls.{Burst}
use Rattle.store.specs.Laws.Nodes.{pack-unpack-all, nodes_in-length}
use Rattle.store.specs.Laws.Filled.{filled-drop}
use Rattle.store.specs.Laws.Code.{zeros-later, words-back-all}
use Rattle.store.specs.declared.Full.{Full}
use Rattle.combine.specs.Live.{Lives}
use Rattle.combine.specs.Calls.{Kept}
use Rattle.combine.specs.declared.Builder.{Builder}
use Rattle.combine.specs.Laws.Live.{turn-node, turn-full, grew-le, kept-refl, kept-trans}
use Rattle.script.specs.Script.{op, first, second, steps, is_valid, State, builds, Ended, done, bad, full, more, run_from, ran}
use Rattle.script.specs.Calls.{Parsed, built, state_of, answer, last_of, RunAsked, StepAsked, StepDone, Ran}
use Rattle.script.specs.declared.End.{End}
use Rattle.script.specs.declared.How.{How}
use Rattle.script.specs.declared.How.TheVariants as how
use Rattle.script.specs.declared.Instruction.{Instruction}
use Rattle.script.specs.Laws.Step.{means-builds}

-- ---- the instructions by their cases

module _ (N : ℕ) (s : List ℕ) (k i : ℕ) (st : State) where
  abbrev next : Numbered
  next = number st.nodes (builds st (op s i) (first s i) (second s i))

  abbrev turn : Bool → Bool → Ended
  turn valid over = elim valid [
    | true ↦ elim over [ true ↦ full st | false ↦ run_from N s k (suc i) (more st next) ]
    | false ↦ bad st
  ]

  run_by : {valid over : Bool} → is_valid (op s i) (first s i) (second s i) i ≡ valid → ltb N (length next.nodes) ≡ over →
      run_from N s (suc k) i st ≡ turn valid over
  unfolding run_from
  run_by v f = λ j. turn (v j) (f j)

-- there are no more instructions than the script has, nor than there is room for
pub steps-few : (s : List ℕ) (room : ℕ) → (5 * steps s room ≤ length s) × (steps s room ≤ room)
steps-few s room = elim (dec_lt (length s / 5) room) [
  | yes h ↦ rw (lt-ltb (length s / 5) room h) (omega arith, omega arith)
  | no h ↦ rw (le-ltb (length s / 5) room (omega arith)) (omega arith, omega arith)
]

-- the lesser of both numbers
pub steps-min : (s : List ℕ) (room : ℕ) → min room (length s / 5) ≡ steps s room
steps-min s room = elim (dec_lt (length s / 5) room) [
  | yes h ↦ rw (lt-ltb (length s / 5) room h) (omega arith)
  | no h ↦ rw (le-ltb (length s / 5) room (omega arith)) (omega arith)
]

-- ---- what stands between two instructions

-- as many words as a builder has
abbrev pub places : Builder → ℕ
places b = length b.store.now.words.now

-- a builder that was `first` at the start, after `made` of the instructions of s; `lent` is what the results were
pub record Standing (start : Builder) (s lent : List ℕ) (b : Builder) (results : List ℕ) (made : ℕ) : Type 0 where
  pub live : Lives b
  pub same : Kept start b
  pub zeros : drop b.store.now.count b.store.now.words.now ≡ replicate (places start - b.store.now.count) 0
  pub inside : (i : ℕ) → i < made → get_or results i 0 < b.store.now.count + 2
  pub long : length results ≡ length lent
  pub kept : drop made results ≡ drop made lent
  pub few : made ≤ steps s (length lent)
  pub left :
      ran (places start) s (length lent) ≡
      run_from (places start) s (steps s (length lent) - made) made (state_of b (take made results))

-- at the start nothing is built
pub nothing_yet : {b : Builder} {lent : List ℕ} (s : List ℕ) → RunAsked b lent → Standing b s lent b lent 0
unfolding ran
nothing_yet {b} {lent} s asked =
    let none = asked.none in
    let all : steps s (length lent) - 0 ≡ steps s (length lent) = omega arith in
    let z : places b - b.store.now.count ≡ places b = omega arith in
    record {
      live = asked.live;
      same = kept-refl b;
      zeros = rw (z, none) asked.zeros;
      inside = λ i h. absurd (omega arith);
      long = refl;
      kept = refl;
      few = omega arith;
      left = rw (all, none) refl;
    }

module _ {start : Builder} {s lent : List ℕ} {b : Builder} {results : List ℕ} {made : ℕ}
    (at : Standing start s lent b results made) where
  abbrev state : State
  state = state_of b (take made results)

  -- the results are there
  results-long : length (take made results) ≡ made
  results-long = length-take-le made results (omega (arith, at.few, at.long, (steps-few s (length lent)).1))

  nodes_long : length state.nodes ≡ b.store.now.count
  nodes_long = nodes_in-length b.store.now.words.now b.store.now.count at.live.ready.used

  -- the words are the nodes and then zeros
  words-now : b.store.now.words.now ≡ take b.store.now.count b.store.now.words.now ++ replicate (places start - b.store.now.count) 0
  words-now =
      sym (take-append-drop b.store.now.count b.store.now.words.now) ∙
      ap (λ l. take b.store.now.count b.store.now.words.now ++ l) at.zeros

  -- a script that ends here
  ended : {r : End} (exit : List ℕ) → exit ≡ b.store.now.words.now → (e : Ended) → ran (places start) s (length lent) ≡ e →
      last_of e ≡ state → r ≡ answer e → Ran start.store.now.words.now exit lent results s r
  ended exit here e is stands told = record {
    answers = rw is told;
    words = rw (is, stands, nodes_long, pack-unpack-all) (here ∙ words-now);
    kept = rw (is, stands, results-long) (sym (take-append-drop made results) ∙ ap (λ l. take made results ++ l) at.kept);
  }

  -- the answer has the numbers of the state
  abbrev told : How → End
  told h = record { how = h; results = made; nodes = b.store.now.count }

  numbers : (h : How) → told h ≡ record { how = h; results = length state.results; nodes = length state.nodes }
  numbers h = λ j. record { how = h; results = sym results-long j; nodes = sym nodes_long j }

  -- after the last instruction,
  pub run-done : {n : ℕ} → n ≡ made → steps s (length lent) ≤ made →
      Ran start.store.now.words.now b.store.now.words.now lent results s
      (record { how = how.Done; results = n; nodes = b.store.now.count })
  unfolding run_from
  run-done e h =
      let z : steps s (length lent) - made ≡ 0 = omega arith in
      rw e (ended b.store.now.words.now refl (done state) (at.left ∙ ap (λ k. run_from (places start) s k made state) z) refl
      (numbers how.Done))

  module _ (h : made < steps s (length lent)) where
    abbrev after : ℕ
    after = steps s (length lent) - (made + 1)

    left_by : {valid over : Bool} → is_valid (op s made) (first s made) (second s made) made ≡ valid →
        ltb (places start) (length (next (places start) s after made state).nodes) ≡ over →
        ran (places start) s (length lent) ≡ turn (places start) s after made state valid over
    left_by v f =
        let one : steps s (length lent) - made ≡ suc after = omega arith in
        at.left ∙ ap (λ k. run_from (places start) s k made state) one ∙ run_by (places start) s after made state v f

    -- at an instruction that is not valid,
    pub run-bad : is_valid (op s made) (first s made) (second s made) made ≡ false →
        Ran start.store.now.words.now b.store.now.words.now lent results s (told how.Bad)
    run-bad v = ended b.store.now.words.now refl (bad state) (left_by v refl) refl (numbers how.Bad)

    module _ (i : Instruction) (p : Parsed (op s made) (first s made) (second s made) made (Some i)) where
      grows : next (places start) s after made state ≡ number state.nodes (built state i)
      grows = ap (number state.nodes) (means-builds state (op s made) (first s made) (second s made) i p.1)

      -- (a valid one may be built)
      pub may-build : StepAsked b (take made results) i
      may-build =
          let len = results-long in
          record {
            live = at.live;
            inside = λ j lt. rw (get_or-take made results j 0 (omega arith)) (at.inside j (omega arith));
            fits = rw len p.2;
          }

      -- or at one for which there is no room, when what was built of it is taken back;
      module _ (b₁ : Builder) (r : Result ℕ Full) (step : StepDone b b₁ (take made results) i r) where
        burst : {f : Full} → r ≡ Err f →
            Burst b.store.now.words.now b₁.store.now.words.now b.store.now.count (number state.nodes (built state i))
            b₁.store.now.count
        burst = turn-full _ _ _ _ _ _ _ r step.1

        pub run-full : {f : Full} → r ≡ Err f → (exit : List ℕ) →
            exit ≡ zeroed b₁.store.now.words.now b.store.now.count b₁.store.now.count →
            Ran start.store.now.words.now exit lent results s (told how.Full)
        run-full is exit taken =
            let full-here = burst is in
            let over : places start < length (number state.nodes (built state i)).nodes =
            omega (arith, full-here.over, at.same.words_size) in
            let all : b₁.store.now.count ≡ length b₁.store.now.words.now = full-here.all ∙ sym step.0.words_size in
            let back : exit ≡ b.store.now.words.now =
            taken ∙ ap (zeroed b₁.store.now.words.now b.store.now.count) all ∙
            words-back-all b.store.now.words.now b₁.store.now.words.now b.store.now.count at.live.ready.used step.0.words_size
            full-here.kept (rw (← at.same.words_size) at at.zeros) in
            ended exit back (full state) (left_by p.0 (ap (λ g. ltb (places start) (length g.nodes)) grows ∙ lt-ltb _ _ over)) refl
            (numbers how.Full)

        -- and otherwise one more result stands
        pub one_more : {n : ℕ} → r ≡ Ok n → Standing start s lent b₁ (set results made n) (made + 1)
        one_more {n} is =
            let g = turn-node _ _ _ _ _ _ _ r step.1 is in
            let le = grew-le at.live.ready.used g in
            let few = (steps-few s (length lent)).1 in
            let here : made < length results = omega (arith, at.long) in
            let fits = g.filled.fits in
            let size = at.same.words_size in
            let c : ℕ = b₁.store.now.count in
            let rest : drop c b.store.now.words.now ≡ replicate (places start - c) 0 =
            zeros-later b.store.now.words.now b.store.now.count c (places start) le (omega arith) at.zeros in
            record {
              live = g.live;
              same = kept-trans at.same step.0;
              zeros = filled-drop g.filled c (omega arith) ∙ rest;
              inside = λ j lt. elim (dec_lt j made) [
                | yes b ↦ rw (get_or-set_other results made j n 0 (λ e. omega arith)) (omega (arith, at.inside j b))
                | no b ↦ let e : j ≡ made = omega arith in rw (e, get_or-set_same results made n 0 here) g.inside
              ];
              long = simp length-set at.long;
              kept =
                  rw (drop-set-lt (made + 1) results made n (omega arith), ← drop-drop 1 made results, at.kept) (drop-drop 1 made lent);
              few = omega arith;
              left =
                  let result : take made results ++ (number state.nodes (built state i)).node ∷ [] ≡ take (made + 1) (set results made n) =
                  rw (add-one, take-suc-set results made n here) (ap (λ m. take made results ++ m ∷ []) (sym g.filled.node)) in
                  let stands : more state (number state.nodes (built state i)) ≡ state_of b₁ (take (made + 1) (set results made n)) =
                  λ j. record { nodes = sym g.nodes j; results = result j } in
                  left_by p.0 (ap (λ g. ltb (places start) (length g.nodes)) grows ∙
                  le-ltb (places start) (length (number state.nodes (built state i)).nodes) (omega (arith, g.filled.count))) ∙
                  ap (λ g. run_from (places start) s after (suc made) (more state g)) grows ∙
                  ap₂ (run_from (places start) s after) (sym (add-one made)) stands;
            }

-- a script says nothing of the words at entry but how many they are
pub ran-again : {entry entry₁ exit exit₁ lent results s : List ℕ} {r : End} → length entry₁ ≡ length entry → exit ≡ exit₁ →
    Ran entry₁ exit₁ lent results s r → Ran entry exit lent results s r
ran-again e same x = record {
  answers = rw e at x.answers;
  words = same ∙ rw e at x.words;
  kept = rw e at x.kept;
}
