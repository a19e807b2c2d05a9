-- `fits_in` meets its contract: a part that fails refutes the test, and after all others the rules for nodes tell.
use Rattle.std.proofs.Common.{◌≡◌, ◌∙◌, ◌&&◌, ◌||◌, map, subst, refl, ap, rules, tests, eqb, ltb, ◌+◌}
use Rattle.meaning.specs.Lists.{all}
use Rattle.meaning.proofs.Laws.Tests.{all_is}
use Rattle.format.specs.File.{decode}
use Rattle.store.specs.Store.{unpack, nodes_in, Sound}
use Rattle.store.specs.Calls.{Tells}
use Rattle.rounds.specs.Layers.{finished_layer, has_atoms}
use Rattle.fitting.specs.Fit.{as_loaded, names_in_use}
use Rattle.fitting.specs.Laws.FitParts.{row}
use Rattle.std.proofs.lemmas.Iterator.{YieldsList-from_slice}
use Rattle.std.proofs.lemmas.Iterator.Search.{all_from_yields_List}
use Rattle.fitting.specs.Laws.FitCode as laws
use Rattle.fitting.proofs.fits_in.Goals as goal
use Rattle.fitting.proofs.fits_in.Goals.{
  then-count-program-via-then-count-program,
  then-count-program-via-else-count-program+then-nodes-count,
  then-as_loaded,
  else-as_loaded,
  then-all_zero,
  else-all_zero,
  then-all,
  else-all,
  then-all-2,
  else-all-2,
  Joined-as_loaded,
  Joined-all_zero,
  Joined-all,
  Joined-all-2,
}

pub returns-then-count-program : goal.returns-then-count-program
returns-then-count-program c =
    let n = c.args.program.counted in
    elim c.then-count-program.branch [
      | then-count-program-via-then-count-program w ↦
          laws.no-count c.requires n c.args.state.layer c.args.state.nodes w.if-count-program.true
      | then-count-program-via-else-count-program+then-nodes-count w ↦
          laws.no_room c.requires n c.args.state.layer c.args.state.nodes w.if-nodes-count.true
    ]

-- each test is joined to those before it
zeros-nodes : (c : Joined-as_loaded) → c.if-as_loaded.value ≡ (c.as_loaded.result && all (eqb 0) c.split_at.result.1.now)
zeros-nodes c = elim c.if-as_loaded.branch [
  | then-as_loaded w ↦
      laws.and-then w.if-as_loaded.true w.value-is w.all_zero.ensures
  | else-as_loaded w ↦ laws.and-else _ w.if-as_loaded.false w.value-is
]

zeros-places : (c : Joined-all_zero) → c.if-all_zero.value ≡ (c.if-as_loaded.value && all (eqb 0) c.split_at-2.result.1.now)
zeros-places c = elim c.if-all_zero.branch [
  | then-all_zero w ↦
      laws.and-then w.if-all_zero.true w.value-is
      (all_from_yields_List (eqb 0) _ _ w.all.result w.all.ensures.ran
      (YieldsList-from_slice c.split_at-2.result.1.now cc) (λ x b q k. search (rules, tests)) ∙ all_is (eqb 0) _)
  | else-all_zero w ↦ laws.and-else _ w.if-all_zero.false w.value-is
]

names : (c : Joined-all) → c.if-all.value ≡ (c.if-all_zero.value && names_in_use c.args.state.nodes c.split_at-2.result.0.now)
names c = elim c.if-all.branch [
  | then-all w ↦
      laws.and-then w.if-all.true w.value-is
      (all_from_yields_List (λ p. ltb p (c.args.state.nodes + 2)) _ _ w.all-then-all.result w.all-then-all.ensures.ran
      (YieldsList-from_slice c.split_at-2.result.0.now cc) (λ x b q k. search (rules, tests)) ∙
      all_is (λ p. ltb p (c.args.state.nodes + 2)) _)
  | else-all w ↦ laws.and-else _ w.if-all.false w.value-is
]

at-work : (c : Joined-all-2) →
    c.if-all-2.value ≡
    (c.if-all.value && (eqb c.args.state.layer finished_layer || has_atoms (decode c.args.program.file.now) c.args.state.layer))
at-work c = elim c.if-all-2.branch [
  | then-all-2 w ↦ laws.and-then w.if-all-2.true w.value-is w.in_work.ensures
  | else-all-2 w ↦ laws.and-else _ w.if-all-2.false w.value-is
]

all-tests : (c : Joined-all-2) →
    c.if-all-2.value ≡ row (as_loaded c.args.program.facts (nodes_in c.args.nodes.now c.args.state.nodes) c.args.places.now)
    (laws.others c.requires c.args.program.counted c.args.state.layer c.args.state.nodes)
all-tests c =
    let w = eqb c.args.state.layer finished_layer || has_atoms (decode c.args.program.file.now) c.args.state.layer in
    let z₁ = zeros-nodes (goal.at.Joined-all-2 c).Joined-as_loaded in
    let z₂ = zeros-places (goal.at.Joined-all-2 c).Joined-all_zero in
    let u = names (goal.at.Joined-all-2 c).Joined-all in
    let last = all (eqb 0) c.split_at-2.result.1.now in
    let named = names_in_use c.args.state.nodes c.split_at-2.result.0.now in
    laws.tests-are c.requires c.args.program.counted c.args.state.layer c.args.state.nodes c.split_at.ensures.front c.split_at.ensures.back
    c.atoms.ensures c.split_at-2.ensures.front c.split_at-2.ensures.back c.as_loaded.ensures refl
    (at-work c ∙ ap (λ b. b && w) (u ∙ ap (λ b. b && named) (z₂ ∙ ap (λ b. b && last) z₁)))

pub returns-then-in_work : goal.returns-then-in_work
returns-then-in_work c =
    laws.by-row c.requires c.args.program.counted c.args.state.layer c.args.state.nodes (all-tests
    (goal.at.returns-then-in_work c).Joined-all-2)
    c.if-in_work.true c.if-count-program.false c.if-nodes-count.false _
    (subst (λ ws. Tells c.is_sound.result (Sound c.args.program.facts (map unpack ws)))
    c.split_at.ensures.front c.is_sound.ensures)

pub returns-else-in_work : goal.returns-else-in_work
returns-else-in_work c =
    c.if-in_work.false ∙
    laws.no-tests c.requires c.args.program.counted c.args.state.layer c.args.state.nodes (all-tests
    (goal.at.returns-else-in_work c).Joined-all-2)
    c.if-in_work.false
