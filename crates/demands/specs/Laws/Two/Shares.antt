-- Demand 2's part of weight given evidence: 17 before the finish; then 18, 13, 19, 12 and 20 in order, where 20 is said exactly of evidence
-- that weighs nothing, and both weights are exact.
use Rattle.std.specs.Prelude.{◌≡◌, refl, Bool, true, false, not, List, ◌∷◌, map, ℕ, eqb}
use Rattle.std.proofs.Common.{sym, ap, ◌∙◌, arith, eqb-true}
use Rattle.meaning.specs.Meaning.{given}
use Rattle.format.specs.Bytes.{Bytes}
use Rattle.format.specs.File.{literal, decode}
use Rattle.rounds.specs.Layers.{finished_layer}
use Rattle.questions.proofs.Laws.Answers.{evidence-exact, both-exact}
use Rattle.state.specs.Hand.{Hand}
use Rattle.calls.specs.Refusals.{Table, first_of, given_tests}
use Rattle.calls.specs.Calls.{Layering, evidence_weight, given_host, ours}
use Rattle.demands.specs.Demands.{Shared}
use Rattle.demands.specs.Reached.{Reached}
use Rattle.demands.specs.Laws.Ground.{Ground, ground, finished}
use Rattle.demands.specs.Laws.One.{ours-given}
use Rattle.demands.specs.Laws.Tables.{first-yes}
use Rattle.demands.specs.Laws.Two.Weights.{fit-first}

-- a table that begins with "17 | not finished" says so before the finish, whatever follows,
pub early : (k : ℕ) (ts us : Table) → eqb k finished_layer ≡ false →
    (first_of ((17, 0, not (eqb k finished_layer)) ∷ ts)).0 ≡ (first_of ((17, 0, not (eqb k finished_layer)) ∷ us)).0
early k ts us e =
    let due : not (eqb k finished_layer) ≡ true = ap not e in
    ap (λ x. x.0) (first-yes (17, 0, _) ts due ∙ sym (first-yes (17, 0, _) us due))

-- and what it does not refuse is finished
pub at_finish : (k : ℕ) (ts : Table) → (first_of ((17, 0, not (eqb k finished_layer)) ∷ ts)).0 ≡ 0 → k ≡ finished_layer
at_finish k ts z = go (eqb k finished_layer) refl
  where
    go : (b : Bool) → eqb k finished_layer ≡ b → k ≡ finished_layer
    go true e = eqb-true k finished_layer e
    go false e =
        let q : ◌≡◌ {A = ℕ} 17 0 = sym (ap (λ x. x.0) (first-yes (17, 0, _) ts (ap not e))) ∙ z in
        absurd (omega arith)

module _ {s : List ℕ} {h : Hand} (g : Ground s h) (a : ℕ) (evidence numbers : List ℕ) where
  abbrev tests : ℕ → Table
  tests weight = given_tests s h a evidence numbers weight

  abbrev true-weight : ℕ
  true-weight = (given (decode s) a (map literal evidence)).evidence

  -- the refusal by the diagram's weight of the evidence is that by the meaning's
  tests_same : (first_of (tests (evidence_weight s h evidence))).0 ≡ (first_of (tests true-weight)).0
  tests_same = go (eqb h.state.layer finished_layer) refl
    where
      go : (b : Bool) → eqb h.state.layer finished_layer ≡ b →
          (first_of (tests (evidence_weight s h evidence))).0 ≡ (first_of (tests true-weight)).0
      go false e = early h.state.layer _ _ e
      go true e =
          ap (λ w. (first_of (tests w)).0)
          (evidence-exact g.layered g.few (finished g (eqb-true _ _ e)) a (map literal evidence))

  given-refusal : (given_host s h a evidence numbers).answer.refusal ≡ (first_of (tests (evidence_weight s h evidence))).0
  given-refusal = (ours-given s h a evidence numbers).refuses.number ∙ fit-first g (tests (evidence_weight s h evidence))

  shared : Shared s h a evidence numbers (given_host s h a evidence numbers)
  shared = record {
    refusal = given-refusal ∙ tests_same;
    exact = λ z.
        let u = (ours-given s h a evidence numbers).answered z in
        let e : h.state.layer ≡ finished_layer = at_finish h.state.layer _ (sym given-refusal ∙ z) in
        let r = finished g e in (
          u.0 ∙ both-exact g.layered g.few r a (map literal evidence),
          u.1 ∙ evidence-exact g.layered g.few r a (map literal evidence),
        );
  }

-- the field `given` of Exact
pub ours-shared : {layers : List ℕ → List ℕ → Layering} (s : List ℕ) → Bytes s → (h : Hand) → Reached (ours layers) s h →
    (a : ℕ) (evidence numbers : List ℕ) → Shared s h a evidence numbers (given_host s h a evidence numbers)
ours-shared s bytes h r a evidence numbers = shared (ground bytes r) a evidence numbers
