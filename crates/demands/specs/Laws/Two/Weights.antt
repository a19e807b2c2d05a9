-- Demand 2's part of weight so far: 13 and 19 in order, and a weight that is never above the true one and at the finish is the true one.
use Rattle.std.specs.Prelude.{◌≡◌, not, List, ℕ, ◌≤◌, ◌<◌}
use Rattle.std.proofs.Common.{ap, ◌∙◌}
use Rattle.meaning.specs.Meaning.{Program, Layered, atoms, layer_of, holds, weight_of}
use Rattle.meaning.proofs.Laws.Weights.{weigh-same}
use Rattle.format.specs.Bytes.{Bytes}
use Rattle.update.specs.Update.{Store}
use Rattle.update.specs.Laws.Held.{present}
use Rattle.rounds.specs.Reached.{Reached as Reached-store}
use Rattle.rounds.specs.Laws.Reached.{exact_below}
use Rattle.questions.specs.Questions.{weight_so_far}
use Rattle.questions.proofs.Laws.Answers.{weight-so-far-below, weight-so-far-exact}
use Rattle.state.specs.Hand.{Hand}
use Rattle.calls.specs.Refusals.{Table, first_of, later, weight_tests}
use Rattle.calls.specs.Calls.{Layering, weight_host, ours}
use Rattle.demands.specs.Demands.{Weighed, Weighs}
use Rattle.demands.specs.Reached.{Reached}
use Rattle.demands.specs.Laws.Ground.{Ground, ground, finished}
use Rattle.demands.specs.Laws.One.{ours-weight}
use Rattle.demands.specs.Laws.Tables.{first-no}

-- where all fits together, 36 is not due
pub fit-first : {s : List ℕ} {h : Hand} → Ground s h → (ts : Table) → (first_of (later s h ts)).0 ≡ (first_of ts).0
fit-first {s} {h} g ts = ap (λ x. x.0) (first-no (36, 0, _) ts (ap not g.fit))

-- the atoms of closed layers weigh what they will at the finish
settled-weight : {P : Program} → Layered P → atoms P ≤ 544 → {k : ℕ} {st : Store} → Reached-store P k st → (a : ℕ) → layer_of P a < k →
    weight_so_far P st a ≡ weight_of P a
unfolding weight_of
settled-weight {P} w few {st = st} r a lt = weigh-same P.facts (present st a) (holds P a) (exact_below w few r a lt)

-- the field `weight` of Exact
pub ours-weighed : {layers : List ℕ → List ℕ → Layering} (s : List ℕ) → Bytes s → (h : Hand) → Reached (ours layers) s h →
    (a : ℕ) (numbers : List ℕ) → Weighed s h a numbers (weight_host s h a numbers)
ours-weighed s bytes h r a numbers =
    let g : Ground s h = ground bytes r in
    let w : Weighs s h a numbers (weight_host s h a numbers) = ours-weight s h a numbers in
    record {
      refusal = w.refuses.number ∙ fit-first g (weight_tests s h a numbers);
      never_above = λ z. rw (w.answered z).0 (weight-so-far-below g.layered g.few g.reached a);
      settled = λ z lt. (w.answered z).0 ∙ settled-weight g.layered g.few g.reached a lt;
      exact = λ z e. (w.answered z).0 ∙ weight-so-far-exact g.layered g.few (finished g e) a;
    }
