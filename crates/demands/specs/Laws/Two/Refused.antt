-- Demand 2's part of when loading, updates, closings and runs are refused: what the calls gave back fits together, so that 36 is not due.
use Rattle.std.specs.Prelude.{◌≡◌, List, ℕ}
use Rattle.std.proofs.Common.{◌∙◌}
use Rattle.format.specs.Bytes.{Bytes}
use Rattle.state.specs.Hand.{Hand}
use Rattle.calls.specs.Refusals.{first_of, update_tests, close_tests, run_tests}
use Rattle.calls.specs.Calls.{Layering, update_host, close_host, run_host, ours}
use Rattle.demands.specs.Demands.{Answers}
use Rattle.demands.specs.Reached.{Reached}
use Rattle.demands.specs.Laws.Ground.{ground}
use Rattle.demands.specs.Laws.Two.Weights.{fit-first}

module _ {layers : List ℕ → List ℕ → Layering} (answers : Answers (ours layers)) (s : List ℕ) (b : Bytes s) (h : Hand)
    (r : Reached (ours layers) s h) where
  pub update_refused : (a : ℕ) → (update_host s h a).answer.refusal ≡ (first_of (update_tests s h a)).0
  update_refused a = (answers.update s h a).refuses.number ∙ fit-first (ground b r) (update_tests s h a)

  pub close_refused : (close_host s h).answer.refusal ≡ (first_of (close_tests s h)).0
  close_refused = (answers.close s h).refuses.number ∙ fit-first (ground b r) (close_tests s h)

  pub run_refused : (budget : ℕ) → (run_host s h budget).answer.refusal ≡ (first_of (run_tests s h)).0
  run_refused budget = (answers.run s h budget).refuses.number ∙ fit-first (ground b r) (run_tests s h)
