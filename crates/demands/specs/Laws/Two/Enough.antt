-- Demand 2 of what the calls gave back: it fits together, and a run with budget enough is finished or full.
use Rattle.std.specs.Prelude.{◌≡◌, refl, ◌⊎◌, List, ℕ, ◌≤◌}
use Rattle.std.proofs.Common.{sym, subst, inl, inr}
use Rattle.format.specs.Bytes.{Bytes}
use Rattle.format.specs.File.{decode}
use Rattle.rounds.specs.Run.{How, Finished, Spent, Full, run}
use Rattle.rounds.specs.Laws.Reached.{reached-standing}
use Rattle.rounds.specs.Budget.{cost}
use Rattle.rounds.specs.Laws.Bound.{run-enough}
use Rattle.state.specs.Hand.{Hand, room, store}
use Rattle.calls.specs.Calls.{Layering, outcome, run_host, ours}
use Rattle.demands.specs.Reached.{Reached}
use Rattle.demands.specs.Laws.Ground.{Ground, ground}
use Rattle.demands.specs.Laws.Holding.{in-hand}
use Rattle.demands.specs.Laws.Ways.{run-answer}

known-how : (w : How) → (w ≡ Spent → ⊥) → (outcome w ≡ 1) ⊎ (outcome w ≡ 3)
known-how Finished n = inl refl
known-how Full n = inr refl
known-how Spent n = absurd (n refl)

-- n × (n + 1) updates for each layer of n atoms are enough
pub ours-enough : {layers : List ℕ → List ℕ → Layering} (s : List ℕ) → Bytes s → (h : Hand) → Reached (ours layers) s h →
    (budget : ℕ) → cost (decode s) h.state.layer ≤ budget →
    ((run_host s h budget).answer.outcome ≡ 1) ⊎ ((run_host s h budget).answer.outcome ≡ 3)
ours-enough s b h r budget le =
    let g : Ground s h = ground b r in
    subst (λ u. (u.answer.outcome ≡ 1) ⊎ (u.answer.outcome ≡ 3)) (sym (run-answer s h budget g.fit))
    (known-how (run (decode s) (room h) budget h.state.layer (store h)).how
    (run-enough g.layered g.few (reached-standing g.layered g.few g.reached) (room h) budget
    (in-hand g.fit).held.used le))
