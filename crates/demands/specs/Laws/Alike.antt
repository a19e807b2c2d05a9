-- Calls whose updates and closings are the same make the same runs.
use Rattle.std.specs.Prelude.{◌≡◌, List, ℕ}
use Rattle.std.proofs.Common.{sym, ap, subst, ◌∙◌}
use Rattle.state.specs.Hand.{Hand}
use Rattle.calls.specs.Calls.{Calls, Ranned}
use Rattle.demands.specs.Reached.{back}
use Rattle.demands.specs.Demands.{Each, Rounds, Ends, RunAs}

module _ {c d : Calls} {s : List ℕ} (updates : (h : Hand) (a : ℕ) → c.update s h a ≡ d.update s h a)
    (closes : (h : Hand) → c.close s h ≡ d.close s h) where
  each-alike : {h h₁ : Hand} {l : List ℕ} → Each c s h l h₁ → Each d s h l h₁
  each-alike Each.none = Each.none
  each-alike {h₁ = h₁} (Each.next {h = h} {a = a} {l = l} r e) =
      Each.next (sym (ap (λ u. u.answer.refusal) (updates h a)) ∙ r)
      (subst (λ u. Each d s (back u) l h₁) (updates h a) (each-alike e))

  rounds-alike : {h h₁ : Hand} {n : ℕ} → Rounds c s h n h₁ → Rounds d s h n h₁
  rounds-alike Rounds.none = Rounds.none
  rounds-alike (Rounds.round e p r) = Rounds.round (each-alike e) p (rounds-alike r)
  rounds-alike {h₁ = h₂} (Rounds.closing {h₁ = h₁} {n = n} e p q r) =
      Rounds.closing (each-alike e) p (sym (ap (λ u. u.answer.refusal) (closes h₁)) ∙ q)
      (subst (λ u. Rounds d s (back u) n h₂) (closes h₁) (rounds-alike r))

  ends-alike : {budget : ℕ} {rest : List ℕ} {u : Ranned} → Ends c s budget rest u → Ends d s budget rest u
  ends-alike (Ends.finished o l) = Ends.finished o l
  ends-alike (Ends.spent o l p) = Ends.spent o l p
  ends-alike (Ends.full o l p r f) = Ends.full o l p r (sym (ap (λ u. u.answer.refusal) (updates _ _)) ∙ f)

  pub run-alike : {budget : ℕ} {h : Hand} {u : Ranned} → RunAs c s budget h u → RunAs d s budget h u
  run-alike r = record {
    whole = r.whole;
    between = r.between;
    rounds = rounds-alike r.rounds;
    begun = r.begun;
    rest = r.rest;
    order = r.order;
    part = each-alike r.part;
    unfinished = r.unfinished;
    count = r.count;
    within = r.within;
    ends = ends-alike r.ends;
  }
