-- Passes one after another: the layers only rise, and after n passes they lie above every walk of up to n steps.
use Rattle.std.specs.Prelude.{◌≡◌, cond, ℕ, zero, suc, ◌+◌, ◌-◌, ◌≤◌, ◌<◌, length}
use Rattle.std.proofs.Common.{◌∙◌, arith}
use mathlib.Core.List.{List, Memᴰ}
use Rattle.std.proofs.lemmas.List.{length-replicate, get_or-replicate}
use Rattle.meaning.specs.Meaning.{Literal, Rule, Program, atoms, Known}
use Rattle.chains.specs.Laws.Legal.{rule-in}
use Rattle.chains.specs.Laws.Walk.{Walk}
use Rattle.layering.specs.Rising.{layer_in, passes}
use Rattle.layering.specs.Laws.Pass.{Below, in-derived, in-below, pass-length, pass_below, pass-asks}

-- there are as many layers as derived atoms
pub passes-length : (P : Program) (n : ℕ) → length (passes P n) ≡ length P.layers
unfolding passes
passes-length P zero = length-replicate (length P.layers) 1
passes-length P (suc n) = pass-length (length P.facts) P.rules (passes P n) ∙ passes-length P n

-- a pass more lowers none
pub passes-below : (P : Program) (n : ℕ) → Below (passes P n) (passes P (suc n))
unfolding passes
passes-below P n = pass_below (length P.facts) P.rules (passes P n)

-- derived atoms start at 1,
pub start-one : (P : Program) (a : ℕ) → length P.facts ≤ a → a < atoms P → layer_in (length P.facts) (passes P 0) a ≡ 1
unfolding passes
start-one P a h k =
    let F = length P.facts in
    in-derived F (passes P 0) a h ∙ get_or-replicate {A = ℕ} (length P.layers) (a - F) 1 0 (omega arith)

-- and are never below
never_less : (P : Program) (n a : ℕ) → length P.facts ≤ a → a < atoms P → 1 ≤ layer_in (length P.facts) (passes P n) a
never_less P zero a h k = omega (arith, start-one P a h k)
never_less P (suc n) a h k =
    omega (arith, never_less P n a h k, in-below (length P.facts) (passes P n) (passes P (suc n)) (passes-below P n) a)

module _ {P : Program} (known : Known P) where
  -- a pass brings each head to what a literal of its body asked before,
  pub passes-asks : {r : Rule} → Memᴰ r P.rules → {l : Literal} → Memᴰ l r.body → (n : ℕ) →
      layer_in (length P.facts) (passes P n) l.atom + cond l.negated 1 0 ≤
      layer_in (length P.facts) (passes P (suc n)) r.head
  unfolding passes
  passes-asks {r} m i n =
      pass-asks (length P.facts) P.rules (passes P n) m (let h = known.heads r m in rw (passes-length P n) h) i

  -- so n passes go above every walk of up to n steps
  pub walk-passes : {a : ℕ} {on : List ℕ} {w : ℕ} → Walk P a on w → (n : ℕ) → length on ≤ n →
      w ≤ layer_in (length P.facts) (passes P n) a
  walk-passes {a} (Walk.stay h k) n z = never_less P n a h k
  walk-passes (Walk.step j h e l i s) zero z = absurd (omega arith)
  walk-passes (Walk.step j h e l i s) (suc n) z =
      rw (← e) (omega (arith, passes-asks (rule-in P j h) i n, walk-passes s n (omega arith)))
