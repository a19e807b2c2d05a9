-- How high the layers can rise: a rule's turn raises the highest by one at most.
use Rattle.std.specs.Prelude.{Bool, true, false, cond, ℕ, zero, suc, ◌+◌, ◌*◌, ◌-◌, ◌≤◌, ltb, length, get_or, set, replicate}
use mathlib.Core.List.{List, [], ◌∷◌}
use native.Mathlib.Omega.{arith}
use Rattle.meaning.specs.Meaning.{Literal, Rule, Program}
use Rattle.layering.specs.Rising.{layer_in, asks, pass, passes}
use Rattle.layering.specs.Laws.Pass.{raised}

-- no layer is above b
abbrev pub Low : List ℕ → ℕ → Type 0
Low ls b = (i : ℕ) → get_or ls i 0 ≤ b

set-low : (ls : List ℕ) (h v b : ℕ) → Low ls b → v ≤ b → Low (set ls h v) b
set-low [] h v b p q i = p i
set-low (x ∷ ls) zero v b p q zero = q
set-low (x ∷ ls) zero v b p q (suc i) = p (suc i)
set-low (x ∷ ls) (suc h) v b p q zero = p 0
set-low (x ∷ ls) (suc h) v b p q (suc i) = set-low ls h v b (λ k. p (suc k)) q i

bit-low : (t : Bool) → cond t 1 0 ≤ 1
bit-low true = omega arith
bit-low false = omega arith

module _ (F : ℕ) where
  in_low : (ls : List ℕ) (b : ℕ) → Low ls b → (a : ℕ) → layer_in F ls a ≤ b
  in_low ls b p a = go (ltb a F)
    where
      go : (t : Bool) → cond t 0 (get_or ls (a - F) 0) ≤ b
      go true = omega arith
      go false = p (a - F)

  -- a body asks for at most one more than the highest layer,
  asks-low : (ls : List ℕ) (b : ℕ) → Low ls b → (body : List Literal) → asks F ls body ≤ b + 1
  unfolding asks
  asks-low ls b p [] = omega arith
  asks-low ls b p (l ∷ body) = omega (arith, bit-low l.negated, in_low ls b p l.atom, asks-low ls b p body)

  -- so a rule's turn raises the highest by one at most
  pub raised-low : (r : Rule) (ls : List ℕ) (b : ℕ) → Low ls b → Low (raised F r ls) (b + 1)
  raised-low r ls b p =
      set-low ls (r.head - F) _ (b + 1) (λ i. omega (arith, p i)) (omega (arith, p (r.head - F), asks-low ls b p r.body))

  -- and a pass by as many as there are rules
  pass-low : (rs : List Rule) (ls : List ℕ) (b : ℕ) → Low ls b → Low (pass F rs ls) (b + length rs)
  unfolding pass
  pass-low [] ls b p i = omega (arith, p i)
  pass-low (r ∷ rs) ls b p i = omega (arith, pass-low rs (raised F r ls) (b + 1) (raised-low r ls b p) i)

ones_low : (n : ℕ) → Low (replicate n 1) 1
ones_low zero i = omega arith
ones_low (suc n) zero = omega arith
ones_low (suc n) (suc i) = ones_low n i

-- so n passes over at most 2,048 rules raise none from 1 above 1 + 2,048 × n
pub passes-low : (P : Program) → length P.rules ≤ 2048 → (n : ℕ) → Low (passes P n) (1 + 2048 * n)
unfolding passes
passes-low P h zero i = ones_low (length P.layers) i
passes-low P h (suc n) i = omega (arith, pass-low (length P.facts) P.rules (passes P n) (1 + 2048 * n) (passes-low P h n) i)
