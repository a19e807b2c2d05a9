-- Where a reader stands from call to call.
use Rattle.std.specs.Prelude.{◌≡◌, refl, List, Option, None}
use Rattle.std.proofs.Common.{ap, ◌∙◌, arith}
use Prim.Native.Nat.{ℕ, zero, suc, ◌+◌, ◌-◌}
use Rattle.format.specs.Walk.{first_at, step_at}
use Rattle.format.specs.declared.walk.Rule.{Rule as Step}
use Rattle.reader.specs.Read.{past, onward, place_of}

-- with all rules left it is at the first
pub first-place : (s : List ℕ) (j : ℕ) → first_at s ≡ place_of s (j - j)
unfolding place_of
first-place s j = let k : j - j ≡ 0 = omega arith in rw k refl

-- at the end a reader stays, however often it is called
pub stays : (s : List ℕ) (i : ℕ) → step_at s (place_of s i) ≡ None → (k n : ℕ) → n ≡ i + k → place_of s n ≡ place_of s i
unfolding place_of
stays s i e zero n q = let same : n ≡ i = omega arith in ap (place_of s) same
stays s i e (suc k) zero q = absurd (omega arith)
stays s i e (suc k) (suc n) q =
    ap (onward s) (stays s i e k n (omega arith)) ∙ ap (λ (t : Option Step). past t (place_of s i)) e
