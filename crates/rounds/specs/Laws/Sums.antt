-- Sums over `upto`: compared place by place, added place by place, and the sum of squares against the square of the sum.
-- All by induction over the number of places, with the place function shifted.
use Rattle.std.specs.Prelude.{◌≡◌, refl, ℕ, zero, suc, ◌+◌, ◌*◌, ◌≤◌, ◌<◌}
use Rattle.std.proofs.Common.{arith}
use Rattle.meaning.specs.Lists.{upto, sum}

-- a sum is at most another that is at most it in no place
pub sum_mono : (n : ℕ) (f g : ℕ → ℕ) → ((j : ℕ) → f j ≤ g j) → sum (upto n f) ≤ sum (upto n g)
unfolding sum upto
sum_mono zero f g h = omega arith
sum_mono (suc n) f g h = omega (arith, h 0, sum_mono n (λ i. f (suc i)) (λ i. g (suc i)) (λ i. h (suc i)))

-- and where it leaves room for x in one place, it leaves room for x
pub sum_more : (n : ℕ) (f g : ℕ → ℕ) (k x : ℕ) → k < n → ((j : ℕ) → f j ≤ g j) → x + f k ≤ g k → x + sum (upto n f) ≤ sum (upto n g)
unfolding sum upto
sum_more zero f g k x lt h m = absurd (omega arith)
sum_more (suc n) f g zero x lt h m = omega (arith, sum_mono n (λ i. f (suc i)) (λ i. g (suc i)) (λ i. h (suc i)))
sum_more (suc n) f g (suc k) x lt h m =
    omega (arith, h 0, sum_more n (λ i. f (suc i)) (λ i. g (suc i)) k x (omega arith) (λ i. h (suc i)) m)

-- nothing in any place sums to nothing,
pub sum-none : (n : ℕ) (f : ℕ → ℕ) → ((j : ℕ) → f j ≡ 0) → sum (upto n f) ≡ 0
unfolding sum upto
sum-none zero f h = refl
sum-none (suc n) f h = omega (arith, h 0, sum-none n (λ i. f (suc i)) (λ i. h (suc i)))

-- and nothing in any other place than k to at most what is there
pub sum_one : (n : ℕ) (f : ℕ → ℕ) (k : ℕ) → ((j : ℕ) → (k ≡ j → ⊥) → f j ≡ 0) → sum (upto n f) ≤ f k
unfolding sum upto
sum_one zero f k h = omega arith
sum_one (suc n) f zero h = omega (arith, sum-none n (λ i. f (suc i)) (λ i. h (suc i) (λ e. omega arith)))
sum_one (suc n) f (suc k) h =
    omega (arith, h 0 (λ e. omega arith), sum_one n (λ i. f (suc i)) k (λ j i. h (suc j) (λ e. i (omega arith))))

-- sums add up place by place
pub sum-add : (n : ℕ) (f g : ℕ → ℕ) → sum (upto n (λ j. f j + g j)) ≡ sum (upto n f) + sum (upto n g)
unfolding sum upto
sum-add zero f g = omega arith
sum-add (suc n) f g = omega (arith, sum-add n (λ i. f (suc i)) (λ i. g (suc i)))

-- the sum of f × (f + 1) is at most that of the sum
pub sum-square : (n : ℕ) (f : ℕ → ℕ) → sum (upto n (λ j. f j * (f j + 1))) ≤ sum (upto n f) * (sum (upto n f) + 1)
unfolding sum upto
sum-square zero f = omega arith
sum-square (suc n) f = omega (arith, sum-square n (λ i. f (suc i)))
