-- Growing sets settle: a step that only adds, and that adds nothing more once it added nothing, has settled after as many steps as there
-- are numbers to add. Each step before that adds one, so the count of the listed numbers goes up.
use Rattle.std.specs.Prelude.{◌⊎◌, Bool, true, false, cond, T, length}
use Rattle.std.proofs.Math.Logic.{inl, inr}
use mathlib.Core.List.{List, [], ◌∷◌, Memᴰ}
use Prim.Native.Nat.{ℕ, zero, suc, ◌+◌, ◌≤◌, ◌<◌}
use Rattle.std.proofs.Common.{arith}
use Rattle.std.proofs.Math.Decide.{dec_le}

-- ---- counting

-- how many of the listed numbers pass the test
unfoldable pub count : (ℕ → Bool) → List ℕ → ℕ
count p [] = 0
count p (a ∷ l) = cond (p a) 1 0 + count p l

pub bit_le : (b : Bool) → cond b 1 0 ≤ 1
bit_le true = omega arith
bit_le false = omega arith

pub bit-mono : (a b : Bool) → (T a → T b) → cond a 1 0 ≤ cond b 1 0
bit-mono true true s = omega arith
bit-mono true false s = absurd (s tt)
bit-mono false b s = omega arith

bit-back : (a b : Bool) → cond b 1 0 ≤ cond a 1 0 → T b → T a
bit-back true b h t = tt
bit-back false true h t = absurd (omega arith)
bit-back false false h t = t

-- no more pass than there are
pub count-le : (p : ℕ → Bool) (l : List ℕ) → count p l ≤ length l
unfolding count
count-le p [] = omega arith
count-le p (a ∷ l) = omega (arith, bit_le (p a), count-le p l)

-- at least as many pass a weaker test
pub count-mono : (p q : ℕ → Bool) (l : List ℕ) → ((a : ℕ) → T (p a) → T (q a)) → count p l ≤ count q l
unfolding count
count-mono p q [] s = omega arith
count-mono p q (a ∷ l) s = omega (arith, bit-mono (p a) (q a) (s a), count-mono p q l s)

-- where no more pass the weaker test, the same pass
pub count-back : (p q : ℕ → Bool) (l : List ℕ) → ((a : ℕ) → T (p a) → T (q a)) → count q l ≤ count p l →
    (a : ℕ) → Memᴰ a l → T (q a) → T (p a)
unfolding count
count-back p q [] s h a m t = elim m [ ]
count-back p q (b ∷ l) s h a (Memᴰ.head e) t =
    bit-back (p a) (q a) (rw e (omega (arith, bit-mono (p b) (q b) (s b), count-mono p q l s))) t
count-back p q (b ∷ l) s h a (Memᴰ.tail m) t =
    count-back p q l s (omega (arith, bit-mono (p b) (q b) (s b), count-mono p q l s)) a m t

-- ---- a step, taken again and again

-- a step on states; `look` reads off a state the set of numbers that it stands for, and from good states the step only adds to it
pub record Growth (X : Type 0) : Type 1 where
  pub look : X → ℕ → Bool
  pub step : X → X
  pub Good : X → Type 0
  pub keeps : (x : X) → Good x → Good (step x)
  pub grows : (x : X) → Good x → (a : ℕ) → T (look x a) → T (look (step x) a)

-- n steps
unfoldable pub times : {X : Type 0} → (X → X) → X → ℕ → X
times G x zero = x
times G x (suc n) = G (times G x n)

module _ {X : Type 0} (g : Growth X) where
  -- states stay good
  pub times-good : (x : X) → g.Good x → (n : ℕ) → g.Good (times g.step x n)
  unfolding times
  times-good x good zero = good
  times-good x good (suc n) = g.keeps (times g.step x n) (times-good x good n)

  module _ (l : List ℕ) where
    -- the step adds none of the listed numbers
    abbrev pub Still : X → Type 0
    Still x = (a : ℕ) → Memᴰ a l → T (g.look (g.step x) a) → T (g.look x a)

    -- how many of the listed numbers a state has
    abbrev size : X → ℕ
    size x = count (g.look x) l

    progress : (x : X) → g.Good x → Still x ⊎ (size x < size (g.step x))
    progress x good = elim (dec_le (size (g.step x)) (size x)) [
      | yes h ↦ inl (count-back (g.look x) (g.look (g.step x)) l (g.grows x good) h)
      | no h ↦ inr (omega (arith, h))
    ]

    module _ (rest : (x : X) → g.Good x → Still x → Still (g.step x)) (x : X) (good : g.Good x) where
      climbs : (n : ℕ) → Still (times g.step x n) ⊎ (n < size (times g.step x (suc n)))
      unfolding times
      climbs zero = go (progress x good)
        where
          go : Still x ⊎ (size x < size (g.step x)) → Still x ⊎ (0 < size (g.step x))
          go (inl s) = inl s
          go (inr h) = inr (omega arith)
      climbs (suc n) = go (climbs n) (progress (g.step y) (times-good x good (suc n)))
        where
          y : X
          y = times g.step x n

          go :
              Still y ⊎ (n < size (g.step y)) → Still (g.step y) ⊎ (size (g.step y) < size (g.step (g.step y))) →
              Still (g.step y) ⊎ (suc n < size (g.step (g.step y)))
          go (inl s) q = inl (rest y (times-good x good n) s)
          go (inr h) (inl s) = inl s
          go (inr h) (inr k) = inr (omega arith)

      -- a step that stays put once it adds nothing has settled after as many steps as there are numbers
      pub settles : (n : ℕ) → length l ≤ n → Still (times g.step x n)
      settles n h = go (climbs n)
        where
          go : Still (times g.step x n) ⊎ (n < size (times g.step x (suc n))) → Still (times g.step x n)
          go (inl s) = s
          go (inr k) = absurd (omega (arith, count-le (g.look (times g.step x (suc n))) l))
