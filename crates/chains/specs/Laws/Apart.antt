-- Different numbers out of a list are no more than the list is long.
use Rattle.std.specs.Prelude.{refl, Bool, ℕ, ◌≤◌, T, eqb, length}
use mathlib.Core.List.{List, [], ◌∷◌, Memᴰ}
use Rattle.std.proofs.Common.{arith, eqb→eq}
use Rattle.std.proofs.Math.Decide.{dec_le}
use Rattle.std.proofs.Math.Dec.{eqb_refl}
use Rattle.meaning.specs.Lists.{any}
use Rattle.meaning.proofs.Laws.Tests.{T-or-left, T-or-right, any-elim}
use Rattle.meaning.proofs.Laws.Settle.{count, count-le, count-back}

-- no number of the list stands in it twice
pub data Apart : List ℕ → Type 0 where
  none : Apart []
  more : {a : ℕ} {l : List ℕ} → (Memᴰ a l → ⊥) → Apart l → Apart (a ∷ l)

-- the list has number a
abbrev in_list : List ℕ → ℕ → Bool
in_list l a = any (eqb a) l

-- whatever passes the test is a member
of-list : (l : List ℕ) (a : ℕ) → T (in_list l a) → Memᴰ a l
of-list l a t = let (x, m, e) = any-elim (eqb a) l t in rw (eqb→eq a x e) m

-- what the list has, it has with another in front,
in-more : (a : ℕ) (l : List ℕ) (b : ℕ) → T (in_list l b) → T (in_list (a ∷ l) b)
unfolding any
in-more a l b t = T-or-right (eqb b a) (in_list l b) t

-- and it has the one in front
in-own : (a : ℕ) (l : List ℕ) → T (in_list (a ∷ l) a)
unfolding any
in-own a l = T-or-left (eqb a a) (in_list l a) (eqb_refl a)

-- among the numbers of m each different one counts
count-apart : (m : List ℕ) {l : List ℕ} → Apart l → ((a : ℕ) → Memᴰ a l → Memᴰ a m) → length l ≤ count (in_list l) m
count-apart m Apart.none s = omega arith
count-apart m (Apart.more {a = a} {l = l} new d) s =
    let rest = count-apart m d (λ b i. s b (Memᴰ.tail i)) in
    elim (dec_le (count (in_list (a ∷ l)) m) (count (in_list l) m)) [
      | yes h ↦ absurd (new (of-list l a
          (count-back (in_list l) (in_list (a ∷ l)) m (in-more a l) h a (s a (Memᴰ.head refl)) (in-own a l))))
      | no h ↦ omega (arith, h)
    ]

-- so there are no more than m has places
pub apart-length : {l : List ℕ} → Apart l → (m : List ℕ) → ((a : ℕ) → Memᴰ a l → Memᴰ a m) → length l ≤ length m
apart-length {l} d m s = omega (arith, count-apart m d s, count-le (in_list l) m)
