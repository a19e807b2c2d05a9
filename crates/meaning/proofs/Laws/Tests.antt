-- Tests and lists of tests: what `T` of `||`, `&&`, `any` and `all` says, and what stands where in `upto`.
-- The meaning is written with Bool tests, so that it computes; the laws read them as statements by these lemmas.
use Rattle.std.specs.Prelude.{◌≡◌, ◌⊎◌, Bool, true, false, ◌&&◌, ◌||◌, eqb, length, get_or}
use Rattle.std.specs.List.{list_all, list_any}
use Rattle.std.proofs.Math.Path.{refl, ap}
use Rattle.std.proofs.Common.{subst, inl, inr}
use mathlib.Core.List.{List, [], ◌∷◌, Memᴰ}
use Prim.Native.Nat.{ℕ, zero, suc, ◌≤◌, ◌<◌}
use native.Mathlib.Omega.{arith}
use Rattle.std.proofs.Math.Dec.{T, eqb_refl}
use Rattle.meaning.specs.Lists.{any, all, upto}

-- ---- tests

-- a disjunction passes where its left side does,
pub T-or-left : (a b : Bool) → T a → T (a || b)
T-or-left true b h = tt
T-or-left false b h = absurd h

-- and where its right side does,
pub T-or-right : (a b : Bool) → T b → T (a || b)
T-or-right true b h = tt
T-or-right false b h = h

-- and nowhere else
pub T-or-cases : (a b : Bool) → T (a || b) → T a ⊎ T b
T-or-cases true b h = inl tt
T-or-cases false b h = inr h

-- a conjunction passes where both sides do,
pub T_and : (a b : Bool) → T a → T b → T (a && b)
T_and true b h k = k
T_and false b h k = h

-- so its left side passes,
pub T-and-left : (a b : Bool) → T (a && b) → T a
T-and-left true b h = tt
T-and-left false b h = h

-- and its right side
pub T-and-right : (a b : Bool) → T (a && b) → T b
T-and-right true b h = h
T-and-right false b h = absurd h

-- tests that pass together are equal
pub T-same : (a b : Bool) → (T a → T b) → (T b → T a) → a ≡ b
T-same true true f g = refl
T-same true false f g = absurd (f tt)
T-same false true f g = absurd (g tt)
T-same false false f g = refl

-- a test that passes is true
pub T_true : (b : Bool) → T b → b ≡ true
T_true true h = refl
T_true false h = absurd h

-- a test that cannot pass is false
pub T_false : (b : Bool) → (T b → ⊥) → b ≡ false
T_false true h = absurd (h tt)
T_false false h = refl

-- equal numbers pass the test of equality
pub eqb_of : {m n : ℕ} → m ≡ n → T (eqb m n)
eqb_of {m} {n} e = subst (λ x. T (eqb m x)) e (eqb_refl m)

-- ---- lists of tests

module _ {A : Type 0} (f : A → Bool) where
  -- what std says of `Iterator::all` and of `Iterator::any` is `all` and `any`
  pub all_is : (l : List A) → list_all f l ≡ all f l
  unfolding all
  all_is [] = refl
  all_is (x ∷ l) = ap (λ b. f x && b) (all_is l)

  pub any_is : (l : List A) → list_any f l ≡ any f l
  unfolding any
  any_is [] = refl
  any_is (x ∷ l) = ap (λ b. f x || b) (any_is l)

module _ {A : Type 0} where
  -- `any` passes where a member does,
  pub any-intro : (f : A → Bool) {x : A} (l : List A) → Memᴰ x l → T (f x) → T (any f l)
  unfolding any
  any-intro f [] m h = elim m [ ]
  any-intro f (y ∷ l) (Memᴰ.head e) h = T-or-left (f y) (any f l) (subst (λ z. T (f z)) e h)
  any-intro f (y ∷ l) (Memᴰ.tail m) h = T-or-right (f y) (any f l) (any-intro f l m h)

  -- and then there is such a member
  pub any-elim : (f : A → Bool) (l : List A) → T (any f l) → (x : A) × Memᴰ x l × T (f x)
  unfolding any
  any-elim f [] h = absurd h
  any-elim f (y ∷ l) h = go (T-or-cases (f y) (any f l) h) (any-elim f l)
    where
      go :
          T (f y) ⊎ T (any f l) → (T (any f l) → (x : A) × Memᴰ x l × T (f x)) →
          (x : A) × Memᴰ x (y ∷ l) × T (f x)
      go (inl k) r = (y, Memᴰ.head refl, k)
      go (inr k) r = let (x, m, t) = r k in (x, Memᴰ.tail m, t)

  -- `all` passes where every member does,
  pub all-intro : (f : A → Bool) (l : List A) → ((x : A) → Memᴰ x l → T (f x)) → T (all f l)
  unfolding all
  all-intro f [] s = tt
  all-intro f (y ∷ l) s = T_and (f y) (all f l) (s y (Memᴰ.head refl)) (all-intro f l (λ x m. s x (Memᴰ.tail m)))

  -- and then each member does,
  pub all-elim : (f : A → Bool) {x : A} (l : List A) → T (all f l) → Memᴰ x l → T (f x)
  unfolding all
  all-elim f [] h m = elim m [ ]
  all-elim f (y ∷ l) h (Memᴰ.head e) = rw e (T-and-left (f y) (all f l) h)
  all-elim f (y ∷ l) h (Memᴰ.tail m) = all-elim f l (T-and-right (f y) (all f l) h) m

  -- so it passes for a weaker test
  pub all-mono : (f g : A → Bool) (l : List A) → ((x : A) → Memᴰ x l → T (f x) → T (g x)) → T (all f l) → T (all g l)
  all-mono f g l s h = all-intro g l (λ x m. s x m (all-elim f l h m))

  -- ---- `upto`

  -- place a of `upto n f` is f a,
  pub get_or-upto : (n : ℕ) (f : ℕ → A) (d : A) (a : ℕ) → a < n → get_or (upto n f) a d ≡ f a
  unfolding upto
  get_or-upto zero f d a h = absurd (omega arith)
  get_or-upto (suc n) f d zero h = refl
  get_or-upto (suc n) f d (suc a) h = get_or-upto n (λ i. f (suc i)) d a (omega arith)

  -- and past its end nothing stands
  pub get_or-upto-past : (n : ℕ) (f : ℕ → A) (d : A) (a : ℕ) → n ≤ a → get_or (upto n f) a d ≡ d
  unfolding upto
  get_or-upto-past zero f d a h = refl
  get_or-upto-past (suc n) f d zero h = absurd (omega arith)
  get_or-upto-past (suc n) f d (suc a) h = get_or-upto-past n (λ i. f (suc i)) d a (omega arith)

  -- it has n entries,
  pub length-upto : (n : ℕ) (f : ℕ → A) → length (upto n f) ≡ n
  unfolding upto
  length-upto zero f = refl
  length-upto (suc n) f = ap suc (length-upto n (λ i. f (suc i)))

  -- and each f i below n is one of them
  pub mem-upto : (n : ℕ) (f : ℕ → A) (i : ℕ) → i < n → Memᴰ (f i) (upto n f)
  unfolding upto
  mem-upto zero f i h = absurd (omega arith)
  mem-upto (suc n) f zero h = Memᴰ.head refl
  mem-upto (suc n) f (suc i) h = Memᴰ.tail (mem-upto n (λ j. f (suc j)) i (omega arith))

  -- and each of its members is some f i
  pub mem-of-upto : (n : ℕ) (f : ℕ → A) {x : A} → Memᴰ x (upto n f) → (i : ℕ) × (i < n) × (x ≡ f i)
  unfolding upto
  mem-of-upto zero f m = elim m [ ]
  mem-of-upto (suc n) f (Memᴰ.head e) = (0, omega arith, e)
  mem-of-upto (suc n) f (Memᴰ.tail m) = let (i, q, e) = mem-of-upto n (λ k. f (suc k)) m in (suc i, omega arith, e)
