-- Finite lists, as the definitions use them.
-- The toolchain's `any`, `all` and `sum` do not compute outside their module, so these stand here.
use Rattle.std.specs.Prelude.{Bool, true, false, ◌&&◌, ◌||◌, List, [], ◌∷◌, ◌++◌, ℕ, zero, suc, ◌+◌, ◌-◌, take, drop, replicate}

-- some entry passes the test
unfoldable pub any : {A : Type 0} → (A → Bool) → List A → Bool
any f [] = false
any f (x ∷ xs) = f x || any f xs

-- every entry passes the test
unfoldable pub all : {A : Type 0} → (A → Bool) → List A → Bool
all f [] = true
all f (x ∷ xs) = f x && all f xs

-- f 0, f 1, .. , f (n - 1)
unfoldable pub upto : {A : Type 0} → ℕ → (ℕ → A) → List A
upto zero f = []
upto (suc n) f = f 0 ∷ upto n (λ i. f (suc i))

unfoldable pub sum : List ℕ → ℕ
sum [] = 0
sum (n ∷ ns) = n + sum ns

-- the numbers with zeros from one place up to another
abbrev pub zeroed : List ℕ → ℕ → ℕ → List ℕ
zeroed ws from to = take from ws ++ (replicate (to - from) 0 ++ drop to ws)
