-- How layers are worked out: every derived atom starts at 1, and pass after pass each rule raises its head to what its body asks.
use Rattle.std.specs.Prelude.{Bool, cond, nat_lt, List, [], ◌∷◌, ℕ, zero, suc, ◌+◌, ◌-◌, max, ltb, length, get_or, set, replicate}
use Rattle.meaning.specs.Meaning.{Literal, Rule, Program}

-- an atom's layer, of F facts and the derived atoms' layers
abbrev pub layer_in : ℕ → List ℕ → ℕ → ℕ
layer_in F ls a = cond (ltb a F) 0 (get_or ls (a - F) 0)

-- what a body asks: the highest of its plain atoms' layers, and one more than a negated one's
unfoldable pub asks : ℕ → List ℕ → List Literal → ℕ
asks F ls [] = 0
asks F ls (l ∷ body) = max (layer_in F ls l.atom + cond l.negated 1 0) (asks F ls body)

-- the rules one after another, each with the layers as they stand
unfoldable pub pass : ℕ → List Rule → List ℕ → List ℕ
unfolding asks
pass F [] ls = ls
pass F (r ∷ rs) ls = pass F rs (set ls (r.head - F) (max (get_or ls (r.head - F) 0) (asks F ls r.body)))

-- the layers after n passes
unfoldable pub passes : Program → ℕ → List ℕ
unfolding pass
passes P zero = replicate (length P.layers) 1
passes P (suc n) = pass (length P.facts) P.rules (passes P n)

-- a layer that does not fit in a byte
abbrev pub high_layer : ℕ → Bool
high_layer l = nat_lt 255 l
