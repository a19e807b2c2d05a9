-- A layering written into a file (document 02, L4: "Layers go to the output as D bytes").
use Rattle.std.specs.Prelude.{List, ◌++◌, ℕ, ◌+◌, take, drop}
use Rattle.meaning.specs.Lists.{upto}
use Rattle.format.specs.File.{F, D, layers_at, rules_at}

-- the file with the D bytes of its layers body replaced by a layering's numbers
unfoldable pub relayered : List ℕ → (ℕ → ℕ) → List ℕ
unfolding upto
relayered s layer = take (layers_at s) s ++ (upto (D s) (λ i. layer (F s + i)) ++ drop (rules_at s) s)
