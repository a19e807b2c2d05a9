-- The budget that is always enough (document 01, "Run").
use Rattle.std.specs.Prelude.{cond, ℕ, ◌+◌, ◌*◌, leb, length}
use Rattle.meaning.specs.Lists.{upto, sum}
use Rattle.meaning.specs.Meaning.{Program}
use Rattle.rounds.specs.Layers.{atoms_of}

-- n × (n + 1) for the n atoms of layer k
abbrev pub layer_cost : Program → ℕ → ℕ
layer_cost P k = length (atoms_of P k) * (length (atoms_of P k) + 1)

-- "the sum of n × (n + 1) over the remaining layers of n atoms": from layer k on
unfoldable pub cost : Program → ℕ → ℕ
unfolding sum upto
cost P k = sum (upto 256 (λ j. cond (leb k j) (layer_cost P j) 0))
