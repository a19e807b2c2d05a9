-- The text of file S: its layers are 1, 1, 1 and 2, as document 01 gives them.
use Rattle.std.specs.Prelude.{◌≡◌, refl, List, [], ◌∷◌, ℕ, zero, suc, ◌-◌, ◌≤◌, get_or}
use Rattle.std.proofs.Common.{arith}
use Rattle.text.specs.Text.{ascii, decimal_in, pair_line, lines}
use Rattle.meaning.specs.Lists.{upto}
use Rattle.meaning.specs.Meaning.{layer_of, total}
use Rattle.format.specs.Bytes.{u16, u32}
use Rattle.format.specs.File.{decode}
use Rattle.format.specs.Refusals.{verdict_by}
use Rattle.format.specs.Laws.Accepted.{formed, formed-known}
use Rattle.format.specs.Passed.{Formed}
use Rattle.chains.specs.Layering.{Smallest}
use Rattle.layering.specs.Rising.{layer_in, passes}
use Rattle.layering.specs.Laws.Exists.{still-smallest}
use Rattle.layering.specs.Laws.Pass.{in-derived}
use Rattle.worked.specs.Files.{file_s}
use Rattle.layers_text.specs.LayersText.{LayersSaid}
use Rattle.layers_text.specs.Laws.Exact.{layers-said-exact}

formed-S : Formed file_s
unfolding verdict_by decode u16 u32 layer_of total
formed-S = formed file_s {a = record { facts = 2; derived = 4; rules = 5; total = 20 }} refl

abbrev layers_s : List ℕ
layers_s = 1 ∷ 1 ∷ 1 ∷ 2 ∷ []

-- a third pass changes nothing
smallest-S : Smallest (decode file_s) (layer_in 2 layers_s)
unfolding decode u16 passes
smallest-S = still-smallest (decode file_s) (formed-known formed-S) 2 refl

low-S : (i : ℕ) → get_or layers_s i 0 ≤ 255
low-S zero = omega arith
low-S (suc zero) = omega arith
low-S (suc (suc zero)) = omega arith
low-S (suc (suc (suc zero))) = omega arith
low-S (suc (suc (suc (suc i)))) = omega arith

-- any text of file S is this one
pub layers-said-S : {text : List ℕ} → LayersSaid file_s text → text ≡ ascii "2 1\n3 1\n4 1\n5 2\n"
unfolding u16 upto lines pair_line decimal_in
layers-said-S said =
    layers-said-exact said formed-S smallest-S (λ a h k. rw (in-derived 2 layers_s a h) (low-S (a - 2)))
