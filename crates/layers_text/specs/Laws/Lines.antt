-- The two loops that write lines.
use Rattle.std.specs.Prelude.{◌≡◌, List, [], ℕ, ◌+◌, ◌*◌, ◌≤◌, ◌<◌, length, get_or}
use Rattle.std.proofs.Common.{sym, ap, ◌∙◌, arith, length-append}
use Rattle.text.specs.Text.{ascii, decimal, pair_line}
use Rattle.text.specs.Writes.{Writes, WritesNamed}
use Rattle.text.specs.declared.Writer.{Writer}
use Rattle.text.specs.Laws.Decimal.{decimal-short}
use Rattle.text.specs.Laws.Lines.{Listed, listed_more, listed-all}
use Rattle.text.specs.Laws.Parts.{pair-most}
use Rattle.text.specs.Laws.Writes.{writes_then}
use Rattle.meaning.proofs.Laws.Tests.{length-upto, get_or-upto}
use Rattle.format.specs.Bytes.{u16}
use Rattle.layers_text.specs.LayersText.{layer_line, rule_line, rule_lines, chain_in}
use Rattle.layers_text.specs.Asked.{LayerLinesAsked}

-- ---- layers

-- an atom and a layer have at most 3 digits each
pub layer-most : (a l : ℕ) → a < 1000 → l < 1000 → length (layer_line a l) ≤ 8
layer-most a l h k = pair-most a l (decimal-short 2 a h) (decimal-short 2 l k)

-- the line of the derived atom at place i
abbrev pub layer_of : ℕ → List ℕ → ℕ → List ℕ
layer_of facts layers i = layer_line (facts + i) (get_or layers i 0)

-- one more line
pub layers-more : {layers : List ℕ} {facts i layer : ℕ} {w w₁ w₂ : Writer} → LayerLinesAsked layers facts w →
    Listed w w₁ i 8 (layer_of facts layers) → i < length layers → layer ≡ get_or layers i 0 → layer < 256 →
    Writes w₁ w₂ (pair_line (facts + i) layer) → Listed w w₂ (i + 1) 8 (layer_of facts layers)
layers-more {facts = facts} {i} {layer} q l lt e small v =
    listed_more l v (ap (layer_line (facts + i)) e) (layer-most (facts + i) layer (omega (arith, q.few, q.some)) (omega arith))

-- ---- rules

-- a number of at most k digits, and the line's end
pub rule-most : (j : ℕ) {k : ℕ} → length (decimal j) ≤ k → length (rule_line j) ≤ k + 1
rule-most j h = simp length-append (omega arith)

pub rule-writes : {w w₁ w₂ : Writer} {j : ℕ} → WritesNamed w w₁ [] j → Writes w₁ w₂ (ascii "\n") → Writes w w₂ (rule_line j)
rule-writes u v = writes_then u.writes v

-- the line of the rule at place i
abbrev pub rule_of : List ℕ → ℕ → List ℕ
rule_of js i = rule_line (get_or js i 0)

-- one more line
pub rules-more : (chain : List ℕ) {i j : ℕ} {w w₁ w₂ : Writer} →
    Listed w w₁ i 6 (rule_of (chain_in chain)) → i < u16 chain 0 → j ≡ u16 chain (2 + 2 * i) → j < 65536 →
    Writes w₁ w₂ (rule_line j) → Listed w w₂ (i + 1) 6 (rule_of (chain_in chain))
rules-more chain {i} {j} l lt e small v =
    listed_more l v (ap rule_line (e ∙ sym (get_or-upto (u16 chain 0) (λ i. u16 chain (2 + 2 * i)) 0 i lt)))
    (rule-most j (decimal-short 4 j (omega arith)))

-- all of them
pub rules-all : (chain : List ℕ) {w w₁ : Writer} {count : ℕ} → Listed w w₁ count 6 (rule_of (chain_in chain)) →
    count ≡ u16 chain 0 → Writes w w₁ (rule_lines (chain_in chain))
rules-all chain l e =
    let size = length-upto (u16 chain 0) (λ i. u16 chain (2 + 2 * i)) in
    listed-all l (omega arith) (omega arith)
