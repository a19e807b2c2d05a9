-- No text is longer than the output that `text` asks for: at most 512 lines of 8 bytes, or a refusal and at most 1,023 lines of 5.
use Rattle.std.specs.Prelude.{◌≡◌, refl, Bool, true, false, List, ◌++◌, ℕ, ◌+◌, ◌*◌, ◌≤◌, ◌<◌, eqb, length, get_or, take, drop}
use Rattle.std.proofs.Common.{ap, ◌∙◌, arith, length-append, take_at, eqb-true}
use Rattle.std.proofs.lemmas.Bool.{eqb-false}
use Rattle.text.specs.Text.{refused_text}
use Rattle.text.specs.Laws.Decimal.{decimal-short}
use Rattle.text.specs.Laws.Lines.{lines-most}
use Rattle.text.specs.Laws.Parts.{refused-most}
use Rattle.meaning.specs.Lists.{upto}
use Rattle.meaning.proofs.Laws.Tests.{length-upto, get_or-upto}
use Rattle.format.specs.File.{F, D, R}
use Rattle.format.specs.Passed.{Formed}
use Rattle.format.specs.Laws.Decoded.{decode-rules}
use Rattle.chains.specs.Written.{ChainDone}
use Rattle.layering.specs.Told.{LayersDone}
use Rattle.layering.specs.Laws.Told.{told-formed, told-written, told-chained}
use Rattle.layers_text.specs.LayersText.{layer_lines, rule_lines, chain_in, LayersSaid}
use Rattle.layers_text.specs.Laws.Chain.{chain_of, chain-read, links-in}
use Rattle.layers_text.specs.Laws.Lines.{layer-most, rule-most, layer_of, rule_of}
use Rattle.layers_text.specs.Laws.Said.{text-layers, text-chain, text-refused}

-- the lines of layers that all fit in a byte,
layers-short : (facts : ℕ) (layers : List ℕ) → facts ≤ 32 → length layers ≤ 512 → ((i : ℕ) → i < length layers → get_or layers i 0 ≤ 255) →
    length (layer_lines facts layers) ≤ 4096
layers-short facts layers few some low =
    omega (
      arith,
      lines-most (length layers) (layer_of facts layers) 8
          (λ i h. layer-most (facts + i) (get_or layers i 0) (omega arith) (omega (arith, low i h))),
    )

-- and of at most 1,023 rules with numbers below 10,000
rules-short : (js : List ℕ) → length js ≤ 1023 → ((i : ℕ) → i < length js → get_or js i 0 < 10000) → length (rule_lines js) ≤ 5115
rules-short js few low =
    omega (arith, lines-most (length js) (rule_of js) 5 (λ i h. rule-most (get_or js i 0) (decimal-short 3 (get_or js i 0) (low i h))))

-- the layers that were written,
pub done-written : {s out out₁ : List ℕ} (d : LayersDone s out out₁) → take (D s) out₁ ≡ upto (D s) (λ i. d.layer (F s + i))
done-written {s} {out} d =
    let f : ℕ → ℕ = λ i. d.layer (F s + i) in
    ap (take (D s)) d.bytes ∙ take_at (upto (D s) f) (drop (D s) out) (D s) (length-upto (D s) f)

done-short : {s out out₁ : List ℕ} → Formed s → LayersDone s out out₁ → length (layer_lines (F s) (take (D s) out₁)) ≤ 4096
done-short {s} formed d =
    let f : ℕ → ℕ = λ i. d.layer (F s + i) in
    let size = length-upto (D s) f in
    rw (done-written d)
    (layers-short (F s) (upto (D s) f) formed.facts (omega (arith, formed.derived))
    (λ i h. rw (get_or-upto (D s) f 0 i (omega arith)) (d.low (F s + i) (omega arith) (omega arith))))

-- and the chain
chain-short : {s out out₁ : List ℕ} {a n : ℕ} → R s ≤ 2048 → (d : ChainDone s out out₁ a n) →
    length (rule_lines (chain_in (take (2 + 2 * n) out₁))) ≤ 5115
chain-short {s} few d =
    rw (chain-read d)
    (rules-short (chain_of d) (omega (arith, d.count, d.few)) (λ i h. omega (arith, links-in d.chain i h, decode-rules s)))

-- every text has room
pub layers-said-length : {s text : List ℕ} → LayersSaid s text → length text ≤ 16384
layers-said-length {s} {text} said = go (eqb n 0) refl (eqb n 24) refl
  where
    n : ℕ
    n = said.told.refusal

    written : List ℕ
    written = take said.told.length said.out

    most : length (refused_text n said.told.detail) ≤ 64
    most = refused-most n said.told.detail

    layers : n ≡ 0 → length text ≤ 16384
    layers z =
        let (d, e) = told-written said.is z in
        let is : text ≡ layer_lines (F s) (take (D s) said.out) =
        said.text_is ∙ text-layers (F s) said.told written z ∙ ap (λ l. layer_lines (F s) (take l said.out)) e in
        omega (arith, ap length is, done-short (told-formed said.is z) d)

    chain : n ≡ 24 → length text ≤ 16384
    chain z =
        let (k, formed, d, e) = told-chained said.is z in
        let rules : List ℕ = rule_lines (chain_in (take (2 + 2 * k) said.out)) in
        let is : text ≡ refused_text n said.told.detail ++ rules =
        said.text_is ∙ text-chain (F s) said.told written z ∙
        ap (λ l. refused_text n said.told.detail ++ rule_lines (chain_in (take l said.out))) e in
        omega (arith, ap length is, length-append (refused_text n said.told.detail) rules, most, chain-short formed.rules d)

    go : (b : Bool) → eqb n 0 ≡ b → (c : Bool) → eqb n 24 ≡ c → length text ≤ 16384
    go true p c q = layers (eqb-true n 0 p)
    go false p true q = chain (eqb-true n 24 q)
    go false p false q =
        omega (arith, ap length (said.text_is ∙ text-refused (F s) said.told written (eqb-false n 0 p) (eqb-false n 24 q)), most)
