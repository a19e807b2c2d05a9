-- What the parts of the code write makes one of the file's texts.
use Rattle.std.specs.Prelude.{◌≡◌, refl, List, ◌++◌, ℕ, ◌+◌, ◌*◌, ◌≤◌, length, take}
use Rattle.std.proofs.Common.{sym, ap, ◌∙◌, append-nil, length-take-le}
use native.Mathlib.Omega.{arith}
use borrow.Author.Tests.{eq-eqb, ne_eqb}
use Rattle.text.specs.Text.{refused_text}
use Rattle.text.specs.Writes.{Writes}
use Rattle.text.specs.declared.Writer.{Writer}
use Rattle.text.specs.Laws.Parts.{refused-most}
use Rattle.text.specs.Laws.Wrote.{wrote-length}
use Rattle.text.specs.Laws.Writes.{writes_then, writes-is}
use Rattle.format.specs.Bytes.{u16}
use Rattle.format.specs.File.{F}
use Rattle.layering.specs.Told.{Told, LayersIs}
use Rattle.layering.specs.Laws.Told.{told-formed, told-inside, told-written, told-chained}
use Rattle.layers_text.specs.LayersText.{layer_lines, rule_lines, chain_in, layers_text}
use Rattle.layers_text.specs.Asked.{LayerLinesAsked, RuleLinesAsked, AnswerAsked, WritesLayers}
use Rattle.layers_text.specs.Laws.Chain.{chain-count, chain-whole}

-- ---- the definition by the refusal

module _ (facts : ℕ) (told : Told) (written : List ℕ) where
  pub text-layers : told.refusal ≡ 0 → layers_text facts told written ≡ layer_lines facts written
  unfolding layers_text
  text-layers e = rw (layers_text, eq-eqb told.refusal 0 e)

  pub text-chain : told.refusal ≡ 24 →
      layers_text facts told written ≡ refused_text told.refusal told.detail ++ rule_lines (chain_in written)
  unfolding layers_text
  text-chain e =
      let some : told.refusal ≡ 0 → ⊥ = λ z. omega arith in
      rw (layers_text, ne_eqb told.refusal 0 some, eq-eqb told.refusal 24 e)

  pub text-refused : (told.refusal ≡ 0 → ⊥) → (told.refusal ≡ 24 → ⊥) →
      layers_text facts told written ≡ refused_text told.refusal told.detail
  unfolding layers_text
  text-refused some other =
      rw (layers_text, ne_eqb told.refusal 0 some, ne_eqb told.refusal 24 other)
      (append-nil (refused_text told.refusal told.detail))

-- ---- the answer

module _ {s found found₁ : List ℕ} {w : Writer} {told : Told} (q : AnswerAsked found w) (is : LayersIs s found found₁ told) where
  -- a text of the definition
  said-writes : {w₁ : Writer} → Writes w w₁ (layers_text (F s) told (take told.length found₁)) → WritesLayers s w w₁
  said-writes v = record {
    text = layers_text (F s) told (take told.length found₁);
    said = record { out = found₁; told = told; is = rw q.empty at is; text_is = refl };
    writes = v;
  }

  module _ (same : length found₁ ≡ length found) where
    -- what was written lies in its room,
    pub written-inside : told.length ≤ length found₁
    written-inside = omega (arith, told-inside is)

    pub written-size : told.length ≡ length (take told.length found₁)
    written-size = sym (length-take-le told.length found₁ written-inside)

    -- and the layers' lines can be written
    pub layer-lines-asked : told.refusal ≡ 0 → {facts : ℕ} → facts ≡ F s → LayerLinesAsked (take told.length found₁) facts w
    layer-lines-asked z f =
        let formed = told-formed is z in
        record {
          few = omega (arith, formed.facts);
          some = omega (arith, written-size, (told-written is z).1, formed.derived);
          room = omega (arith, q.room);
        }

  pub layers-written : told.refusal ≡ 0 → {facts : ℕ} → facts ≡ F s → {w₁ : Writer} →
      Writes w w₁ (layer_lines facts (take told.length found₁)) → WritesLayers s w w₁
  layers-written z f v =
      said-writes
      (writes-is v (ap (λ n. layer_lines n (take told.length found₁)) f ∙ sym (text-layers (F s) told (take told.length found₁) z)))

  -- the refusal is written,
  module _ {w₁ : Writer} (u : Writes w w₁ (refused_text told.refusal told.detail)) where
    -- at 24 the rules' lines can follow,
    pub rule-lines-asked : told.refusal ≡ 24 → RuleLinesAsked (take told.length found₁) w₁
    rule-lines-asked z =
        let (n, formed, d, e) = told-chained is z in
        let count : u16 (take told.length found₁) 0 ≡ n = ap (λ l. u16 (take l found₁) 0) e ∙ chain-count d in
        let whole : length (take told.length found₁) ≡ 2 + 2 * n = ap (λ l. length (take l found₁)) e ∙ chain-whole d in
        record {
          whole = omega arith;
          few = omega (arith, d.few);
          room = omega (arith, u.wrote.end, refused-most told.refusal told.detail, wrote-length u.wrote, q.room);
        }

    pub chain-written : told.refusal ≡ 24 → {w₂ : Writer} →
        Writes w₁ w₂ (rule_lines (chain_in (take told.length found₁))) → WritesLayers s w w₂
    chain-written z v = said-writes (writes-is (writes_then u v) (sym (text-chain (F s) told (take told.length found₁) z)))

    -- and at another nothing does
    pub refused-written : (told.refusal ≡ 0 → ⊥) → (told.refusal ≡ 24 → ⊥) → WritesLayers s w w₁
    refused-written some other =
        said-writes (writes-is u (sym (text-refused (F s) told (take told.length found₁) some other)))
