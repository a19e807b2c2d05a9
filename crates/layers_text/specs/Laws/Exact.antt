-- What the definition fixes: the whole text, but at 24, where it is a chain's.
use Rattle.std.specs.Prelude.{◌≡◌, refl, Ok, List, ◌∷◌, ◌++◌, ℕ, ◌+◌, ◌≤◌, ◌<◌, length, take, drop, replicate}
use Rattle.std.proofs.Common.{sym, ap, ◌∙◌, arith}
use Rattle.std.proofs.lemmas.List.{length-replicate}
use Rattle.text.specs.Text.{refused_text}
use Rattle.meaning.specs.Lists.{upto}
use Rattle.format.specs.File.{F, D, decode}
use Rattle.format.specs.Passed.{Formed}
use Rattle.chains.specs.Layering.{Smallest, Chain, OnChain, rule_of}
use Rattle.chains.specs.Laws.Cut.{SomeChain}
use Rattle.layering.specs.Told.{LayersDone, found_told, LayersIs, found}
use Rattle.layering.specs.Laws.Fixed.{told_fixed}
use Rattle.layering.specs.Laws.Told.{formed-passes, told-24, told-chained}
use Rattle.layers_text.specs.LayersText.{layer_lines, rule_lines, chain_in, layers_text, LayersSaid}
use Rattle.layers_text.specs.Laws.Chain.{chain_of, chain-read}
use Rattle.layers_text.specs.Laws.Said.{text-layers, text-chain}
use Rattle.layers_text.specs.Laws.Short.{done-written}

-- two texts of a file are the same, unless its layers are refused with 24
pub layers-said-same : {s t u : List ℕ} (p : LayersSaid s t) → LayersSaid s u → (p.told.refusal ≡ 24 → ⊥) → t ≡ u
layers-said-same {s} p q other =
    let same = told_fixed p.is q.is in
    let long = same.length other in
    let written = same.output other in
    p.text_is ∙
    (λ i. layers_text (F s) (record { refusal = same.refusal i; detail = same.detail i; length = long i }) (take (long i) (written i))) ∙
    sym q.text_is

empty-long : 2048 ≤ length (replicate {A = ℕ} 2048 0)
empty-long = omega (arith, length-replicate {A = ℕ} 2048 0)

-- where the smallest layers are at most 255, their lines are the text
pub layers-said-exact : {s text : List ℕ} → LayersSaid s text → Formed s → {layer : ℕ → ℕ} → Smallest (decode s) layer →
    ((a : ℕ) → F s ≤ a → a < F s + D s → layer a ≤ 255) → text ≡ layer_lines (F s) (upto (D s) (λ i. layer (F s + i)))
layers-said-exact {s} {text} said formed {layer} smallest low =
    let out : List ℕ = upto (D s) (λ i. layer (F s + i)) ++ drop (D s) (replicate 2048 0) in
    let done : LayersDone s (replicate 2048 0) out = record { layer = layer; smallest = smallest; low = low; bytes = refl } in
    let is : LayersIs s (replicate 2048 0) out (found_told s (Ok tt)) = found (Ok tt) empty-long (formed-passes formed) done
    refl in
    let other : LayersSaid s (layers_text (F s) (found_told s (Ok tt)) (take (D s) out)) =
    record { out = out; told = found_told s (Ok tt); is = is; text_is = refl } in
    let none = (told_fixed said.is is).refusal in
    layers-said-same said other (λ z. omega arith) ∙ text-layers (F s) (found_told s (Ok tt)) (take (D s) out) refl ∙
    ap (layer_lines (F s)) (done-written done)

-- "24 .. detail the lowest atom on any such chain", and behind it the rules of a chain through that atom
pub record ChainSaid (s text : List ℕ) : Type 0 where
  pub first : ℕ
  pub others : List ℕ
  pub chain : Chain (decode s) (first ∷ others)
  pub lowest : (b : ℕ) → OnChain (decode s) b → (rule_of (decode s) first).head ≤ b
  pub text_is : text ≡ refused_text 24 (rule_of (decode s) first).head ++ rule_lines (first ∷ others)

-- where there is a chain, the text is one's
pub layers-said-chain : {s text : List ℕ} → LayersSaid s text → Formed s → SomeChain (decode s) → ChainSaid s text
layers-said-chain {s} said formed c =
    let z = (told-24 said.is empty-long formed).1 c in
    let (n, _, d, e) = told-chained said.is z in
    let read : chain_in (take said.told.length said.out) ≡ chain_of d = ap (λ l. chain_in (take l said.out)) e ∙ chain-read d in
    record {
      first = d.first;
      others = d.others;
      chain = d.chain;
      lowest = λ b o. rw d.head (d.lowest b o);
      text_is =
          said.text_is ∙ text-chain (F s) said.told (take said.told.length said.out) z ∙
          (λ i. refused_text (z i) (sym d.head i) ++ rule_lines (read i));
    }
