-- What the call answers is fixed but for the chain: which of the answers is given, its numbers, and at every answer but 24 the output.
use Rattle.std.specs.Prelude.{◌≡◌, refl, Result, Ok, Err, ⊤, List, ◌∷◌, ◌++◌, ℕ, zero, suc, ◌+◌, ◌<◌, drop}
use Rattle.std.proofs.Common.{sym, ap, ◌∙◌, arith}
use Rattle.meaning.specs.Lists.{upto}
use Rattle.meaning.specs.Meaning.{Program, atoms}
use Rattle.format.specs.File.{F, D, decode}
use Rattle.format.specs.Refusals.{number, detail}
use Rattle.format.specs.Laws.Decoded.{decode-facts, decode-layers}
use Rattle.chains.specs.Layering.{Smallest}
use Rattle.chains.specs.Written.{ChainDone}
use Rattle.layering.specs.Told.{LayersDone, HighDone, Done, Told, found_told, LayersIs, short, refused, found}
use Rattle.layering.specs.Laws.Exists.{chain-none}
use Rattle.layering.specs.Laws.Told.{passes-formed, not-refused, not-high}
use Rattle.layering.specs.declared.Unlayered.{Unlayered}
use Rattle.layering.specs.declared.Unlayered.TheVariants.{High, Chain}

-- ---- each way

-- two smallest layerings agree at every atom
pub smallest-same : {P : Program} {l m : ℕ → ℕ} → Smallest P l → Smallest P m → (a : ℕ) → a < atoms P → l a ≡ m a
smallest-same {l = l} {m = m} p q a h = omega (arith, p.below m q.legal a h, q.below l p.legal a h)

upto-same : (n : ℕ) (f g : ℕ → ℕ) → ((i : ℕ) → i < n → f i ≡ g i) → upto n f ≡ upto n g
unfolding upto
upto-same zero f g e = refl
upto-same (suc n) f g e = λ j. e 0 (omega arith) j ∷ upto-same n (λ i. f (suc i)) (λ i. g (suc i)) (λ i h. e (suc i) (omega arith)) j

module _ {s out o₁ o₂ : List ℕ} where
  -- the D bytes,
  pub layers-same : LayersDone s out o₁ → LayersDone s out o₂ → o₁ ≡ o₂
  layers-same c d =
      c.bytes ∙
      ap (λ l. l ++ drop (D s) out)
      (upto-same (D s) (λ i. c.layer (F s + i)) (λ i. d.layer (F s + i))
      (λ i h. smallest-same c.smallest d.smallest (F s + i) (omega (arith, decode-facts s, decode-layers s)))) ∙
      sym d.bytes

  -- no lowest atom too high lies below another,
  not-below : {a b : ℕ} → HighDone s out o₁ a → HighDone s out o₂ b → b < a → ⊥
  not-below {b = b} c d lt =
      let same = smallest-same c.smallest d.smallest b (omega (arith, d.below, decode-facts s, decode-layers s)) in
      omega (arith, d.high, c.others b d.from lt)

  -- 24's detail,
  pub chain_same : {a b n m : ℕ} → ChainDone s out o₁ a n → ChainDone s out o₂ b m → a ≡ b
  chain_same {a} {b} c d =
      omega (
        arith,
        c.lowest b (record { first = d.first; others = d.others; chain = d.chain; head = d.head }),
        d.lowest a (record { first = c.first; others = c.others; chain = c.chain; head = c.head }),
      )

-- and 37's
pub high_same : {s out o₁ o₂ : List ℕ} {a b : ℕ} → HighDone s out o₁ a → HighDone s out o₂ b → a ≡ b
high_same c d = omega (arith, not-below c d, not-below d c)

-- a chain and a smallest layering exclude each other
not-both : {s out o₁ : List ℕ} {a n : ℕ} → ChainDone s out o₁ a n → {layer : ℕ → ℕ} → Smallest (decode s) layer → ⊥
not-both {s} c {layer} w = chain-none (decode s) (c.first ∷ c.others) c.chain layer w.legal

-- ---- all of them

-- the same refusal and detail, and the same length and output but at 24
pub record SameTold (o₁ o₂ : List ℕ) (r₁ r₂ : Told) : Type 0 where
  pub refusal : r₁.refusal ≡ r₂.refusal
  pub detail : r₁.detail ≡ r₂.detail
  pub length : (r₁.refusal ≡ 24 → ⊥) → r₁.length ≡ r₂.length
  pub output : (r₁.refusal ≡ 24 → ⊥) → o₁ ≡ o₂

same-all : {o₁ o₂ : List ℕ} {r₁ r₂ : Told} → r₁ ≡ r₂ → o₁ ≡ o₂ → SameTold o₁ o₂ r₁ r₂
same-all e k = record {
  refusal = ap (λ t. t.refusal) e;
  detail = ap (λ t. t.detail) e;
  length = λ h. ap (λ t. t.length) e;
  output = λ h. k;
}

same-found : (s out o₁ o₂ : List ℕ) (f g : Result ⊤ Unlayered) → Done s out o₁ f → Done s out o₂ g →
    SameTold o₁ o₂ (found_told s f) (found_told s g)
same-found s out o₁ o₂ (Ok _) (Ok _) c d = same-all refl (layers-same c d)
same-found s out o₁ o₂ (Ok _) (Err (High b)) c d = absurd (not-high d c.smallest c.low)
same-found s out o₁ o₂ (Ok _) (Err (Chain m)) c d = absurd (not-both d c.smallest)
same-found s out o₁ o₂ (Err (High a)) (Ok _) c d = absurd (not-high c d.smallest d.low)
same-found s out o₁ o₂ (Err (High a)) (Err (High b)) c d =
    same-all (ap (λ a. found_told s (Err (High a))) (high_same c d)) (c.kept ∙ sym d.kept)
same-found s out o₁ o₂ (Err (High a)) (Err (Chain m)) c d = absurd (not-both d c.smallest)
same-found s out o₁ o₂ (Err (Chain l)) (Ok _) c d = absurd (not-both c d.smallest)
same-found s out o₁ o₂ (Err (Chain l)) (Err (High b)) c d = absurd (not-both c d.smallest)
same-found s out o₁ o₂ (Err (Chain l)) (Err (Chain m)) c d = record {
  refusal = refl;
  detail = chain_same c d;
  length = λ h. absurd (h refl);
  output = λ h. absurd (h refl);
}

-- two answers for the same file and output are the same, but for which chain was written
pub told_fixed : {s out o₁ o₂ : List ℕ} {r₁ r₂ : Told} → LayersIs s out o₁ r₁ → LayersIs s out o₂ r₂ → SameTold o₁ o₂ r₁ r₂
told_fixed (short h k e) (short i l q) = same-all (e ∙ sym q) (k ∙ sym l)
told_fixed (short h k e) (refused i v l q) = absurd (omega arith)
told_fixed (short h k e) (found f i g d q) = absurd (omega arith)
told_fixed (refused h v k e) (short i l q) = absurd (omega arith)
told_fixed (refused {w = w} h v k e) (refused {w = x} i u l q) =
    let same : w ≡ x = cc in
    same-all (e ∙ ap (λ w. record { refusal = number w; detail = detail w; length = 0 }) same ∙ sym q) (k ∙ sym l)
told_fixed {s} (refused h v k e) (found f i g d q) = absurd (not-refused (passes-formed s g) v)
told_fixed (found a h f c e) (short i l q) = absurd (omega arith)
told_fixed {s} (found a h f c e) (refused i v l q) = absurd (not-refused (passes-formed s f) v)
told_fixed {s} {out} {o₁} {o₂} (found f h _ c e) (found g i _ d q) = rw (e, q) (same-found s out o₁ o₂ f g c d)
