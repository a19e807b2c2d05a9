-- When each answer is given: 24 exactly where a chain exists, and the layers exactly where the smallest layering has none over 255. What
-- a caller may take from an answer.
use Rattle.std.specs.Prelude.{◌≡◌, refl, Ok, Err, true, false, ◌↔◌, List, ◌∷◌, ℕ, ◌+◌, ◌*◌, ◌≤◌, ◌<◌, length}
use Rattle.std.proofs.Common.{ap, sym, ◌∙◌, arith}
use Rattle.format.specs.File.{F, D, decode}
use Rattle.format.specs.Refusals.{Verdict, verdict_by, passes}
use Rattle.format.specs.Passed.{Formed}
use Rattle.format.specs.Laws.Accepted.{formed}
use Rattle.format.specs.Laws.Decoded.{decode-facts, decode-layers}
use Rattle.format.specs.Laws.Numbers.{number-range}
use Rattle.format.specs.Laws.Passing.{formed-accepted}
use Rattle.format.specs.declared.Refusal.{Refusal}
use Rattle.chains.specs.Layering.{Smallest}
use Rattle.chains.specs.Laws.Cut.{SomeChain}
use Rattle.chains.specs.Written.{ChainDone}
use Rattle.layering.specs.Told.{LayersDone, HighDone, Told, LayersIs, short, refused, found}
use Rattle.layering.specs.Laws.Exists.{chain-none}
use Rattle.layering.specs.declared.Unlayered.TheVariants.{High, Chain}

-- a file that passes its check but for 11 holds what that check asks for, and the other way round
pub passes-formed : (s : List ℕ) → passes (verdict_by false s) ≡ true → Formed s
passes-formed s = go (verdict_by false s) refl
  where
    go : (v : Verdict) → verdict_by false s ≡ v → passes v ≡ true → Formed s
    go (Ok a) e p = formed s e
    go (Err w) e p = let z : ◌≡◌ {A = ℕ} 0 1 = cc in absurd (omega arith)

pub formed-passes : {s : List ℕ} → Formed s → passes (verdict_by false s) ≡ true
formed-passes f = ap passes (formed-accepted f)

-- a file that has passed its check is not refused
pub not-refused : {s : List ℕ} {w : Refusal} → Formed s → verdict_by false s ≡ Err w → ⊥
not-refused f v =
    let e = sym (formed-accepted f) ∙ v in
    let z : ◌≡◌ {A = ℕ} 0 1 = cc in
    omega arith

-- the refusal of an answer that is told in full
said : {r : Told} {n d l : ℕ} → r ≡ record { refusal = n; detail = d; length = l } → r.refusal ≡ n
said e = ap (λ t. t.refusal) e

-- where the smallest layering is too high, no other is low enough: it is below every legal one
pub not-high : {s out out₁ : List ℕ} {a : ℕ} → HighDone s out out₁ a → {layer : ℕ → ℕ} → Smallest (decode s) layer →
    ((a : ℕ) → F s ≤ a → a < F s + D s → layer a ≤ 255) → ⊥
not-high {s} {a = a} d {layer} w low =
    let least = d.smallest.below layer w.legal a (omega (arith, d.below, decode-facts s, decode-layers s)) in
    omega (arith, d.high, low a d.from d.below)

module _ {s out out₁ : List ℕ} {r : Told} (is : LayersIs s out out₁ r) (room : 2048 ≤ length out) (formed : Formed s) where
  -- a layering that can be written
  abbrev Writable : Type 0
  Writable = (layer : ℕ → ℕ) × Smallest (decode s) layer × ((a : ℕ) → F s ≤ a → a < F s + D s → layer a ≤ 255)

  -- "refused exactly when some atom depends on itself through a chain of rules"
  pub told-24 : (r.refusal ≡ 24) ↔ SomeChain (decode s)
  told-24 = (λ q. fst is q, λ c. back is c)
    where
      fst : LayersIs s out out₁ r → r.refusal ≡ 24 → SomeChain (decode s)
      fst (short h k e) q = absurd (omega arith)
      fst (refused h v k e) q = absurd (not-refused formed v)
      fst (found (Ok _) h g d e) q = absurd (omega (arith, said e, q))
      fst (found (Err (High a)) h g d e) q = absurd (omega (arith, said e, q))
      fst (found (Err (Chain l)) h g d e) q = (d.first ∷ d.others, d.chain)

      back : LayersIs s out out₁ r → SomeChain (decode s) → r.refusal ≡ 24
      back (short h k e) c = absurd (omega arith)
      back (refused h v k e) c = absurd (not-refused formed v)
      back (found (Ok _) h g d e) c = absurd (chain-none (decode s) c.0 c.1 d.layer d.smallest.legal)
      back (found (Err (High a)) h g d e) c = absurd (chain-none (decode s) c.0 c.1 d.layer d.smallest.legal)
      back (found (Err (Chain l)) h g d e) c = said e

  -- the layers are written exactly where a smallest layering exists and has none over 255
  pub told-0 : (r.refusal ≡ 0) ↔ Writable
  told-0 = (λ q. fst is q, λ w. back is w)
    where
      fst : LayersIs s out out₁ r → r.refusal ≡ 0 → Writable
      fst (short h k e) q = absurd (omega arith)
      fst (refused h v k e) q = absurd (not-refused formed v)
      fst (found (Ok _) h g d e) q = (d.layer, d.smallest, d.low)
      fst (found (Err (High a)) h g d e) q = absurd (omega (arith, said e, q))
      fst (found (Err (Chain l)) h g d e) q = absurd (omega (arith, said e, q))

      back : LayersIs s out out₁ r → Writable → r.refusal ≡ 0
      back (short h k e) w = absurd (omega arith)
      back (refused h v k e) w = absurd (not-refused formed v)
      back (found (Ok _) h g d e) w = said e
      back (found (Err (High a)) h g d e) w = absurd (not-high d w.1 w.2)
      back (found (Err (Chain l)) h g d e) w =
          absurd (chain-none (decode s) (d.first ∷ d.others) d.chain w.0 w.1.legal)

-- ---- of any file

module _ {s out out₁ : List ℕ} {r : Told} where
  -- where there is no refusal the file has passed its check but for 11,
  pub told-formed : LayersIs s out out₁ r → r.refusal ≡ 0 → Formed s
  told-formed (short h k e) q = absurd (omega (arith, said e))
  told-formed (refused {w} h v k e) q = absurd (omega (arith, said e, number-range w))
  told-formed (found f h g d e) q = passes-formed s g

  -- and the layers were written;
  pub told-written : LayersIs s out out₁ r → r.refusal ≡ 0 → LayersDone s out out₁ × (r.length ≡ D s)
  told-written (short h k e) q = absurd (omega (arith, said e))
  told-written (refused {w} h v k e) q = absurd (omega (arith, said e, number-range w))
  told-written (found (Ok _) h g d e) q = (d, ap (λ t. t.length) e)
  told-written (found (Err (High a)) h g d e) q = absurd (omega (arith, said e))
  told-written (found (Err (Chain l)) h g d e) q = absurd (omega (arith, said e))

  -- at 24 a chain was;
  pub told-chained : LayersIs s out out₁ r → r.refusal ≡ 24 →
      (n : ℕ) × Formed s × ChainDone s out out₁ r.detail n × (r.length ≡ 2 + 2 * n)
  told-chained (short h k e) q = absurd (omega (arith, said e))
  told-chained (refused {w} h v k e) q = absurd (omega (arith, said e, number-range w))
  told-chained (found (Ok _) h g d e) q = absurd (omega (arith, said e))
  told-chained (found (Err (High a)) h g d e) q = absurd (omega (arith, said e))
  told-chained (found (Err (Chain l)) h g d e) q = (l.count, passes-formed s g, rw e d, ap (λ t. t.length) e)

  -- and in every case what was written lies in the output
  pub told-inside : LayersIs s out out₁ r → r.length ≤ length out
  told-inside (short h k e) = omega (arith, ap (λ t. t.length) e)
  told-inside (refused h v k e) = omega (arith, ap (λ t. t.length) e)
  told-inside (found (Ok _) h g d e) = omega (arith, ap (λ t. t.length) e, (passes-formed s g).derived)
  told-inside (found (Err (High a)) h g d e) = omega (arith, ap (λ t. t.length) e)
  told-inside (found (Err (Chain l)) h g d e) = omega (arith, ap (λ t. t.length) e, d.few)
