-- The program that a file holds: its sizes, its facts, and the layers of its atoms, read off the bytes.
use Rattle.std.specs.Prelude.{◌≡◌, refl, Bool, true, false, List, ℕ, ◌+◌, ◌*◌, ◌-◌, ◌≤◌, ◌<◌, leb}
use Rattle.std.proofs.Common.{sym, ap₂, ◌∙◌, mul-one, mul-zero, arith, lt-ltb, le-ltb, leb-true, leb-false}
use Rattle.std.proofs.Math.Path.{ap}
use Rattle.std.proofs.Math.Bool.{cond}
use Rattle.std.proofs.Math.ListN.{length, get_or}
use mir.Val.{bool_byte}
use Rattle.meaning.specs.Meaning.{Fact, layer_of, atoms}
use Rattle.meaning.proofs.Laws.Tests.{get_or-upto, length-upto}
use Rattle.format.specs.Bytes.{byte}
use Rattle.format.specs.Checked.{LayerOf}
use Rattle.format.specs.File.{F, D, R, fact_at, layers_at, start_of, rule_at, decode}

module _ (s : List ℕ) where
  -- F facts,
  pub decode-facts : length (decode s).facts ≡ F s
  unfolding decode
  decode-facts = length-upto (F s) (fact_at s)

  -- D layers,
  pub decode-layers : length (decode s).layers ≡ D s
  unfolding decode
  decode-layers = length-upto (D s) (λ i. byte s (layers_at s + i))

  -- R rules,
  pub decode-rules : length (decode s).rules ≡ R s
  unfolding decode
  decode-rules = length-upto (R s) (λ j. rule_at s (start_of s j))

  -- and F + D atoms
  pub decode-atoms : atoms (decode s) ≡ F s + D s
  decode-atoms = ap₂ ◌+◌ decode-facts decode-layers

  pub fact-is : (d : Fact) (i : ℕ) → i < F s → get_or (decode s).facts i d ≡ fact_at s i
  unfolding decode
  fact-is d i h = get_or-upto (F s) (fact_at s) d i h

  layer-byte : (i : ℕ) → i < D s → get_or (decode s).layers i 0 ≡ byte s (layers_at s + i)
  unfolding decode
  layer-byte i h = get_or-upto (D s) (λ k. byte s (layers_at s + k)) 0 i h

  -- the layer of a fact,
  pub fact-layer : (a : ℕ) → a < F s → layer_of (decode s) a ≡ 0
  unfolding layer_of
  fact-layer a h =
      ap (λ b. cond b 0 (get_or (decode s).layers (a - length (decode s).facts) 0)) (lt-ltb a _ (omega (arith, decode-facts)))

  -- and of a derived atom
  pub derived-layer : (a : ℕ) → F s ≤ a → a < F s + D s → layer_of (decode s) a ≡ byte s (28 + 3 * F s + a)
  unfolding layer_of
  derived-layer a h k =
      ap (λ b. cond b 0 (get_or (decode s).layers (a - length (decode s).facts) 0)) (le-ltb a _ (omega (arith, decode-facts))) ∙
      ap (λ n. get_or (decode s).layers (a - n) 0) decode-facts ∙
      layer-byte (a - F s) (omega arith) ∙
      ap (byte s) (omega arith)

-- the byte of a derived atom, times 0 for a fact, is the layer
pub layer-read :
    (s : List ℕ) (a : ℕ) {f x : ℕ} → f ≡ F s → a < F s + D s → x ≡ byte s (28 + 3 * f + a) → x < 256 → LayerOf s a (x * bool_byte (leb f a))
layer-read s a {f} {x} e h r small = go (leb f a) refl
  where
    go : (b : Bool) → leb f a ≡ b → LayerOf s a (x * bool_byte b)
    go true q = record {
      value = mul-one x ∙ r ∙ ap (λ n. byte s (28 + 3 * n + a)) e ∙ sym (derived-layer s a (omega (arith, leb-true f a q)) h);
      small = rw mul-one small;
    }
    go false q = record { value = mul-zero x ∙ sym (fact-layer s a (omega (arith, leb-false f a q))); small = rw mul-zero (omega arith) }
