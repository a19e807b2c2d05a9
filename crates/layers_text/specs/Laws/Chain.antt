-- A chain read back from the bytes that were written for it.
use Rattle.std.specs.Prelude.{◌≡◌, refl, Bool, ℕ, zero, suc, ◌+◌, ◌*◌, ◌<◌, length, get_or, take, drop}
use Rattle.std.proofs.Common.{sym, ap, ◌∙◌, arith, length-append, take_at}
use mathlib.Core.List.{List, ◌∷◌, ◌++◌, map, flatten, append_assoc}
use Rattle.meaning.specs.Lists.{upto}
use Rattle.meaning.specs.Meaning.{Program}
use Rattle.format.specs.Bytes.{u16}
use Rattle.format.specs.Encode.{two}
use Rattle.format.specs.Laws.Reading.{Stands, stands-whole, stands-left, stands-right, u16-two, each_read}
use Rattle.chains.specs.Layering.{Links}
use Rattle.chains.specs.Written.{ChainDone}
use Rattle.layers_text.specs.LayersText.{chain_in}

two-length : (n : ℕ) → length (two n) ≡ 2
unfolding two
two-length n = refl

-- a count and numbers, two bytes each
module _ (n : ℕ) (js : List ℕ) where
  abbrev coded : List ℕ
  coded = two n ++ flatten (map two js)

  numbers-stand : Stands coded (2 + 2 * 0) (flatten (map two js))
  numbers-stand =
      let e : length (two n) ≡ 2 = two-length n in
      rw e at (stands-right (two n) (flatten (map two js)) (stands-whole coded))

  count-read : u16 coded 0 ≡ n
  count-read = u16-two n (stands-left (two n) (flatten (map two js)) (stands-whole coded))

  numbers-read : (upto (length js) (λ i. u16 coded (2 + 2 * i)) ≡ js) × (2 + 2 * length js ≡ 2 + 2 * 0 + length (flatten (map two js)))
  numbers-read =
      each_read coded two js (λ i. u16 coded (2 + 2 * i)) (λ i. 2 + 2 * i) numbers-stand
      (λ i x m h. (u16-two x h, omega (arith, two-length x)))

  coded-length : length coded ≡ 2 + 2 * length js
  coded-length = omega (arith, length-append (two n) (flatten (map two js)), two-length n, numbers-read.1)

  coded-chain : n ≡ length js → chain_in coded ≡ js
  coded-chain e = ap (λ k. upto k (λ i. u16 coded (2 + 2 * i))) (count-read ∙ e) ∙ numbers-read.0

module _ {s out out₁ : List ℕ} {a n : ℕ} (d : ChainDone s out out₁ a n) where
  abbrev pub chain_of : List ℕ
  chain_of = d.first ∷ d.others

  written : take (2 + 2 * n) out₁ ≡ two n ++ flatten (map two chain_of)
  written =
      ap (take (2 + 2 * n)) (d.bytes ∙ sym (append_assoc (two n) (flatten (map two chain_of)) (drop (2 + 2 * n) out))) ∙
      take_at (two n ++ flatten (map two chain_of)) (drop (2 + 2 * n) out) (2 + 2 * n)
      (omega (arith, coded-length n chain_of, d.count))

  -- the count is that of its rules,
  pub chain-count : u16 (take (2 + 2 * n) out₁) 0 ≡ n
  chain-count = rw written (count-read n chain_of)

  -- which are read back,
  pub chain-read : chain_in (take (2 + 2 * n) out₁) ≡ chain_of
  chain-read = rw written (coded-chain n chain_of d.count)

  -- and fill the bytes
  pub chain-whole : length (take (2 + 2 * n) out₁) ≡ 2 + 2 * n
  chain-whole = rw written (omega (arith, coded-length n chain_of, d.count))

-- links go from rule to rule of the program
pub links-in : {P : Program} {k : ℕ} {js : List ℕ} {b : Bool} → Links P k js b → (i : ℕ) → i < length js → get_or js i 0 < length P.rules
links-in (Links.last t) zero h = t.from
links-in (Links.last t) (suc i) h = absurd (omega arith)
links-in (Links.next t ts) zero h = t.from
links-in (Links.next t ts) (suc i) h = links-in ts i (omega arith)
