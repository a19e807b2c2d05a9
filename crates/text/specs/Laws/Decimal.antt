-- Decimal digits: `decimal` is what `io::decimal` answers, and how many digits there are.
use Rattle.std.specs.Prelude.{◌≡◌, refl, [], ◌∷◌, ◌++◌, ℕ, zero, suc, ◌+◌, ◌-◌, ◌*◌, ◌/◌, ◌%◌, ◌^◌, ◌≤◌, ◌<◌, length}
use Rattle.std.proofs.Common.{
  sym,
  ap,
  ◌∙◌,
  arith,
  pow-suc,
  div-lt_iff_lt-mul,
  le-div_iff_mul-le,
  mod-eq_of_lt,
  length-append,
  lt-ltb,
  le-ltb,
}
use Rattle.std.proofs.Math.Decide.{dec_lt}
use Rattle.std.proofs.Math.Nat.{one-le-pow, pow-le-pow_right}
use Rattle.io.specs.Digits.{hex_digit_ascii, last_digits, IsDigitCount}
use Rattle.text.specs.Text.{decimal_in, decimal}

-- ---- one step

-- a number below 10 is one digit,
decimal-one : (k n : ℕ) → n < 10 → decimal_in (suc k) n ≡ (48 + n) ∷ []
unfolding decimal_in
decimal-one k n h = rw (decimal_in, lt-ltb n 10 h) refl

-- and another has its last digit behind those of a tenth
decimal-more : (k n : ℕ) → 10 ≤ n → decimal_in (suc k) n ≡ decimal_in k (n / 10) ++ (48 + n % 10) ∷ []
unfolding decimal_in
decimal-more k n h = rw (decimal_in, le-ltb n 10 h) refl

-- ---- the digits of `io::decimal`

glyph-digit : (d : ℕ) → d < 10 → hex_digit_ascii d ≡ 48 + d
glyph-digit d h = rw (lt-ltb d 10 h) refl

digits_decimal : (f k n : ℕ) → k < f → n < 10 ^ suc k → (0 < k → 10 ^ k ≤ n) → last_digits 10 (suc k) n ≡ decimal_in f n
digits_decimal zero k n l h m = absurd (omega arith)
digits_decimal (suc f) zero n l h m =
    let small : n < 10 = h in
    ap (λ d. d ∷ []) (ap hex_digit_ascii (mod-eq_of_lt small) ∙ glyph-digit n small) ∙ sym (decimal-one f n small)
digits_decimal (suc f) (suc k) n l h m =
    let ten : 10 ^ suc k ≡ 10 ^ k * 10 = pow-suc 10 k in
    let most : n < 10 ^ suc k * 10 = rw (← pow-suc 10 (suc k)) h in
    let least : 10 ^ k * 10 ≤ n = rw (← ten) (m (omega arith)) in
    let some : 1 ≤ 10 ^ k = one-le-pow k 10 (omega arith) in
    let digit : n % 10 < 10 = omega arith in
    ap (λ d. last_digits 10 (suc k) (n / 10) ++ d ∷ []) (glyph-digit (n % 10) digit) ∙
    ap (λ ds. ds ++ (48 + n % 10) ∷ [])
    (digits_decimal f k (n / 10) (omega arith) ((div-lt_iff_lt-mul (omega arith)).1 most)
    (λ z. (le-div_iff_mul-le (omega arith)).1 least)) ∙
    sym (decimal-more f n (omega arith))

-- a number of 64 bits has at most 20 digits
fewest-most : (n k : ℕ) → n < 2 ^ 64 → IsDigitCount 10 1 n k → k ≤ 20
fewest-most n k h e = elim (dec_lt 20 k) [
  | no g ↦ omega arith
  | yes g ↦
      let most : 10 ^ 20 ≤ 10 ^ (k - 1) = pow-le-pow_right (omega arith) {i = 20} {j = k - 1} (omega arith) in
      let least : 10 ^ (k - 1) ≤ n = e.2 (omega arith) in
      absurd (omega arith)
]

-- the fewest digits that hold a number are its decimal digits
pub decimal-digits : (n k : ℕ) → n < 2 ^ 64 → IsDigitCount 10 1 n k → last_digits 10 k n ≡ decimal n
decimal-digits n zero h e = absurd (omega (arith, e.0))
decimal-digits n (suc k) h e =
    let less : suc k - 1 ≡ k = omega arith in
    digits_decimal 20 k n (omega (arith, fewest-most n (suc k) h e)) e.1 (λ z. rw (← less) (e.2 (omega arith)))

-- ---- how many digits

in-most : (k n : ℕ) → length (decimal_in k n) ≤ k
unfolding decimal_in
in-most zero n = omega arith
in-most (suc k) n = elim (dec_lt n 10) [
  | yes h ↦ rw (decimal-one k n h) (omega arith)
  | no h ↦
      rw (decimal-more k n (omega arith)) (omega (arith, length-append (decimal_in k (n / 10)) ((48 + n % 10) ∷ []), in-most k (n / 10)))
]

in-short : (f k n : ℕ) → n < 10 ^ suc k → length (decimal_in f n) ≤ suc k
unfolding decimal_in
in-short zero k n h = omega arith
in-short (suc f) zero n h = let small : n < 10 = h in rw (decimal-one f n small) (omega arith)
in-short (suc f) (suc k) n h = elim (dec_lt n 10) [
  | yes l ↦ rw (decimal-one f n l) (omega arith)
  | no l ↦
      let most : n < 10 ^ suc k * 10 = rw (← pow-suc 10 (suc k)) h in
      rw (decimal-more f n (omega arith))
      (omega (
        arith,
        length-append (decimal_in f (n / 10)) ((48 + n % 10) ∷ []),
        in-short f k (n / 10) ((div-lt_iff_lt-mul (omega arith)).1 most),
      ))
]

-- at most 20,
pub decimal-most : (n : ℕ) → length (decimal n) ≤ 20
decimal-most n = in-most 20 n

-- and of a number below 10 ^ (k + 1) at most k + 1
pub decimal-short : (k n : ℕ) → n < 10 ^ suc k → length (decimal n) ≤ suc k
decimal-short k n h = in-short 20 k n h
