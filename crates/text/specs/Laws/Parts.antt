-- Each text, written part by part, and how long it can be.
use Rattle.std.specs.Prelude.{◌≡◌, List, [], ℕ, ◌+◌, ◌^◌, ◌≤◌, ◌<◌, length}
use Rattle.std.proofs.Common.{ap, ◌∙◌, append_assoc, arith, length-append}
use Rattle.io.specs.Digits.{last_digits, IsDigitCount}
use Rattle.text.specs.Text.{ascii, decimal, pair_line, refused_text}
use Rattle.text.specs.Wrote.{Wrote}
use Rattle.text.specs.Writes.{Writes, WritesNamed}
use Rattle.text.specs.declared.Writer.{Writer}
use Rattle.text.specs.Laws.Decimal.{decimal-digits, decimal-most}
use Rattle.text.specs.Laws.Wrote.{Named, wrote_then, wrote-is}
use Rattle.text.specs.Laws.Writes.{writes_then, writes-is}

-- ---- numbers

-- the digits that `io::decimal` gives are at most 20,
pub digits-room : {n k : ℕ} {ds : List ℕ} → n < 2 ^ 64 → IsDigitCount 10 1 n k → ds ≡ last_digits 10 k n → length ds ≤ 20
digits-room {n} {k} h f e = omega (arith, ap length (e ∙ decimal-digits n k h f), decimal-most n)

-- and make the number
pub digits-named : {w w₁ : Writer} {ds : List ℕ} {n k : ℕ} → n < 2 ^ 64 → IsDigitCount 10 1 n k → ds ≡ last_digits 10 k n →
    Writes w w₁ ds →
    WritesNamed w w₁ [] n
digits-named {n = n} {k} h f e v = record {
  writes = writes-is v (e ∙ decimal-digits n k h f);
  near = omega (arith, v.wrote.end, digits-room h f e);
}

-- a number behind a word
pub word-named : {w w₁ w₂ : Writer} {word : List ℕ} {n : ℕ} → Writes w w₁ word → WritesNamed w₁ w₂ [] n → WritesNamed w w₂ word n
word-named u v = record { writes = writes_then u v.writes; near = omega (arith, u.wrote.end, v.near) }

-- ---- parts that make a text

-- in the output,
pub refused-wrote : {out out₁ out₂ out₃ : List ℕ} {a b r n d : ℕ} → Named out out₁ 0 a (ascii "refused ") n →
    Named out₁ out₂ a b (ascii " ") d → Wrote out₂ out₃ b r (ascii "\n") → Wrote out out₃ 0 r (refused_text n d)
unfolding refused_text
refused-wrote u v w = wrote-is (wrote_then (wrote_then u.wrote v.wrote) w) (simp append_assoc)

pub pair-wrote : {out out₁ out₂ out₃ : List ℕ} {at a b r m n : ℕ} → Named out out₁ at a [] m →
    Named out₁ out₂ a b (ascii " ") n → Wrote out₂ out₃ b r (ascii "\n") → Wrote out out₃ at r (pair_line m n)
unfolding pair_line
pair-wrote u v w = wrote-is (wrote_then (wrote_then u.wrote v.wrote) w) (simp append_assoc)

-- and of a writer
pub refused-writes : {w w₁ w₂ w₃ : Writer} {n d : ℕ} → WritesNamed w w₁ (ascii "refused ") n →
    WritesNamed w₁ w₂ (ascii " ") d → Writes w₂ w₃ (ascii "\n") → Writes w w₃ (refused_text n d)
unfolding refused_text
refused-writes u v t = writes-is (writes_then (writes_then u.writes v.writes) t) (simp append_assoc)

pub pair-writes : {w w₁ w₂ w₃ : Writer} {m n : ℕ} → WritesNamed w w₁ [] m →
    WritesNamed w₁ w₂ (ascii " ") n → Writes w₂ w₃ (ascii "\n") → Writes w w₃ (pair_line m n)
unfolding pair_line
pair-writes u v t = writes-is (writes_then (writes_then u.writes v.writes) t) (simp append_assoc)

-- ---- lengths

-- a refusal, with 20 digits for each number,
pub refused-most : (n d : ℕ) → length (refused_text n d) ≤ 64
unfolding refused_text
refused-most n d = simp length-append (omega (arith, decimal-most n, decimal-most d))

-- and two numbers in a line
pub pair-most : (a b : ℕ) {j k : ℕ} → length (decimal a) ≤ j → length (decimal b) ≤ k → length (pair_line a b) ≤ j + k + 2
unfolding pair_line
pair-most a b h l = simp length-append (omega arith)
