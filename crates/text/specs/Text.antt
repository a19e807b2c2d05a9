-- The texts that more than one program prints.
use Rattle.std.specs.Prelude.{true, false, List, [], ◌∷◌, ◌++◌, ℕ, zero, suc, ◌+◌, ◌/◌, ◌%◌, ◌≡◌, ltb, length, drop}
use Prim.Native.Char.{code}
use Prim.Native.String as native
use Rattle.io.specs.Counts.{IsPrefixLen}

-- ---- text and numbers

-- a text's characters as bytes, in ASCII
abbrev pub ascii : native.String → List ℕ
ascii native.[] = []
ascii (native.◌∷◌ c s) = code c ∷ ascii s

-- the decimal digits of n, the most significant first and none to spare; of a number of more than k digits, the last k
unfoldable pub decimal_in : ℕ → ℕ → List ℕ
decimal_in zero n = []
decimal_in (suc k) n = elim (ltb n 10) [
  | true ↦ (48 + n) ∷ []
  | false ↦ decimal_in k (n / 10) ++ (48 + n % 10) ∷ []
]

-- a number's decimal digits: 01's largest number, the total 18,446,744,073,709,551,615, has 20 (Laws/Decimal, `decimal-digits`)
abbrev pub decimal : ℕ → List ℕ
decimal n = decimal_in 20 n

-- ---- lines

-- two numbers in a line
unfoldable pub pair_line : ℕ → ℕ → List ℕ
pair_line a b = decimal a ++ ascii " " ++ decimal b ++ ascii "\n"

-- lines 0 to n - 1, in order
unfoldable pub lines : ℕ → (ℕ → List ℕ) → List ℕ
lines zero line = []
lines (suc i) line = lines i line ++ line i

-- "On a refusal it prints only `refused`, number, detail"
unfoldable pub refused_text : ℕ → ℕ → List ℕ
refused_text n d = ascii "refused " ++ decimal n ++ ascii " " ++ decimal d ++ ascii "\n"

-- ---- a text in the output

-- a whole text stands at the output's start, the rest is as it was, and r is the text's length; `counts` follows, and a caller that lends
-- the first r bytes asks for it
pub record Printed (text out out₁ : List ℕ) (r : ℕ) : Type 0 where
  pub bytes : out₁ ≡ text ++ drop (length text) out
  pub count : r ≡ length text
  pub counts : IsPrefixLen r out₁
