-- The worked files of document 01: S as its 74 bytes, the others as programs, since 01 gives no bytes for them.
use Rattle.std.specs.Prelude.{true, false, List, [], ◌∷◌, ℕ}
use Rattle.meaning.specs.Meaning.{Fact, Literal, Rule}
use Rattle.format.specs.Encode.{encode}

abbrev pub plain : ℕ → Literal
plain a = record { atom = a; negated = false }

abbrev pub not : ℕ → Literal
not a = record { atom = a; negated = true }

abbrev rule : ℕ → List Literal → Rule
rule h b = record { head = h; body = b }

abbrev fact : ℕ → ℕ → Fact
fact x y = record { on = x; off = y }

-- file S: "facts 0 (standstill, 1/3) and 1 (gust, 2/3); rules 2 if 0; 2 if 3; 3 if 2, 1; 4 if 3; 5 if 2, not 3"
abbrev pub file_s : List ℕ
file_s =
    0x01 ∷ 0x00 ∷ 0x03 ∷ 0x00 ∷ 0x01 ∷ 0x00 ∷ 0x02 ∷ 0x00 ∷ 0x1C ∷ 0x00 ∷ 0x00 ∷ 0x00 ∷ 0x02 ∷ 0x00 ∷ 0x04 ∷ 0x00 ∷
    0x24 ∷ 0x00 ∷ 0x00 ∷ 0x00 ∷ 0x03 ∷ 0x00 ∷ 0x05 ∷ 0x00 ∷ 0x28 ∷ 0x00 ∷ 0x00 ∷ 0x00 ∷ 0x01 ∷ 0x00 ∷ 0x03 ∷ 0x00 ∷
    0x02 ∷ 0x00 ∷ 0x03 ∷ 0x00 ∷ 0x01 ∷ 0x01 ∷ 0x01 ∷ 0x02 ∷ 0x02 ∷ 0x00 ∷ 0x01 ∷ 0x00 ∷ 0x00 ∷ 0x00 ∷ 0x02 ∷ 0x00 ∷
    0x01 ∷ 0x00 ∷ 0x06 ∷ 0x00 ∷ 0x03 ∷ 0x00 ∷ 0x02 ∷ 0x00 ∷ 0x04 ∷ 0x00 ∷ 0x02 ∷ 0x00 ∷ 0x04 ∷ 0x00 ∷ 0x01 ∷ 0x00 ∷
    0x06 ∷ 0x00 ∷ 0x05 ∷ 0x00 ∷ 0x02 ∷ 0x00 ∷ 0x04 ∷ 0x00 ∷ 0x07 ∷ 0x00 ∷ []

-- 001's example: "facts 3/7 and 2/8, wet if either"; wet is atom 2
unfoldable pub file_wet : List ℕ
unfolding encode
file_wet = encode record {
  facts = fact 3 7 ∷ fact 2 8 ∷ [];
  layers = 1 ∷ [];
  rules = rule 2 (plain 0 ∷ []) ∷ rule 2 (plain 1 ∷ []) ∷ [];
}

-- 000's graph: "edges ba, bc, ac, ca, each 1/1; a path is an edge, or an edge and then a path"
-- The edges are atoms 0 to 3; for x and y out of a, b, c (0, 1, 2), the path from x to y is atom 4 + 3 x + y.
unfoldable pub file_graph : List ℕ
unfolding encode
file_graph = encode record {
  facts = fact 1 1 ∷ fact 1 1 ∷ fact 1 1 ∷ fact 1 1 ∷ [];
  layers = 1 ∷ 1 ∷ 1 ∷ 1 ∷ 1 ∷ 1 ∷ 1 ∷ 1 ∷ 1 ∷ [];
  rules =
      rule 7 (plain 0 ∷ []) ∷ rule 9 (plain 1 ∷ []) ∷ rule 6 (plain 2 ∷ []) ∷ rule 10 (plain 3 ∷ []) ∷
      rule 7 (plain 0 ∷ plain 4 ∷ []) ∷ rule 8 (plain 0 ∷ plain 5 ∷ []) ∷ rule 9 (plain 0 ∷ plain 6 ∷ []) ∷
      rule 7 (plain 1 ∷ plain 10 ∷ []) ∷ rule 8 (plain 1 ∷ plain 11 ∷ []) ∷ rule 9 (plain 1 ∷ plain 12 ∷ []) ∷
      rule 4 (plain 2 ∷ plain 10 ∷ []) ∷ rule 5 (plain 2 ∷ plain 11 ∷ []) ∷ rule 6 (plain 2 ∷ plain 12 ∷ []) ∷
      rule 10 (plain 3 ∷ plain 4 ∷ []) ∷ rule 11 (plain 3 ∷ plain 5 ∷ []) ∷ rule 12 (plain 3 ∷ plain 6 ∷ []) ∷ [];
}
