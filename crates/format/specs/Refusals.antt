-- When a file is refused, with what number and detail (document 01, "Refusal numbers", 1 to 11), in the order "Loading: ..".
use Rattle.std.specs.Prelude.{Result, Ok, Err, Bool, true, false, not, ◌&&◌, cond, ℕ, ◌+◌, eqb, ltb, leb, length}
use mathlib.Core.List.{List, [], ◌∷◌, ◌++◌, flatten}
use Rattle.meaning.specs.Lists.{upto}
use Rattle.meaning.specs.Meaning.{Literal, Program, layer_of, total, atoms}
use Rattle.format.specs.Bytes.{byte, u16, u32}
use Rattle.format.specs.File.{F, D, R, fact_at, layers_at, rules_at, after, start_of, literal_at, decode}
use Rattle.format.specs.declared.Refusal.{Refusal}
use Rattle.format.specs.declared.Refusal.TheVariants.{
  Length,
  Contents,
  Counts,
  Offset,
  Weightless,
  Total,
  Layerless,
  Broken,
  LongBody,
  Unknown,
  Layers,
}
use Rattle.format.specs.declared.Accepted.{Accepted}

-- ---- numbers and details

abbrev pub number : Refusal → ℕ
number Length = 1
number Contents = 2
number Counts = 3
number Offset = 4
number (Weightless i) = 5
number Total = 6
number (Layerless a) = 7
number (Broken j) = 8
number (LongBody j) = 9
number (Unknown j) = 10
number (Layers j) = 11

-- "0 where none is named"
abbrev pub detail : Refusal → ℕ
detail Length = 0
detail Contents = 0
detail Counts = 0
detail Offset = 0
detail (Weightless i) = i
detail Total = 0
detail (Layerless a) = a
detail (Broken j) = j
detail (LongBody j) = j
detail (Unknown j) = j
detail (Layers j) = j

-- ---- tests, of which the first that fails counts

-- what the check of a file says: accepted, with F, D, R and the total, or refused
abbrev pub Verdict : Type 0
Verdict = Result Accepted Refusal

pub record Test : Type 0 where
  pub fails : Bool
  pub refusal : Refusal

abbrev test : Bool → Refusal → Test
test b w = record { fails = b; refusal = w }

abbrev differs : ℕ → ℕ → Bool
differs m n = not (eqb m n)

unfoldable pub first : List Test → Verdict → Verdict
first [] v = v
first (t ∷ ts) v = cond t.fails (Err t.refusal) (first ts v)

-- ---- what is tested

-- 1: "file under 28 or over 65,536 bytes"
unfoldable pub length_tests : List ℕ → List Test
length_tests s = test (ltb (length s) 28) Length ∷ test (ltb 65536 (length s)) Length ∷ []

-- 2: "layout, entry count or kinds wrong"
unfoldable pub contents_tests : List ℕ → List Test
contents_tests s =
    test (differs (u16 s 0) 1) Contents ∷
    test (differs (u16 s 2) 3) Contents ∷
    test (differs (u16 s 4) 1) Contents ∷
    test (differs (u16 s 12) 2) Contents ∷
    test (differs (u16 s 20) 3) Contents ∷ []

-- 3: "F, D or R over its largest"
unfoldable pub counts_tests : List ℕ → List Test
counts_tests s = test (ltb 32 (F s)) Counts ∷ test (ltb 512 (D s)) Counts ∷ test (ltb 2048 (R s)) Counts ∷ []

-- 4: "an offset differs from the table, or lies past the file's end"; of the table's offsets the last is the largest
unfoldable pub offset_tests : List ℕ → List Test
offset_tests s =
    test (differs (u32 s 8) 28) Offset ∷
    test (differs (u32 s 16) (layers_at s)) Offset ∷
    test (differs (u32 s 24) (rules_at s)) Offset ∷
    test (ltb (length s) (rules_at s)) Offset ∷ []

-- 5: "a fact with on = off = 0 | first such fact"
unfoldable pub fact_test : List ℕ → ℕ → List Test
fact_test s i = test (eqb (fact_at s i).on 0 && eqb (fact_at s i).off 0) (Weightless i) ∷ []

-- 6: "total too large"
abbrev pub largest : ℕ
largest = 18446744073709551615

unfoldable pub total_tests : List ℕ → List Test
total_tests s = test (ltb largest (total (decode s).facts)) Total ∷ []

-- 7: "a layer byte 0 | first such atom"
unfoldable pub layer_test : List ℕ → ℕ → List Test
layer_test s i = test (eqb (byte s (layers_at s + i)) 0) (Layerless (F s + i)) ∷ []

-- 11: "a literal breaks the layers"
unfoldable pub breaks : Program → ℕ → Literal → Bool
breaks P h l = cond l.negated (leb (layer_of P h) (layer_of P l.atom)) (ltb (layer_of P h) (layer_of P l.atom))

-- a literal of rule j, with head h: "10 then 11"; where not layered, "loading's refusals through the leftover test, 11 left out"
unfoldable pub literal_tests : Bool → Program → ℕ → ℕ → Literal → List Test
unfolding breaks
literal_tests layered P j h l = test (leb (atoms P) l.atom) (Unknown j) ∷ test (layered && breaks P h l) (Layers j) ∷ []

-- rule j, at `at`: "header (8), length (9), body present (8), head (10)"
unfoldable pub head_tests : List ℕ → ℕ → ℕ → List Test
head_tests s j at =
    test (ltb (length s) (at + 4)) (Broken j) ∷
    test (ltb 16 (u16 s (at + 2))) (LongBody j) ∷
    test (ltb (length s) (after s at)) (Broken j) ∷
    test (ltb (u16 s at) (F s)) (Unknown j) ∷
    test (leb (F s + D s) (u16 s at)) (Unknown j) ∷ []

-- f 0, f 1, .. , f (n - 1), one after another
unfoldable pub each : ℕ → (ℕ → List Test) → List Test
unfolding upto flatten
each n f = flatten (upto n f)

-- "literals in order (10 then 11)"
unfoldable pub rule_tests : Bool → List ℕ → ℕ → List Test
unfolding head_tests literal_tests each
rule_tests layered s j =
    head_tests s j (start_of s j) ++
    each (u16 s (start_of s j + 2)) (λ i. literal_tests layered (decode s) j (u16 s (start_of s j)) (literal_at s (start_of s j) i))

-- "rules in file order, each: ..; leftover (8)"
unfoldable pub rules_tests : Bool → List ℕ → List Test
unfolding rule_tests each
rules_tests layered s = each (R s) (rule_tests layered s) ++ (test (ltb (start_of s (R s)) (length s)) (Broken (R s)) ∷ [])

-- "Loading: 1 to 7 in order; then rules in file order"
unfoldable pub file_tests : Bool → List ℕ → List Test
unfolding length_tests contents_tests counts_tests offset_tests fact_test total_tests layer_test rules_tests each
file_tests layered s =
    length_tests s ++ (contents_tests s ++ (counts_tests s ++ (offset_tests s ++
    (each (F s) (fact_test s) ++ (total_tests s ++ (each (D s) (layer_test s) ++ rules_tests layered s))))))

-- what an accepted file holds
abbrev pub accepted_of : List ℕ → Accepted
accepted_of s = record { facts = F s; derived = D s; rules = R s; total = total (decode s).facts }

-- what the check of a file says, with 11 or without
unfoldable pub verdict_by : Bool → List ℕ → Verdict
unfolding first file_tests
verdict_by layered s = first (file_tests layered s) (Ok (accepted_of s))

-- what loading's check says
unfoldable pub verdict : List ℕ → Verdict
unfolding verdict_by
verdict s = verdict_by true s

-- "the file passes 1 to 11"
abbrev pub passes : Verdict → Bool
passes (Ok a) = true
passes (Err w) = false
