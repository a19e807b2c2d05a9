-- What the bytes of a program file say (document 01, "The program file").
use Rattle.std.specs.Prelude.{List, ℕ, zero, suc, ◌+◌, ◌*◌, ◌/◌, ◌%◌, eqb}
use Rattle.meaning.specs.Lists.{upto}
use Rattle.meaning.specs.Meaning.{Fact, Literal, Rule, Program}
use Rattle.format.specs.Bytes.{byte, u16}

-- "three entries: kind (2), items (2), offset (4)": the items of the three kinds are F facts, D layers and R rules
abbrev pub F : List ℕ → ℕ
F s = u16 s 6

abbrev pub D : List ℕ → ℕ
D s = u16 s 14

abbrev pub R : List ℕ → ℕ
R s = u16 s 22

-- "kind 1, at 28 | F facts: on (2), off (2)"
unfoldable pub fact_at : List ℕ → ℕ → Fact
fact_at s i = record { on = u16 s (28 + 4 * i); off = u16 s (30 + 4 * i) }

-- "kind 2, at 28 + 4F | D layers, one byte each"
abbrev pub layers_at : List ℕ → ℕ
layers_at s = 28 + 4 * F s

-- "kind 3, at 28 + 4F + D | R rules: head (2), body length (2), literals (2 each)"
abbrev pub rules_at : List ℕ → ℕ
rules_at s = layers_at s + D s

-- the first byte after the rule at `at`
unfoldable pub after : List ℕ → ℕ → ℕ
after s at = at + 4 + 2 * u16 s (at + 2)

-- where rule j starts: the rules follow one another without gaps
unfoldable pub start_of : List ℕ → ℕ → ℕ
unfolding after
start_of s zero = rules_at s
start_of s (suc j) = after s (start_of s j)

-- "A literal is 2 × atom, plus 1 if negated."
unfoldable pub literal : ℕ → Literal
literal n = record { atom = n / 2; negated = eqb (n % 2) 1 }

-- literal i of the rule at `at`
unfoldable pub literal_at : List ℕ → ℕ → ℕ → Literal
unfolding literal
literal_at s at i = literal (u16 s (at + 4 + 2 * i))

unfoldable pub rule_at : List ℕ → ℕ → Rule
unfolding literal_at upto
rule_at s at = record { head = u16 s at; body = upto (u16 s (at + 2)) (literal_at s at) }

-- the program that a file holds
unfoldable pub decode : List ℕ → Program
unfolding upto fact_at rule_at start_of
decode s = record {
  facts = upto (F s) (fact_at s);
  layers = upto (D s) (λ i. byte s (layers_at s + i));
  rules = upto (R s) (λ j. rule_at s (start_of s j));
}
