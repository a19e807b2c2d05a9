-- The file of a program: an encoder, to show that no legal program is shut out.
use Rattle.std.specs.Prelude.{cond, ℕ, ◌+◌, ◌*◌, ◌/◌, ◌%◌, length}
use mathlib.Core.List.{List, [], ◌∷◌, ◌++◌, map, flatten}
use Rattle.meaning.specs.Meaning.{Fact, Literal, Rule, Program}

-- a number below 65,536 in two bytes, the low one first
unfoldable pub two : ℕ → List ℕ
two n = n % 256 ∷ n / 256 ∷ []

-- a number below 2 ^ 32 in four
unfoldable pub four : ℕ → List ℕ
unfolding two
four n = two (n % 65536) ++ two (n / 65536)

-- an entry of the contents: "kind (2), items (2), offset (4)"
unfoldable pub entry : ℕ → ℕ → ℕ → List ℕ
unfolding two four
entry kind items offset = two kind ++ (two items ++ four offset)

unfoldable pub encode_fact : Fact → List ℕ
unfolding two
encode_fact f = two f.on ++ two f.off

-- "A literal is 2 × atom, plus 1 if negated."
unfoldable pub encode_literal : Literal → List ℕ
unfolding two
encode_literal l = two (2 * l.atom + cond l.negated 1 0)

-- "head (2), body length (2), literals (2 each)"
unfoldable pub encode_rule : Rule → List ℕ
unfolding two encode_literal flatten
encode_rule r = two r.head ++ (two (length r.body) ++ flatten (map encode_literal r.body))

-- "contents first, then bodies without gaps"
unfoldable pub contents : Program → List ℕ
unfolding two entry
contents P =
    two 1 ++ (two 3 ++
    (entry 1 (length P.facts) 28 ++
    (entry 2 (length P.layers) (28 + 4 * length P.facts) ++
    entry 3 (length P.rules) (28 + 4 * length P.facts + length P.layers))))

unfoldable pub encode : Program → List ℕ
unfolding contents encode_fact encode_rule flatten
encode P = contents P ++ (flatten (map encode_fact P.facts) ++ (P.layers ++ flatten (map encode_rule P.rules)))
