-- Where a reader stands, and what it gives: "A reader of the program file gives the rules one after another, each body as a part of the
-- file."
use Rattle.std.specs.Prelude.{List, [], ℕ, zero, suc, Option, Some, None}
use Rattle.meaning.specs.Meaning.{Rule}
use Rattle.format.specs.Walk.{first_at, step_at, part_of, body_of}
use Rattle.format.specs.declared.walk.Rule.{Rule as Step}

-- the place after what stands at one: where the rule ends; where there is no rule, the place itself
abbrev pub past : Option Step → ℕ → ℕ
past (Some r) at = r.next
past None at = at

-- "each body as a part of the file": the bytes of a rule's body; none at the end
abbrev pub body_in : List ℕ → Option Step → List ℕ
body_in s (Some r) = part_of s r.body r.next
body_in s None = []

-- the rule that a step tells of, its literals being the entries of its body; none at the end
unfoldable pub rule_of : List ℕ → Option Step → Option Rule
unfolding part_of body_of
rule_of s (Some r) = Some (record { head = r.head; body = body_of (body_in s (Some r)) })
rule_of s None = None

-- where a reader at a place stands after `next`
unfoldable pub onward : List ℕ → ℕ → ℕ
onward s at = past (step_at s at) at

-- where a reader stands after j calls of `next`: it starts at the first rule
unfoldable pub place_of : List ℕ → ℕ → ℕ
unfolding onward
place_of s zero = first_at s
place_of s (suc j) = onward s (place_of s j)
