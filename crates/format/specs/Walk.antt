-- What the walk over the rules finds: "A reader of the program file gives the rules one after another, each body as a part of the file."
use Rattle.std.specs.Prelude.{Option, Some, None, cond, List, [], ◌∷◌, ℕ, zero, suc, ◌+◌, ◌*◌, ◌-◌, ◌/◌, ltb, length, take, drop}
use Rattle.meaning.specs.Lists.{upto}
use Rattle.meaning.specs.Meaning.{Literal, Rule}
use Rattle.format.specs.Bytes.{u16}
use Rattle.format.specs.File.{rules_at, after, literal}
use Rattle.format.specs.declared.walk.Rule.{Rule as Step}

-- where the rules start; in bytes too few for the contents, their end
unfoldable pub first_at : List ℕ → ℕ
first_at s = cond (ltb (length s) 28) (length s) (rules_at s)

-- the rule at a place, where a whole one stands there
unfoldable pub step_at : List ℕ → ℕ → Option Step
step_at s at =
    cond (ltb (length s) (at + 4)) None
    (cond (ltb (length s) (after s at)) None (Some (record { head = u16 s at; body = at + 4; next = after s at })))

-- the bytes from one place to another, where they are there
unfoldable pub part_of : List ℕ → ℕ → ℕ → List ℕ
part_of s from to = cond (ltb to from) [] (cond (ltb (length s) to) [] (take (to - from) (drop from s)))

-- literal i of a body
unfoldable pub entry_at : List ℕ → ℕ → Option ℕ
entry_at b i = cond (ltb i (length b / 2)) (Some (u16 b (2 * i))) None

-- the literals of a body that is a part of the file
unfoldable pub body_of : List ℕ → List Literal
unfolding upto
body_of b = upto (length b / 2) (λ i. literal (u16 b (2 * i)))

-- the rule that was met, and then what the rest of the walk gives from the next place on; nothing at the end
unfoldable pub met_by : List ℕ → (ℕ → List Rule) → Option Step → List Rule
unfolding part_of body_of
met_by s rest (Some r) = record { head = r.head; body = body_of (part_of s r.body r.next) } ∷ rest r.next
met_by s rest None = []

-- the rules that the walk meets from a place on, n of them at most
unfoldable pub walk : List ℕ → ℕ → ℕ → List Rule
unfolding step_at met_by
walk s at zero = []
walk s at (suc n) = met_by s (λ e. walk s e n) (step_at s at)
