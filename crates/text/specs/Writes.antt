-- What a writer's functions ask and do.
use Rattle.std.specs.Prelude.{◌≡◌, List, ◌++◌, ℕ, ◌+◌, ◌≤◌, length}
use Rattle.text.specs.Text.{decimal}
use Rattle.text.specs.Wrote.{Wrote}
use Rattle.text.specs.declared.Writer.{Writer}

-- so many bytes can be written
abbrev pub HasRoom : Writer → ℕ → Type 0
HasRoom w n = w.at + n ≤ length w.out.now

-- the text stands behind what was written, in the same output
pub record Writes (w w₁ : Writer) (text : List ℕ) : Type 0 where
  pub wrote : Wrote w.out.now w₁.out.now w.at w₁.at text
  pub lent : w₁.out.ghost_name ≡ w.out.ghost_name

-- a word and a number behind it, which ends at most 20 digits behind the word
pub record WritesNamed (w w₁ : Writer) (word : List ℕ) (n : ℕ) : Type 0 where
  pub writes : Writes w w₁ (word ++ decimal n)
  pub near : w₁.at ≤ w.at + length word + 20
