-- The programs that a file may hold (document 01, "Largest: ..", and what one byte and two bytes can say).
use mathlib.Core.List.{Memᴰ}
use Rattle.std.specs.Prelude.{◌+◌, ◌≤◌, ◌<◌, length}
use Rattle.meaning.specs.Meaning.{Fact, Rule, Program, Layered, Known, total}
use Rattle.format.specs.Refusals.{largest}

-- "Largest: F 32, D 512, R 2,048, body 16 literals, .. total 18,446,744,073,709,551,615. All may be 0 except file length and total."
pub record Legal (P : Program) : Type 0 where
  pub facts : length P.facts ≤ 32
  pub derived : length P.layers ≤ 512
  pub rules : length P.rules ≤ 2048
  pub bodies : (r : Rule) → Memᴰ r P.rules → length r.body ≤ 16
  pub weights : (f : Fact) → Memᴰ f P.facts → (f.on < 65536) × (f.off < 65536) × (0 < f.on + f.off)
  pub whole : total P.facts ≤ largest
  pub known : Known P
  pub layered : Layered P
