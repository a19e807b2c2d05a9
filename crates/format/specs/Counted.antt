-- The counts that go along with a file.
use Rattle.std.specs.Prelude.{◌≡◌, List, ℕ, ◌<◌, ◌≤◌, length}
use Rattle.format.specs.File.{F, D, R, rules_at}

-- these are the file's counts of facts, derived atoms and rules, two bytes each
pub record CountsOf (s : List ℕ) (facts derived rules : ℕ) : Type 0 where
  pub facts_are : facts ≡ F s
  pub derived_are : derived ≡ D s
  pub rules_are : rules ≡ R s
  pub few_facts : facts < 65536
  pub few_derived : derived < 65536
  pub few_rules : rules < 65536

-- the file has passed 1 to 4
pub record Framed (s : List ℕ) : Type 0 where
  pub size : length s ≤ 65536
  pub fits : rules_at s ≤ length s
  pub few_facts : F s ≤ 32
  pub few_derived : D s ≤ 512
  pub few_rules : R s ≤ 2048
