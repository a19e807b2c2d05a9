-- The atoms of the program that a call is handed.
use Rattle.std.specs.Prelude.{◌≡◌, List, ℕ, ◌+◌}
use Rattle.std.proofs.Common.{◌∙◌}
use Rattle.format.specs.File.{F, D}
use Rattle.format.specs.Counted.{CountsOf}

-- they are the file's
pub atoms-counted : {s : List ℕ} {facts derived rules n : ℕ} → CountsOf s facts derived rules → n ≡ facts + derived → n ≡ F s + D s
atoms-counted k q = q ∙ (λ i. k.facts_are i + k.derived_are i)
