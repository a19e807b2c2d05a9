-- How a run ended, in C's numbers, for the engine's enum (Calls.antt has the same for the definition's).
use Rattle.std.specs.Prelude.{ℕ}
use Rattle.state.specs.declared.How.{How}
use Rattle.state.specs.declared.How.TheVariants.{Finished, Spent, Full}

abbrev pub outcome_of : How → ℕ
outcome_of Finished = 1
outcome_of Spent = 2
outcome_of Full = 3
