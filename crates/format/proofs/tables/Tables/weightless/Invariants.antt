-- `format::tables::Tables::weightless` meets its contract: no fact before i is weightless.
use Rattle.std.proofs.Common.{ℕ, ◌<◌, Ok}
use Rattle.format.specs.Refusals.{fact_test}
use Rattle.format.specs.Checked.{Answers}
use Rattle.format.proofs.tables.Tables.weightless.Given as goal

abbrev pub invariant-loop-i : goal.invariant-loop-i
invariant-loop-i l = (k : ℕ) → k < l.i → Answers (fact_test l.self.program.file.now k) (Ok tt)
