-- `format::tables::Tables::layerless` meets its contract: no derived atom before i has layer 0.
use Rattle.std.proofs.Common.{ℕ, ◌<◌, Ok}
use Rattle.format.specs.Refusals.{layer_test}
use Rattle.format.specs.Checked.{Answers}
use Rattle.format.proofs.tables.Tables.layerless.Given as goal

abbrev pub invariant-loop-i : goal.invariant-loop-i
invariant-loop-i l = (k : ℕ) → k < l.i → Answers (layer_test l.self.program.file.now k) (Ok tt)
