-- `format::tables::Tables::product` meets its contract: the product so far times the total of the facts to come is the total.
use Rattle.std.proofs.Common.{◌≤◌}
use Rattle.format.specs.Refusals.{largest}
use Rattle.format.specs.Laws.FactsRead.{Product}
use Rattle.format.proofs.tables.Tables.product.Given as goal

abbrev pub invariant-loop-i : goal.invariant-loop-i
invariant-loop-i l = (l.total ≤ largest) × Product l.self.program.file.now l.i l.total
