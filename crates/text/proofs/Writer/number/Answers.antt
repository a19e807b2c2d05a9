-- `text::Writer::number` meets its contract: the digits of the number are put. Assumes nothing.
use native.Mathlib.Omega.{arith}
use Rattle.text.specs.Laws.Parts.{digits-named}
use Rattle.text.proofs.Writer.number.Goals as goal

pub returns : goal.returns
returns c =
    digits-named (omega arith) c.decimal-count.ensures.len c.decimal-count.ensures.digits c.put.ensures
