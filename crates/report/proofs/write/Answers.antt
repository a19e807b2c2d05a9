-- `report::write` meets its contract: the text is that of the verdict. Assumes nothing.
use Rattle.report.specs.Laws.Said.{accepts, accepted-said, refused-said}
use Rattle.text.specs.Laws.Writes.{writes-is}
use Rattle.report.proofs.write.Goals as goal

pub of-program-requires : goal.of-program-requires
of-program-requires c = (accepts _ c.check.ensures c.in-Ok.is).passed.long

pub invariant_of-write : goal.invariant_of-write
invariant_of-write c = rw c.of-program.ensures (record { accepts = accepts _ c.check.ensures c.in-Ok.is })

pub returns-in-Ok : goal.returns-in-Ok
returns-in-Ok c =
    writes-is (rw c.of-program.ensures at c.write.ensures) (accepted-said _ c.check.ensures c.in-Ok.is)

pub returns-in-Err : goal.returns-in-Err
returns-in-Err c = writes-is c.refused.ensures (refused-said _ c.check.ensures c.in-Err.is c.number.ensures c.detail.ensures)
