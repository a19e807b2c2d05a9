-- `reach_layers` meets its contract: what is told, in numbers. Assumes nothing.
use Rattle.reach.proofs.reach_layers.Goals as goal

pub returns-in-Ok : goal.returns-in-Ok
returns-in-Ok c = rw c.from.ensures (rw c.in-Ok.is at c.tell.ensures)

pub returns-in-Err : goal.returns-in-Err
returns-in-Err c = rw (c.number.ensures, c.detail.ensures, c.length.ensures) (rw c.in-Err.is at c.tell.ensures)
