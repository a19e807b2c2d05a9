-- `layering::layers` meets its contract. Assumes nothing.
use Rattle.layering.specs.Laws.Whole.{settle-asked, write-asked, find-asked}
use Rattle.layering.proofs.layers.Goals as goal

pub settle-requires : goal.settle-requires
settle-requires c = settle-asked c.requires.0 c.args.program.counted.derived_are

pub find-requires : goal.find-requires
find-requires c = find-asked c.requires.0 c.settle.ensures c.requires.1 c.if-not-settle.true

pub written-requires : goal.written-requires
written-requires c = write-asked c.requires.0 c.settle.ensures c.requires.1 c.if-not-settle.false
