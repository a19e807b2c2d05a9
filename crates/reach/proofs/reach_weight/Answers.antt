-- `reach_weight` meets its contract: what fits is handed on in its used parts, and else the answer is 36 (Laws/Parts).
use Rattle.std.specs.Prelude.{refl, not}
use Rattle.std.proofs.Common.{ap}
use Rattle.calls.specs.Laws.Tables.{gives, misfit}
use Rattle.calls.specs.Laws.Parts.{places-fit, parts-fit}
use Rattle.calls.specs.Laws.Questioning.{weight-parts}
use Rattle.reach.proofs.reach_weight.Goals as goal

pub returns-then-not-fits : goal.returns-then-not-fits
returns-then-not-fits c =
    rw c.of.ensures (gives (misfit c.fits.ensures (ap not c.if-not-fits.true) refl))

pub slice_bounds-weight-end-2 : goal.slice_bounds-weight-end-2
slice_bounds-weight-end-2 c = places-fit _ _ _ c.args.state c.fits.ensures (ap not c.if-not-fits.false)

pub of-program-requires : goal.of-program-requires
of-program-requires c = (parts-fit _ _ _ c.args.state c.fits.ensures (ap not c.if-not-fits.false) refl).passed.long

pub weight-weight-requires : goal.weight-weight-requires
weight-weight-requires c =
    rw c.of-program.ensures (parts-fit _ _ _ c.args.state c.fits.ensures (ap not c.if-not-fits.false) c.room-room.ensures)

pub returns : goal.returns
returns c =
    rw c.of-2.ensures (weight-parts _ _ _ c.args.state c.fits.ensures (ap not c.if-not-fits.false) c.room-room.ensures
    c.args.atom c.args.numbers.now (rw c.of-program.ensures at c.weight-weight.ensures))
