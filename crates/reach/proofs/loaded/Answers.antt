-- `loaded` meets its contract: the check and 36, then the used parts of the lent memory are handed on. Assumes nothing.
use Rattle.std.proofs.lemmas.Result.{err_from_is_err_and}
use Rattle.calls.specs.Laws.Stepping.{load_refused, load-short, load-asked, load-parts}
use Rattle.reach.proofs.loaded.Goals as goal

pub returns-in_err-check : goal.returns-in_err-check
returns-in_err-check c =
    let (why, is, from) = err_from_is_err_and c.from_residual.result c.from_residual.ensures.1 in
    rw (is, from) (load_refused _ c.args.nodes.now c.args.places.now c.check.ensures c.in_err-check.was)

pub returns-then-places-lt544 : goal.returns-then-places-lt544
returns-then-places-lt544 c =
    load-short _ c.args.nodes.now c.args.places.now c.check.ensures c.in_ok-check.was c.if-places-lt544.true

pub of-requires : goal.of-requires
of-requires c =
    (load-asked _ c.args.nodes.now c.args.places.now c.check.ensures c.in_ok-check.was c.if-places-lt544.false
    c.room-room.ensures).passed.long

pub load-requires : goal.load-requires
load-requires c =
    rw c.of.ensures (load-asked _ c.args.nodes.now c.args.places.now c.check.ensures c.in_ok-check.was c.if-places-lt544.false
    c.room-room.ensures)

pub returns : goal.returns
returns c =
    load-parts _ c.args.nodes.now c.args.places.now c.check.ensures c.in_ok-check.was c.if-places-lt544.false c.room-room.ensures
    (rw c.of.ensures at c.load.ensures)
