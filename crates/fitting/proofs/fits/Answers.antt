-- `fits` meets its contract: a refused file and too few places do not fit, and else the store tells.
use Rattle.fitting.specs.Laws.FitCode as laws
use Rattle.fitting.proofs.fits.Goals as goal
use Rattle.fitting.proofs.fits.Goals.{then-is_err-via-then-is_err, then-is_err-via-else-is_err+then-places-lt544}

pub returns-then-is_err : goal.returns-then-is_err
returns-then-is_err c = elim c.then-is_err.branch [
  | then-is_err-via-then-is_err w ↦
      laws.no-file c.args.file.now c.args.nodes.now c.args.places.now _ _ c.check.ensures c.is_err.ensures.value w.if-is_err.true
  | then-is_err-via-else-is_err+then-places-lt544 w ↦
      laws.no-long c.args.file.now c.args.nodes.now c.args.places.now _ _ w.if-places-lt544.true
]

pub of-requires : goal.of-requires
of-requires c = (laws.accepted c.args.file.now c.check.ensures c.is_err.ensures.value c.if-is_err.false).long

pub fits_in-requires : goal.fits_in-requires
fits_in-requires c =
    let passed = laws.accepted c.args.file.now c.check.ensures c.is_err.ensures.value c.if-is_err.false in
    rw c.of.ensures (laws.fit-asked c.args.file.now c.args.nodes.now c.args.places.now passed c.if-places-lt544.false c.room.ensures)

pub returns : goal.returns
returns c =
    let passed = laws.accepted c.args.file.now c.check.ensures c.is_err.ensures.value c.if-is_err.false in
    laws.by-store c.args.file.now c.args.nodes.now c.args.places.now _ _ passed c.if-places-lt544.false c.room.ensures
    (rw c.of.ensures at c.fits_in.ensures)
