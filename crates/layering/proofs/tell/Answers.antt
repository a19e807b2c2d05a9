-- `tell` meets its contract: 21, then the check without 11, then what the layers were found to be (Laws/Telling).
use mathlib.Core.Path.{refl}
use Rattle.std.proofs.lemmas.Result.{err_from_is_err_and}
use Rattle.format.specs.Passed.{Formed}
use Rattle.layering.specs.Told.{short}
use Rattle.layering.specs.Laws.Telling.{tell-refused, tell-formed, tell-layers, tell-unlayered}
use Rattle.layering.proofs.tell.Goals as goal
use Rattle.layering.proofs.tell.Goals.{In_ok-accepted}

pub returns-then-out-lt2048 : goal.returns-then-out-lt2048
returns-then-out-lt2048 c = short c.if-out-lt2048.true refl refl

-- the file has passed its check but for 11
passed : (c : In_ok-accepted) → Formed c.args.file.now
passed c = tell-formed c.args.file.now c.args.out.now c.if-out-lt2048.false c.check_by.ensures c.in_ok-accepted.was

pub of-requires : goal.of-requires
of-requires c = (passed c).long

pub layers-requires : goal.layers-requires
layers-requires c = (rw c.of.ensures (passed (goal.at.layers-requires c).In_ok-accepted), c.if-out-lt2048.false)

pub returns-in_err-accepted : goal.returns-in_err-accepted
returns-in_err-accepted c =
    let (why, is, from) = err_from_is_err_and c.from_residual.result c.from_residual.ensures.1 in
    rw (is, from) (tell-refused c.args.file.now c.args.out.now c.if-out-lt2048.false c.check_by.ensures c.in_err-accepted.was)

pub returns-in_err-layers : goal.returns-in_err-layers
returns-in_err-layers c =
    let (why, is, from) = err_from_is_err_and c.from_residual-in_err-layers.result c.from_residual-in_err-layers.ensures.1 in
    let done = rw c.of.ensures at c.layers.ensures in
    rw (is, from)
    (tell-unlayered c.args.file.now c.args.out.now c.if-out-lt2048.false c.check_by.ensures c.in_ok-accepted.was done c.in_err-layers.was)

pub returns : goal.returns
returns c =
    let done = rw c.of.ensures at c.layers.ensures in
    tell-layers c.args.file.now c.args.out.now c.if-out-lt2048.false c.check_by.ensures c.in_ok-accepted.was done c.in_ok-layers.was
