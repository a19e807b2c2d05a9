-- `format::tables::Tables::header` meets its contract: each branch passes its tests or is its fault.
use Rattle.std.proofs.Common.{◌+◌, ◌*◌, ap, ◌∙◌, rules, arith, ltb-false, leb-false}
use Rattle.meaning.specs.Meaning.{layer_of}
use Rattle.format.specs.File.{after, decode}
use Rattle.format.specs.Refusals.{head_tests}
use Rattle.format.specs.Laws.First.{none, pass, fail, alike-fails}
use Rattle.format.specs.Laws.Compared.{at_most, less, more}
use Rattle.format.proofs.tables.Tables.header.Goals as goal

pub returns-then-file-at-lt4 : goal.returns-then-file-at-lt4
unfolding head_tests
returns-then-file-at-lt4 c = fail (more (omega arith))

pub returns-then-len-gt16 : goal.returns-then-len-gt16
unfolding head_tests
returns-then-len-gt16 c = pass (at_most (omega arith)) (fail (more (omega arith)))

pub returns-then-file-end : goal.returns-then-file-end
unfolding head_tests after
returns-then-file-end c = pass (at_most (omega arith)) (pass (at_most (omega arith)) (fail (more (omega arith))))

pub returns-then-head-facts : goal.returns-then-head-facts
unfolding head_tests after
returns-then-head-facts c =
    pass (at_most (omega arith)) (pass (at_most (omega arith)) (pass (at_most (omega arith))
    (alike-fails _ (search rules) (λ clear. omega (arith, ltb-false, leb-false)))))

pub returns : goal.returns
unfolding head_tests after
returns c =
    let ends = ap (λ n. c.args.at + 4 + 2 * n) c.u16_at-len.ensures.value in (
      pass (at_most (omega arith)) (pass (at_most (omega arith)) (pass (at_most (omega arith)) (pass (at_most (omega arith))
          (pass (less (omega arith)) none)))),
      c.layer-top.ensures.value ∙ ap (layer_of (decode c.args.self.program.file.now)) c.u16_at-head.ensures.value,
      ends,
      omega arith,
      omega arith,
    )
