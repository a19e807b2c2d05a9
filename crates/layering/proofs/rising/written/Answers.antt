-- `layering::rising::written` meets its contract. Assumes nothing.
use mathlib.Core.Path.{◌∙◌, sym}
use native.Mathlib.Omega.{arith}
use Rattle.layering.specs.Laws.Writing.{none-high, high, copied-start, copied_next, copied-end}
use Rattle.layering.proofs.rising.written.Goals as goal

pub loop-k-init : goal.loop-k-init
loop-k-init c = copied-start c.requires

pub loop-k-preserved : goal.loop-k-preserved
loop-k-preserved c = copied_next c.requires c.loop-k.invariant c.loop-k-test.true

pub overflow_cast-out : goal.overflow_cast-out
overflow_cast-out c =
    omega (arith, none-high c.args.layers.now (sym c.too_high.ensures ∙ c.in_default.is) c.loop-k.k c.loop-k-test.true)

pub bounds-out-k : goal.bounds-out-k
bounds-out-k c = omega (arith, c.requires.room, c.requires.size, c.requires.formed.derived, c.loop-k.auto.out)

pub returns : goal.returns
returns c = copied-end c.requires c.loop-k.invariant (omega arith) (sym c.too_high.ensures ∙ c.in_default.is)

pub returns-in-Some : goal.returns-in-Some
returns-in-Some c = high c.requires c.args.program.counted.facts_are (sym c.too_high.ensures ∙ c.in-Some.is)
