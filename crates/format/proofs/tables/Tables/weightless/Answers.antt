-- `format::tables::Tables::weightless` meets its contract: no fact before i is weightless.
use Rattle.std.proofs.Common.{arith}
use borrow.Author.Count.{below_more}
use Rattle.format.specs.File.{F}
use Rattle.format.specs.Refusals.{fact_test}
use Rattle.format.specs.Laws.First.{each_none, each-fault}
use Rattle.format.specs.Laws.FactsRead.{fact-passes, fact-fails}
use Rattle.format.proofs.tables.Tables.weightless.Goals as goal

pub returns-then-u32_at-eq0 : goal.returns-then-u32_at-eq0
returns-then-u32_at-eq0 c =
    let s = c.args.self.program.file.now in
    let i = c.loop-i.i in
    each-fault (F s) (fact_test s) i (omega arith) c.loop-i.invariant (fact-fails s i c.u32_at.ensures.value c.if-u32_at-eq0.true)

pub loop-i-preserved : goal.loop-i-preserved
loop-i-preserved c =
    below_more _ _ c.loop-i.invariant
    (fact-passes c.args.self.program.file.now c.loop-i.i c.u32_at.ensures.value c.if-u32_at-eq0.false)

pub returns : goal.returns
returns c =
    let s = c.args.self.program.file.now in
    each_none (F s) (fact_test s) (λ k h. c.loop-i.invariant k (omega arith))
