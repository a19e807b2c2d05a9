-- `format::tables::Tables::layerless` meets its contract: no derived atom before i has layer 0.
use Rattle.std.proofs.Common.{◌≡◌, ◌+◌, ◌*◌, ap, sym, subst, ◌∙◌, arith, Err}
use borrow.Author.Count.{below_more}
use Rattle.format.specs.Bytes.{byte}
use Rattle.format.specs.File.{D, layers_at}
use Rattle.format.specs.Refusals.{layer_test, each}
use Rattle.format.specs.Checked.{Answers}
use Rattle.format.specs.Laws.First.{each_none, each-fault}
use Rattle.format.specs.Laws.RulesRead.{layer-passes, layer-fails}
use Rattle.format.specs.declared.Refusal.TheVariants.{Layerless}
use Rattle.format.proofs.tables.Tables.layerless.Goals as goal
use Rattle.format.proofs.tables.Tables.layerless.Goals.{After-u8_at}

-- the layer byte that was read
read :
    (c : After-u8_at) → let s = c.args.self.program.file.now in c.u8_at.result ≡ byte s (layers_at s + c.loop-i.i)
read c =
    c.u8_at.ensures.value ∙
    ap (λ f. byte c.args.self.program.file.now (28 + 4 * f + c.loop-i.i)) c.args.self.program.counted.facts_are

pub returns-then-u8_at-eq0 : goal.returns-then-u8_at-eq0
returns-then-u8_at-eq0 c =
    let s = c.args.self.program.file.now in
    let loop = c.loop-i in
    let fails = layer-fails s loop.i (read (goal.at.returns-then-u8_at-eq0 c).After-u8_at) c.if-u8_at-eq0.true in
    subst (λ f. Answers (each (D s) (layer_test s)) (Err (Layerless (f + loop.i)))) (sym c.args.self.program.counted.facts_are)
    (each-fault (D s) (layer_test s) loop.i (omega arith) loop.invariant fails)

pub loop-i-preserved : goal.loop-i-preserved
loop-i-preserved c =
    below_more _ _ c.loop-i.invariant
    (layer-passes c.args.self.program.file.now c.loop-i.i (read (goal.at.loop-i-preserved c).After-u8_at) c.if-u8_at-eq0.false)

pub returns : goal.returns
returns c =
    let s = c.args.self.program.file.now in
    each_none (D s) (layer_test s) (λ k h. c.loop-i.invariant k (omega arith))
