-- `format::tables::Tables::misruled` meets its contract: the rules before j, and the literals of rule j before i, have no fault.
use Rattle.std.proofs.Common.{◌<◌, ◌+◌, arith}
use Rattle.std.proofs.lemmas.Result.{err_from_is_err_and}
use borrow.Author.Count.{below_more}
use Rattle.format.specs.Bytes.{u16}
use Rattle.format.specs.Laws.RulesRead.{
  reached-first,
  reached-next,
  header-stops,
  literal-stops,
  rules-leftover,
  rules-end,
  body-length,
  body-literal,
  literal_is,
}
use Rattle.format.proofs.tables.Tables.misruled.Goals as goal

pub loop-j-init : goal.loop-j-init
loop-j-init c = reached-first c.args.layered c.args.self.program.file.now (omega arith) (omega arith)

pub returns-in_err-top : goal.returns-in_err-top
returns-in_err-top c =
    let p = err_from_is_err_and c.from_residual.result c.from_residual.ensures.1 in
    rw (p.1, p.2)
    (header-stops c.args.layered c.args.self.program.file.now c.loop-j.j c.loop-j.at c.loop-j.invariant (omega arith) c.in_err-top.ensures)

pub returns-in_err-literal : goal.returns-in_err-literal
returns-in_err-literal c =
    let s = c.args.self.program.file.now in
    let j = c.loop-j.j in
    let at = c.loop-j.at in
    let i = c.loop-i.i in
    let r = c.in_ok-top.ensures in
    let below : i < u16 s (at + 2) = omega (arith, body-length s at r.2 r.3, c.loop-i-test.true) in
    let literal-i = body-literal s at r.2 r.3 i below c.u16_at.ensures.value in
    let p = err_from_is_err_and c.from_residual-in_err-literal.result c.from_residual-in_err-literal.ensures.1 in
    rw (p.1, p.2)
    (literal-stops c.args.layered s j at c.loop-j.invariant (omega arith) r.0 i below c.loop-i.invariant
    (literal_is s j at c.in_err-literal.ensures r.1 i literal-i))

pub loop-i-preserved : goal.loop-i-preserved
loop-i-preserved c =
    let s = c.args.self.program.file.now in
    let at = c.loop-j.at in
    let i = c.loop-i.i in
    let r = c.in_ok-top.ensures in
    let below : i < u16 s (at + 2) = omega (arith, body-length s at r.2 r.3, c.loop-i-test.true) in
    let literal-i = body-literal s at r.2 r.3 i below c.u16_at.ensures.value in
    below_more _ _ c.loop-i.invariant (literal_is s c.loop-j.j at c.in_ok-literal.ensures r.1 i literal-i)

pub loop-j-preserved : goal.loop-j-preserved
loop-j-preserved c =
    let s = c.args.self.program.file.now in
    let at = c.loop-j.at in
    let r = c.in_ok-top.ensures in
    reached-next c.args.layered s c.loop-j.j at c.loop-j.invariant r.0 r.2 r.3
    (λ k h. c.loop-i.invariant k (omega (arith, c.loop-i-test.false, body-length s at r.2 r.3)))

pub returns-then-at-file : goal.returns-then-at-file
returns-then-at-file c =
    rules-leftover c.args.layered c.args.self.program.file.now c.loop-j.invariant (omega arith) (omega arith) c.if-at-file.true

pub returns : goal.returns
returns c = rules-end c.args.layered c.args.self.program.file.now c.loop-j.invariant (omega arith) c.if-at-file.false
