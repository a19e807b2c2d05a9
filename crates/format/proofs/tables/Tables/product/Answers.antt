-- `format::tables::Tables::product` meets its contract: the product so far times the total of the facts to come is the total.
use Rattle.std.proofs.Common.{arith}
use Rattle.format.specs.Laws.FactsRead.{product-start, product-step, both_positive, product-over, product-fails, product-end}
use Rattle.format.proofs.tables.Tables.product.Goals as goal

pub loop-i-init : goal.loop-i-init
loop-i-init c = (omega arith, product-start c.args.self.program.file.now)

pub returns-in_err-total : goal.returns-in_err-total
returns-in_err-total c =
    let loop = c.loop-i in
    let over = c.in_err-total.ensures in
    rw c.from_residual.ensures
    (product-over c.args.self.program.file.now loop.i (omega arith) c.u16_at.ensures.value c.u16_at-in-loop-i.ensures.value c.requires
    loop.total loop.invariant.1
    (product-fails loop.total _
    (both_positive c.args.self.program.file.now loop.i (omega arith) c.u16_at.ensures.value c.u16_at-in-loop-i.ensures.value c.requires)
    (omega arith)))

pub loop-i-preserved : goal.loop-i-preserved
loop-i-preserved c =
    let loop = c.loop-i in
    let (fits, is) = c.in_ok-total.ensures in (
      omega arith,
      rw is
          (product-step c.args.self.program.file.now loop.i (omega arith) c.u16_at.ensures.value c.u16_at-in-loop-i.ensures.value loop.total
          loop.invariant.1),
    )

pub returns : goal.returns
returns c =
    let loop = c.loop-i in
    (product-end c.args.self.program.file.now loop.i loop.total (omega arith) loop.invariant.1, loop.invariant.0)
