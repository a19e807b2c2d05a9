-- `format::tables::Tables::literal` meets its contract: 10, then 11.
use Rattle.std.proofs.Common.{arith}
use Rattle.format.specs.Laws.RulesRead.{literal-unknown, literal-breaks, literal-passes}
use Rattle.format.proofs.tables.Tables.literal.Goals as goal

pub returns-then-atoms-atom : goal.returns-then-atoms-atom
returns-then-atoms-atom c =
    literal-unknown c.args.layered c.args.self.program.file.now c.args.rule c.args.top c.args.lit (omega arith)

pub returns-then-layered-top : goal.returns-then-layered-top
returns-then-layered-top c =
    literal-breaks c.args.layered c.args.self.program.file.now c.args.rule c.args.top c.args.lit
    c.layer.result c.layer.ensures.value (omega arith) c.if-layered-top.true

pub returns : goal.returns
returns c =
    literal-passes c.args.layered c.args.self.program.file.now c.args.rule c.args.top c.args.lit
    c.layer.result c.layer.ensures.value (omega arith) c.if-layered-top.false
