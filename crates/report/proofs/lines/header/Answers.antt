-- `report::lines::header` meets its contract: its parts make the text. Assumes nothing.
use Rattle.report.specs.Laws.Texts.{header-writes}
use Rattle.report.proofs.lines.header.Goals as goal

pub returns : goal.returns
returns c =
    header-writes c.args.program.derived (rw (← c.atoms.ensures) c.named.ensures) c.named-2.ensures c.named-3.ensures
    c.named-4.ensures c.put.ensures
