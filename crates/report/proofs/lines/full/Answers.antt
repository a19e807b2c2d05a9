-- `report::lines::full` meets its contract: its parts make the text. Assumes nothing.
use Rattle.report.specs.Laws.Texts.{full-writes}
use Rattle.report.proofs.lines.full.Goals as goal

pub returns : goal.returns
returns c =
    full-writes c.named.ensures c.put.ensures
