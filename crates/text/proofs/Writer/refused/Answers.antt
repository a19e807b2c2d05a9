-- `text::Writer::refused` meets its contract: its parts make the text. Assumes nothing.
use Rattle.text.specs.Laws.Parts.{refused-writes}
use Rattle.text.proofs.Writer.refused.Goals as goal

pub returns : goal.returns
returns c =
    rw (← c.from.ensures, ← c.from-2.ensures) (refused-writes c.named.ensures c.named-2.ensures c.put.ensures)
