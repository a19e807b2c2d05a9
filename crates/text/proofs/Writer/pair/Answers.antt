-- `text::Writer::pair` meets its contract: its parts make the text. Assumes nothing.
use Rattle.text.specs.Laws.Parts.{pair-writes}
use Rattle.text.proofs.Writer.pair.Goals as goal

pub returns : goal.returns
returns c =
    pair-writes c.number.ensures c.named.ensures c.put.ensures
