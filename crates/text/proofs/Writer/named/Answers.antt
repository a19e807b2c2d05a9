-- `text::Writer::named` meets its contract: the number continues the word. Assumes nothing.
use Rattle.text.specs.Laws.Parts.{word-named}
use Rattle.text.proofs.Writer.named.Goals as goal

pub returns : goal.returns
returns c =
    word-named c.put.ensures c.number.ensures
