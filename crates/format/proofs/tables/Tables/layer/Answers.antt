-- `format::tables::Tables::layer` meets its contract: the byte of a derived atom, times 0 for a fact.
use Rattle.format.specs.Laws.Decoded.{layer-read}
use Rattle.format.proofs.tables.Tables.layer.Goals as goal

pub returns : goal.returns
returns c =
    rw c.from-is_derived.ensures
    (layer-read c.args.self.program.file.now c.args.atom c.args.self.program.counted.facts_are c.requires c.u8_at.ensures.value
    c.u8_at.ensures.small)
