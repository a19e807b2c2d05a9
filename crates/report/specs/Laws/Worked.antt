-- The text of file S, by computation: what document 01 shows.
use Rattle.std.specs.Prelude.{◌≡◌, refl}
use Rattle.meaning.specs.Meaning.{layer_of, total, weigh}
use Rattle.format.specs.Bytes.{u16, u32}
use Rattle.format.specs.File.{decode}
use Rattle.format.specs.Refusals.{verdict}
use Rattle.diagram.specs.Diagram.{eval, combine, negate}
use Rattle.store.specs.Store.{tree_of}
use Rattle.rounds.specs.Layers.{lowest_above, atoms_from}
use Rattle.rounds.specs.Load.{load}
use Rattle.rounds.specs.Run.{runs}
use Rattle.worked.specs.Files.{file_s}
use Rattle.text.specs.Text.{ascii, decimal_in, pair_line, lines}
use Rattle.report.specs.Report.{header, finished_text, said}

pub said-S : said file_s ≡ ascii "atoms 6 facts 2 total 20 updates 8\n0 5\n1 8\n2 5\n3 2\n4 2\n5 3\n"
unfolding said verdict decode u16 u32 layer_of total weigh load runs lowest_above atoms_from combine negate eval tree_of finished_text
    header
    lines pair_line decimal_in
said-S = refl
