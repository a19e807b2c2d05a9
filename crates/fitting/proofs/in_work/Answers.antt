-- `in_work` meets its contract: the run is finished, or one of the layers is the one in work.
use Rattle.std.proofs.Common.{rules, tests, eqb}
use Rattle.std.proofs.lemmas.Iterator.{YieldsList-from_slice}
use Rattle.std.proofs.lemmas.Iterator.Search.{any_from_yields_List}
use Rattle.format.specs.File.{decode}
use Rattle.fitting.specs.Laws.FitCode.{work-is}
use Rattle.fitting.proofs.in_work.Goals as goal

pub returns-else-layer-eq65535 : goal.returns-else-layer-eq65535
returns-else-layer-eq65535 c =
    work-is (decode c.args.program.file.now) c.args.layer c.layers_of.ensures c.if-layer-eq65535.false
    (any_from_yields_List (eqb c.args.layer) _ _ c.any.result c.any.ensures.ran (YieldsList-from_slice c.layers_of.result.now cc)
    (λ x b q k. search (rules, tests)))
