-- 01, "Four ways to get it wrong", the second: "Updating atom 5 before layer 1 closes: its weight shows 5, above the true 3."
use Rattle.std.specs.Prelude.{◌≡◌, refl}
use Rattle.meaning.specs.Meaning.{Program, weigh, weight_of}
use Rattle.format.specs.Bytes.{u16}
use Rattle.format.specs.File.{decode}
use Rattle.diagram.specs.Diagram.{eval, says, combine, negate}
use Rattle.store.specs.Store.{tree_of}
use Rattle.update.specs.Update.{Store, diagram_at, after_update}
use Rattle.rounds.specs.Load.{loaded_store}
use Rattle.worked.specs.Files.{file_s}

abbrev S : Program
S = decode file_s

-- S loaded, and atom 2 updated: layer 1 is in work
abbrev early : Store
early = after_update S (loaded_store S) 2

-- an update of atom 5 is then refused (demands/specs/Laws/FileS, `too-early`), since its weight would show 5,
pub would-show : weigh S.facts (says (diagram_at (after_update S early 5) 5)) ≡ 5
unfolding decode u16 loaded_store after_update tree_of combine negate eval weigh
would-show = refl

-- above the true 3
pub true-weight : weight_of S 5 ≡ 3
unfolding decode u16 weight_of
true-weight = refl
