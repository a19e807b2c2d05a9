-- The refusals of a call whose closing or whose question with evidence was not answered.
use Rattle.state.specs.declared.Unclosed.{Unclosed}
use Rattle.state.specs.declared.Unclosed.TheVariants as shut
use Rattle.questions.specs.declared.given.Ungiven.{Ungiven}
use Rattle.questions.specs.declared.given.Ungiven.TheVariants as not-given
use Rattle.calls.specs.declared.refusal.Refusal.{Refusal}
use Rattle.calls.specs.declared.refusal.Refusal.TheVariants as no

-- why a layer is not closed: 15 with the atom, or 12
abbrev pub unclosed : Unclosed → Refusal
unclosed (shut.Unsettled a) = no.Unsettled a
unclosed shut.Full = no.Full

-- why there is no weight given evidence: 20 or 12
abbrev pub ungiven : Ungiven → Refusal
ungiven not-given.NoWeight = no.NoWeight
ungiven not-given.Full = no.Full
