-- What every call finds and leaves: file, words, places and state fit together, and the program is layered.
-- The engine's laws carry `Fits` from call to call; they ask for `Layered` too, so the two go along together.
use Rattle.meaning.specs.Meaning.{Layered}
use Rattle.format.specs.File.{decode}
use Rattle.state.specs.Answers.{Fits}
use Rattle.runs.specs.declared.Session.{Session}

-- ready for the next call
pub record Ready (x : Session) : Type 0 where
  pub fits : Fits x.program.file.now x.nodes.now x.places.now x.state
  pub layered : Layered (decode x.program.file.now)
