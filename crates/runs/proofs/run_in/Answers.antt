-- `runs::run_in` meets its contract: what loading leaves is ready for the first call, since the file's entries are bytes. Assumes nothing.
use native.Mathlib.Omega.{arith}
use Rattle.meaning.specs.Meaning.{Layered}
use Rattle.format.specs.Bytes.{Bytes}
use Rattle.format.specs.File.{decode}
use Rattle.state.specs.Laws.Fits.{passed-layered, fits-loaded}
use Rattle.runs.proofs.run_in.Goals as goal

pub loop-call-init : goal.loop-call-init
loop-call-init c =
    let bytes : Bytes c.args.file.now = λ i h. omega (arith, c.type_inv.file i) in
    let layered : Layered (decode c.args.file.now) = passed-layered c.requires.passed bytes in
    let done = rw (c.of-program.ensures, c.in-Ok.is) at c.load.ensures in
    record {
      fits = rw (c.of-program.ensures, c.told.ensures) (fits-loaded c.requires done layered);
      layered = rw c.of-program.ensures layered;
    }
