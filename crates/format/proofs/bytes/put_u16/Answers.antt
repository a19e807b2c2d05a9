-- `bytes::put_u16` meets its contract. Assumes nothing.
use Prim.Native.Nat.{◌/◌, ◌%◌}
use native.Mathlib.Omega.{arith}
use borrow.Rule.Slice.PartMut.{Post-is}
use Rattle.std.proofs.Common.{refl, ◌≡◌, ◌∙◌, ◌+◌}
use Rattle.format.specs.Encode.{two}
use Rattle.format.proofs.bytes.put_u16.Goals as goal

pub returns : goal.returns
unfolding two
returns c =
    let bytes = c.copy_from_slice.ensures.after ∙ c.to_le_bytes.ensures in
    let high : c.args.n / 256 % 256 ≡ c.args.n / 256 = omega arith in
    rw (bytes, high, Post-is c.args.at (c.args.at + 2) c.args.out.now (omega arith)) refl
