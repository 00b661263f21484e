-- `add_bytes` adds byte after byte.
-- Assumes nothing.
use mathlib.Core.Path.{ap}
use Prim.Native.Nat.{◌+◌, ◌/◌}
use native.Mathlib.Omega.{arith}
use lib.ListN.{set}
use Rattle.shake.specs.Sponge.{xor_byte}
use Rattle.shake.proofs.Add.{added_none, added_byte}
use Rattle.shake.proofs.add_bytes.Goals as goal

pub loop-i-init : goal.loop-i-init
loop-i-init c = added_none _ _ _

pub loop-i-preserved : goal.loop-i-preserved
unfolding xor_byte
loop-i-preserved c =
    let loop = c.loop-i in
    added_byte loop.invariant (omega arith) (ap (set loop.lanes ((c.args.k + loop.i) / 8)) c.add_byte.ensures)
