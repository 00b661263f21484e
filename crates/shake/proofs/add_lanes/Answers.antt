-- `add_lanes` adds a lane of eight bytes a turn.
-- Assumes nothing.
use mathlib.Core.Path.{ap}
use Prim.Native.Nat.{ℕ, ◌+◌}
use native.Mathlib.Omega.{arith}
use lib.Bits.{bit_xor}
use lib.ListN.{get_or, set}
use Rattle.shake.proofs.Add.{added_none, added_lane}
use Rattle.shake.proofs.add_lanes.Goals as goal

pub loop-t-init : goal.loop-t-init
loop-t-init c = added_none _ _ _

pub loop-t-preserved : goal.loop-t-preserved
loop-t-preserved c =
    let loop = c.loop-t in
    let k : ℕ = c.args.l + loop.t in
    added_lane c.args.l loop.t loop.invariant (λ i. (c.type_inv.bytes i).fits) (omega (arith, c.as_chunks.ensures.front_len)) c.as_chunks.ensures.front
    (ap (λ (x : ℕ). set loop.lanes k (bit_xor (get_or loop.lanes k 0) x)) c.lane_of.ensures)
