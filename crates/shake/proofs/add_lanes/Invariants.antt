-- `add_lanes` adds lane after lane.
-- Assumes nothing.
use Prim.Native.Nat.{◌*◌}
use Rattle.shake.proofs.Add.{Added}
use Rattle.shake.proofs.add_lanes.Given as goal

abbrev pub invariant-loop-t : goal.invariant-loop-t
invariant-loop-t l = Added l.initial.lanes (8 * l.l) (8 * l.t) l.bytes l.lanes
