-- `add_bytes` adds byte after byte.
-- Assumes nothing.
use Rattle.shake.proofs.Add.{Added}
use Rattle.shake.proofs.add_bytes.Given as goal

abbrev pub invariant-loop-i : goal.invariant-loop-i
invariant-loop-i l = Added l.initial.lanes l.k l.i l.bytes l.lanes
