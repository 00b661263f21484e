-- `replay::count_lines` meets its contract: after each line the tally is as `Counted` says, where calls keep it so.
-- Assumes nothing.
use Rattle.replay.specs.Counted.{Counted, KeepsCounted}
use Rattle.replay.proofs.count_lines.Given as goal

abbrev pub invariant-loop-number : goal.invariant-loop-number
invariant-loop-number g l = goal.F-IsAlwaysCallable g l.with × (KeepsCounted (goal.F-step g) → Counted l.tally)
