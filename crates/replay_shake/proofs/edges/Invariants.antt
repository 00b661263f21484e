-- `replay_shake::edges` meets its contract: after each length the tally is as `Counted` says, where the one that came was.
-- Assumes nothing.
use Rattle.replay.specs.Counted.{Counted}
use Rattle.replay_shake.proofs.edges.Given as goal

abbrev pub invariant-loop-len : goal.invariant-loop-len
invariant-loop-len l = Counted l.fn.tally → Counted l.tally
