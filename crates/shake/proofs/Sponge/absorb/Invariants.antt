-- `absorb` adds to the block what it has room for, a turn: what is left is still to be absorbed.
-- Assumes nothing.
use lib.ListN.{length}
use Rattle.shake.specs.Sponge.{made}
use Rattle.shake.proofs.Absorb.{Left}
use Rattle.shake.proofs.Sponge.absorb.Given as goal

abbrev pub invariant-loop-rest : goal.invariant-loop-rest
invariant-loop-rest l = Left (made l.initial.lanes l.initial.at l.rate) l.bytes (made l.lanes l.at l.rate) l.rest

abbrev pub decreases-loop-rest : goal.decreases-loop-rest
decreases-loop-rest l = length l.rest
