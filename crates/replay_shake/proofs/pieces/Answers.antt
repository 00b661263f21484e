-- `pieces` is safe and ends: a sponge that gave bytes can give more.
-- Assumes nothing.
use Rattle.std.proofs.Common.{sym, subst}
use Rattle.shake.specs.Sponge.{Squeezing}
use Rattle.shake.proofs.Uses.{squeezing_after}
use Rattle.replay_shake.proofs.pieces.Goals as goal

pub squeeze-requires : goal.squeeze-requires
squeeze-requires c = subst Squeezing (sym c.squeeze-q.ensures.1) (squeezing_after _ _ c.requires)
