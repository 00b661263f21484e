-- `shake` is SHAKE: a new sponge, its input, the padding, and bytes, by the laws that any caller cites.
-- Assumes nothing.
use mathlib.Core.Path.{◌∙◌}
use Rattle.shake.proofs.Uses.{Absorbed, none, more, ready, squeezing, shakes}
use Rattle.shake.proofs.shake.Goals as goal
use Rattle.shake.proofs.shake.Goals.{After-absorb-p, After-new-p}

took : (c : After-absorb-p) → Absorbed c.args.rate c.args.input.now c.absorb-p.result
took c = more _ (none c.requires c.new-p.ensures) c.type_inv.input c.absorb-p.ensures

pub finish-p-requires : goal.finish-p-requires
finish-p-requires c = ready (took (goal.at.finish-p-requires c).After-absorb-p)

pub squeeze-requires : goal.squeeze-requires
squeeze-requires c = squeezing (took (goal.at.squeeze-requires c).After-absorb-p) c.finish-p.ensures

pub returns : goal.returns
returns c = c.squeeze.ensures.0 ∙ shakes _ (took (goal.at.returns c).After-absorb-p) c.finish-p.ensures
