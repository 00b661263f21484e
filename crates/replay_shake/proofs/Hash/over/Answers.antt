-- `Hash::over` meets its contract: a sponge that has absorbed two slices and is finished gives bytes, from an even place on.
-- Assumes nothing.
use Rattle.shake.proofs.Uses.{none, more, ready, squeezing, even}
use Rattle.replay_shake.proofs.Hash.over.Goals as goal

pub absorb-p-requires-2 : goal.absorb-p-requires-2
absorb-p-requires-2 c = ready (more _ (none (c.rate.ensures.0, c.rate.ensures.1) c.new-p.ensures) c.type_inv.first c.absorb-p.ensures)

pub finish-requires : goal.finish-requires
finish-requires c =
    let one = more _ (none (c.rate.ensures.0, c.rate.ensures.1) c.new-p.ensures) c.type_inv.first c.absorb-p.ensures in
    ready (more _ one c.type_inv.second c.absorb-p-2.ensures)

pub returns : goal.returns
returns c =
    let one = more _ (none (c.rate.ensures.0, c.rate.ensures.1) c.new-p.ensures) c.type_inv.first c.absorb-p.ensures in
    let two = more _ one c.type_inv.second c.absorb-p-2.ensures in
    (squeezing two c.finish.ensures, even two c.finish.ensures c.rate.ensures.2)
