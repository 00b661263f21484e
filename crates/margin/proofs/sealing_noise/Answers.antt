-- `margin::sealing_noise` meets its contract: seedSE' and k are hashed, and the noise drawn over seedSE'.
-- Assumes nothing.
use Rattle.margin.proofs.Laws.{sealing_drawn}
use Rattle.margin.proofs.sealing_noise.Goals as goal

pub returns : goal.returns
returns c =
    let a = c.args in
    sealing_drawn _ c.args.set.valid a.pkh.now a.msg.now a.salt.now a.seeds.now a.noise.now c.requires.0 c.requires.1 c.hash.ensures c.draw.ensures
