-- `margin::both_noises` meets its contract: the key's noise in work, encapsulation's in noise, and then E and E' exchanged.
-- Assumes nothing.
use Rattle.margin.proofs.Laws.{both_made}
use Rattle.margin.proofs.both_noises.Goals as goal

pub returns : goal.returns
returns c =
    let a = c.args in
    both_made _ a.seed.now a.msg.now a.salt.now a.noise.now a.work.now c.requires.0.valid c.copied_noise.ensures
    c.sealing_noise.ensures c.swap_with_slice.ensures.after c.swap_with_slice.ensures.other_after
