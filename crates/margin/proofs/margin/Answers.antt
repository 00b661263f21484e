-- `margin::margin` meets its contract: the noise of both sides, its difference, the measure, and then zeros.
-- Assumes nothing.
use borrow.Author.Rules.{rules}
use Rattle.ratio.proofs.Halves.{half_power, q_even}
use Rattle.margin.proofs.Noise.{noise_below, margin_made}
use Rattle.margin.proofs.margin.Goals as goal

pub margin_of-answer-requires : goal.margin_of-answer-requires
margin_of-answer-requires c =
    let a = c.args in
    (half_power c.requires.valid, q_even c.requires.valid, noise_below _ c.requires.valid a.seed.now a.msg.now a.salt.now a.noise.now a.work.now c.both_noises.ensures c.difference.ensures)

pub returns : goal.returns
returns c =
    let a = c.args in
    margin_made _ c.requires.valid a.seed.now a.msg.now a.salt.now a.noise.now a.work.now c.both_noises.ensures c.difference.ensures
    c.margin_of-answer.ensures (search (rules, c.fill.ensures.after)) (search (rules, c.fill-2.ensures.after))
