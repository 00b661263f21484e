-- `margin` is safe: the words are masked, and so they are words mod q.
-- Assumes nothing.
use Rattle.lists.proofs.Tables.{below_residues}
use Rattle.rows.proofs.Rows.{q_pos}
use Rattle.ratio.proofs.Halves.{half_power, q_even}
use Rattle.replay_parts.proofs.margin.Goals as goal

pub margin_of-margin-requires : goal.margin_of-margin-requires
margin_of-margin-requires c =
    let v = c.args.set.valid in
    (half_power v, q_even v, rw (c.low_all.ensures, c.modulus.ensures) (below_residues c.args.set.p.q c.words_of.new.out (q_pos v)))
