-- `ratio::ratio` meets its contract: both numbers are held whole, and the division rounds nothing.
-- Assumes nothing.
use Rattle.ratio.proofs.Quotient.{divided}
use Rattle.ratio.proofs.ratio.Goals as goal

pub returns : goal.returns
returns c = divided c.args.size c.args.h c.ranges.size.fits c.requires
