-- `hashes::stored` meets its contract: 2^16 more is no negative number, and its remainder is the same.
-- Assumes nothing.
use Rattle.hashes.proofs.Words.{stored_is}
use Rattle.hashes.proofs.stored.Goals as goal

pub returns : goal.returns
returns c = stored_is c.args.x c.ranges.x
