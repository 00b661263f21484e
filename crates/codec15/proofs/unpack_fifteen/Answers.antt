-- `codec15::unpack_fifteen` meets its contract: a list of 15 elements is those elements.
-- Assumes nothing.
use Rattle.lists.proofs.Tables.{written_out}
use Rattle.bits.specs.Stream.{regrouped}
use Rattle.codec15.proofs.unpack_fifteen.Goals as goal

pub returns : goal.returns
returns c =
    written_out (regrouped 8 15) 15 c.args.b.now c.requires c.fifteen.ensures
