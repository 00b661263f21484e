-- `codec15::pack_eight` meets its contract: a list of 8 elements is those elements.
-- Assumes nothing.
use Rattle.lists.proofs.Tables.{written_out}
use Rattle.bits.specs.Stream.{regrouped}
use Rattle.codec15.proofs.pack_eight.Goals as goal

pub returns : goal.returns
returns c =
    written_out (regrouped 15 8) 8 c.args.w.now c.requires c.eight.ensures
