-- `decaps::draw_again` meets its contract: pkh is the last part of the key.
-- Assumes nothing.
use Rattle.decaps.proofs.Laws.{drawn_again}
use Rattle.decaps.proofs.draw_again.Goals as goal

pub returns : goal.returns
returns c =
    drawn_again _ c.args.ct.set.valid c.args.sk.now c.args.ct.bytes.now c.args.msg.now c.requires.0 c.requires.1 c.salt.ensures c.hash.ensures
