-- `encaps::draw_seeds` meets its contract.
-- Assumes nothing.
use Rattle.encaps.proofs.Seeds.{draw_law}
use Rattle.encaps.proofs.draw_seeds.Goals as goal

pub returns : goal.returns
returns c = draw_law _ c.args.set.valid _ _ _ c.args.pkh.now c.args.seeds.now c.requires.0 c.requires.1 c.hash.ensures c.hash-2.ensures
