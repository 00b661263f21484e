-- `encaps::seal` meets its contract: c1, c2 and the salt are written one behind the other.
-- Assumes nothing.
use Rattle.encaps.proofs.Written.{seal_law}
use Rattle.encaps.proofs.seal.Goals as goal

pub returns : goal.returns
returns c =
    let c1 = c.put_c1 in
    seal_law c.args.set.p c.args.pk.now c.args.msg.now c.args.salt.now c.args.seedse.now c1.new.noise
    c.requires.6 c.split_at.ensures.front c.split_at.ensures.back c1.ensures c.put_c2.ensures c.copy.ensures
