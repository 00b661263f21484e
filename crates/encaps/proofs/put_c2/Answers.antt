-- `encaps::put_c2` meets its contract: S'B + E'' and the encoded message are packed.
-- Assumes nothing.
use Rattle.encaps.proofs.Packed.{packed_q}
use Rattle.encaps.proofs.put_c2.Goals as goal

pub returns : goal.returns
returns c =
    packed_q c.args.set.p c.args.set.valid _ c.values.ensures c.pack.ensures
