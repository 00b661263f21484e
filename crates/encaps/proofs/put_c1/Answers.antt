-- `encaps::put_c1` meets its contract: S'A + E' is packed.
-- Assumes nothing.
use Rattle.encaps.proofs.Packed.{packed_16}
use Rattle.encaps.proofs.put_c1.Goals as goal

pub returns : goal.returns
returns c =
    let masked = c.masks.ensures in
    (packed_16 c.args.set.p c.args.set.valid _ masked.b_is c.pack.ensures, masked)
