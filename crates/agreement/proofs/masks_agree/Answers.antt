-- `agreement::masks_agree` meets its contract: S'*A + E' is masked, and B' of c1 is unpacked where E' was.
-- Assumes nothing.
use native.Mathlib.Omega.{arith}
use Rattle.agreement.proofs.Laws.{masks_compared}
use Rattle.agreement.proofs.masks_agree.Goals as goal

pub returns : goal.returns
returns c =
    let drawn = c.masks in
    masks_compared _ c.args.set.valid _ _ c.args.c1.now _ c.modulus.result c.requires.0 (omega (arith, drawn.auto.noise, c.requires.1)) drawn.ensures c.modulus.ensures c.low_all.ensures c.unpack.ensures c.ct_verify.ensures
