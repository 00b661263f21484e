-- `sealing::masks` meets its contract: the noise is drawn, and its first 16n words are lent to the product.
-- Assumes nothing.
use Rattle.sealing.proofs.MatrixB.{masks_law}
use Rattle.sealing.proofs.masks.Goals as goal

pub returns : goal.returns
returns c =
    let product = c.mul_add_sa_plus_e_from_seed in
    let noise = c.draw in
    masks_law _ _ c.args.seedse.now c.args.noise.now product.new.noise c.requires.0 noise.ensures noise.auto.out product.auto.noise product.ensures
