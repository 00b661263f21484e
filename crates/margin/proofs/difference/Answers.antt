-- `margin::difference` meets its contract: two products and their difference.
-- Assumes nothing.
use Rattle.margin.proofs.Noise.{noise_made}
use Rattle.margin.proofs.difference.Goals as goal

pub returns : goal.returns
returns c =
    noise_made _ c.args.set.valid c.args.noise.now c.args.work.now c.requires c.sealing_product.ensures c.key_product.ensures c.sub.ensures
