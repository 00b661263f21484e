-- `keys::key_matrix` meets its contract: the noise is drawn, and the product of its parts is B.
-- Assumes nothing.
use Rattle.keys.proofs.Matrices.{matrix_made}
use Rattle.keys.proofs.key_matrix.Goals as goal

pub returns : goal.returns
returns c =
    matrix_made _ c.args.seed.now c.args.noise.now c.args.work.now c.requires.0
    c.mul_add_as_plus_e_from_seed.new.work c.requires.1 c.draw.ensures c.mul_add_as_plus_e_from_seed.auto.work c.mul_add_as_plus_e_from_seed.ensures
