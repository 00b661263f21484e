-- `margin::key_noise` meets its contract: seedA, the key's matrices, and the hash of the public key that they make.
-- Assumes nothing.
use mathlib.Core.Path.{refl}
use Rattle.keys.proofs.PublicKey.{is_seed_a}
use Rattle.margin.proofs.Laws.{key_made}
use Rattle.margin.proofs.key_noise.Goals as goal

pub key_matrix-requires : goal.key_matrix-requires
key_matrix-requires c =
    (c.requires.0, is_seed_a _ c.args.seed.now c.requires.0.seed_long refl c.hash.ensures)

pub returns : goal.returns
returns c =
    let seedA = is_seed_a _ c.args.seed.now c.requires.0.seed_long refl c.hash.ensures in
    key_made _ c.args.seed.now c.args.noise.now c.args.work.now c.requires.0 seedA c.key_matrix.ensures c.requires.1 c.pkh_of.ensures
