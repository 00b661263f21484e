-- `keys::public_key` meets its contract: seedA, and B packed behind it.
-- Assumes nothing.
use borrow.Author.Rules.{rules}
use Rattle.keys.proofs.PublicKey.{is_seed_a, public_made}
use Rattle.keys.proofs.public_key.Goals as goal

pub key_matrix-requires : goal.key_matrix-requires
key_matrix-requires c =
    (c.requires.0, is_seed_a _ c.args.seed.now c.requires.0.seed_long (search rules) c.hash.ensures)

pub returns : goal.returns
returns c =
    let seed_a = is_seed_a _ c.args.seed.now c.requires.0.seed_long (search rules) c.hash.ensures in
    public_made _ c.requires.0.valid c.args.seed.now seed_a c.key_matrix.ensures c.pack.ensures
