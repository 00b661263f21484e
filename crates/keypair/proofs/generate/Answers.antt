-- `keypair::generate` meets its contract: the two keys, and then zeros.
-- Assumes nothing.
use borrow.Author.Rules.{rules}
use Rattle.keypair.proofs.Keypair.{keypair_made}
use Rattle.keypair.proofs.generate.Goals as goal

pub returns : goal.returns
returns c =
    keypair_made _ c.args.seed.now c.args.pk.now c.args.sk.now c.args.noise.now c.args.work.now c.requires c.public_key.ensures
    c.secret_key.ensures (search (rules, c.fill.ensures.after)) (search (rules, c.fill-2.ensures.after)) (search (rules, c.fill-3.ensures.after))
