-- `margin::copied_noise` meets its contract: the key's noise, and a copy of it.
-- Assumes nothing.
use borrow.Author.Rules.{rules}
use Rattle.margin.proofs.Laws.{copy_made}
use Rattle.margin.proofs.copied_noise.Goals as goal

pub returns : goal.returns
returns c =
    copy_made _ c.args.seed.now c.args.noise.now c.args.work.now c.requires.0 c.key_noise.ensures (search (rules, c.copy.ensures))
