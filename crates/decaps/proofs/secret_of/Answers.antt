-- `decaps::secret_of` meets its contract: the choice is between k' and s.
-- Assumes nothing.
use borrow.Author.Rules.{rules}
use Rattle.decaps.proofs.Laws.{secret_law}
use Rattle.decaps.proofs.secret_of.Goals as goal

pub returns : goal.returns
returns c =
    secret_law _ c.args.sk.now c.args.ct.bytes.now c.args.msg.now _ c.draw_again.ensures c.split_at.ensures.back (search rules) c.both_agree-choice.ensures c.requires.3 c.chosen_secret.ensures
