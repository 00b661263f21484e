-- `agreement::both_agree` meets its contract: the two comparisons are those of `agrees`.
-- Assumes nothing.
use borrow.Author.Rules.{rules}
use Rattle.agreement.proofs.Laws.{both_compared}
use Rattle.agreement.proofs.both_agree.Goals as goal

pub returns : goal.returns
returns c =
    both_compared _ c.args.sk.now c.args.ct.bytes.now c.args.msg.now c.args.seedse.now c.requires.1
    (search rules) c.split_at.ensures.front c.split_at.ensures.back c.c1.ensures c.c2.ensures c.masks_agree-masked.ensures c.values_agree-valued.ensures
