-- `Line::field` meets its contract: the fields are the parts between spaces.
-- Assumes nothing.
use Rattle.std.proofs.Common.{rules, tests}
use Rattle.std.proofs.lemmas.Iterator.Consumers.{nth_from_yields_List}
use Rattle.std.proofs.lemmas.Iterator.Splits.{YieldsList-from_slice_split}
use Rattle.replay.proofs.Line.field.Goals as goal

pub returns : goal.returns
returns c =
    nth_from_yields_List _ _ c.args.k c.nth.ensures.ran
    (YieldsList-from_slice_split _ _ c.args.self.text.now c.split.ensures.rest c.split.ensures.done c.split.ensures.closure (λ x r q k. search (rules, tests)))
