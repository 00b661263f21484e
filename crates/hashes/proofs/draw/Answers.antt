-- `hashes::draw` meets its contract: SHAKE of the tag and the seed gives the words, and the table makes them noise.
-- Assumes nothing.
use mathlib.Core.Path.{ap, ◌∙◌}
use Rattle.scheme.specs.Parts.{hash, stored_samples}
use Rattle.hashes.proofs.draw.Goals as goal

pub returns : goal.returns
unfolding hash
returns c =
    c.store_samples.ensures ∙ ap (stored_samples c.args.set.p.chi) c.shake_words.ensures
