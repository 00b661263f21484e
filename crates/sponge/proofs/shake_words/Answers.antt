-- `sponge::shake_words` meets its contract: what the sponge gives that has taken the parts is SHAKE of them, in words. Assumes nothing.
use mathlib.Core.Path.{◌∙◌}
use Rattle.shake.proofs.Uses.{squeezing, even, shakes_words}
use Rattle.sponge.proofs.Laws.{taken}
use Rattle.sponge.proofs.shake_words.Goals as goal

pub squeeze_words-requires : goal.squeeze_words-requires
squeeze_words-requires c =
    let all = taken (c.requires.0, c.requires.1) c.absorbed-s.ensures.1 in
    (squeezing all c.absorbed-s.ensures.0, even all c.absorbed-s.ensures.0 c.requires.2)

pub returns : goal.returns
returns c = c.squeeze_words.ensures.0 ∙ shakes_words _ (taken (c.requires.0, c.requires.1) c.absorbed-s.ensures.1) c.absorbed-s.ensures.0
