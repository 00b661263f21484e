-- `draw` is safe: a sponge that has absorbed two slices and is finished gives words.
-- Assumes nothing.
use Rattle.std.proofs.Common.{◌≡◌, [], refl, arith}
use Rattle.shake.specs.Sponge.{empty}
use Rattle.shake.specs.declared.Sponge.{Sponge}
use Rattle.shake.proofs.Uses.{Absorbed, none, more, ready, squeezing, even}
use Rattle.replay_answers.proofs.draw.Goals as goal

began : {p : Sponge} → p ≡ empty 168 → Absorbed 168 [] p
began e = none (omega arith, omega arith) e

pub absorb-p-requires-2 : goal.absorb-p-requires-2
absorb-p-requires-2 c =
    ready (more _ (began c.new-p.ensures) c.type_inv.front c.absorb-p.ensures)

pub finish-p-requires : goal.finish-p-requires
finish-p-requires c =
    ready (more _ (more _ (began c.new-p.ensures) c.type_inv.front c.absorb-p.ensures) c.type_inv.seed c.absorb-p-2.ensures)

pub squeeze_words-requires : goal.squeeze_words-requires
squeeze_words-requires c =
    let both = more _ (more _ (began c.new-p.ensures) c.type_inv.front c.absorb-p.ensures) c.type_inv.seed c.absorb-p-2.ensures in
    (squeezing both c.finish-p.ensures, even both c.finish-p.ensures refl)
