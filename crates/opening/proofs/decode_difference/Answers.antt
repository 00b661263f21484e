-- `opening::decode_difference` meets its contract: what is decoded is C - B'*S mod q.
-- Assumes nothing.
use mathlib.Core.Path.{ap, ◌∙◌}
use Rattle.algebra.specs.Matrix.{mat, mat_t, mul}
use Rattle.message.specs.Message.{decoded}
use Rattle.opening.proofs.Laws.{difference}
use Rattle.opening.proofs.decode_difference.Goals as goal

pub returns : goal.returns
returns c =
    let p = c.args.set.p in
    c.decode_message.ensures
    ∙ ap (decoded p.q p.b)
    (difference p c.args.set.valid c.args.c.now (mul p.n (mat p.n c.args.b.now) (mat_t p.n c.args.s.now)) c.mul_bs.ensures c.sub.ensures)
