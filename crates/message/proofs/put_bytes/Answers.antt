-- `message::put_bytes` meets its contract: after j turns t is n without its j lowest bytes.
-- Assumes nothing.
use Prim.Native.Nat.{ℕ, ◌%◌}
use native.Mathlib.Omega.{arith}
use mathlib.Core.Path.{ap, ◌∙◌}
use Rattle.lists.proofs.Loops.{more}
use Rattle.bits.specs.Digits.{digit}
use Rattle.bits.proofs.Digits.{next}
use Rattle.message.proofs.put_bytes.Goals as goal

pub loop-x-preserved : goal.loop-x-preserved
unfolding digit
loop-x-preserved c =
    let l = c.loop-x in
    let n = c.args.n in
    (omega arith, l.invariant.1, next n 256 l.x-index l.invariant.2, more l.invariant.3 (omega arith) (c.low_byte.ensures ∙ ap (λ (z : ℕ). z % 256) l.invariant.2))
