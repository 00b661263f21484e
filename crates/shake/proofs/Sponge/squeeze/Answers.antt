-- `squeeze` gives byte after byte: the invariants are `Gave`, and `Upto` for the slice.
-- Assumes nothing.
use Prim.Native.Nat.{◌≤◌}
use native.Mathlib.Omega.{arith}
use mathlib.Core.Path.{◌∙◌}
use Rattle.std.proofs.lemmas.Grind.{common_steps}
use Rattle.lists.proofs.Loops.{none, more, all}
use Rattle.shake.specs.Sponge.{squeezed}
use Rattle.shake.proofs.Squeeze.{gave_none, gave_ready, gave_byte, gave_next, gave_all}
use Rattle.shake.proofs.Sponge.squeeze.Goals as goal
use Rattle.shake.proofs.Sponge.squeeze.Goals.{After-next_block-k}

-- the place to read is in the block
within : (c : After-next_block-k) → (c.next_block-k.result ≤ 199)
within c = let r = gave_ready c.loop-byte.invariant.0 c.next_block-k.ensures in omega (arith, r.within, r.small)

pub loop-byte-init : goal.loop-byte-init
loop-byte-init c = (gave_none _ c.requires, none _ _)

pub bounds-lanes-k : goal.bounds-lanes-k
bounds-lanes-k c = omega (arith, within (goal.at.bounds-lanes-k c).After-next_block-k)

pub overflow_add-at : goal.overflow_add-at
overflow_add-at c = omega (arith, within (goal.at.overflow_add-at c).After-next_block-k)

pub loop-byte-preserved : goal.loop-byte-preserved
loop-byte-preserved c =
    let gave = c.loop-byte.invariant.0 in
    let turn = c.next_block-k.ensures in
    (gave_next gave turn, more c.loop-byte.invariant.1 c.loop-byte-test.true (c.byte_at.ensures ∙ gave_byte gave turn))

-- found by grind: so an edit of the form of must-fail/squeeze_too_few is proved where it leaves no byte out
pub returns : goal.returns
unfolding squeezed
returns c =
    let written = all c.loop-byte.invariant.1 (omega (arith, c.loop-byte-test.false)) in
    (grind (arith, common_steps, written), gave_all _ c.loop-byte.invariant.0 (grind arith))
