-- `squeeze_words` gives the words of a block a turn: the invariants are `GaveWords`, and `Upto` for the slice.
-- Assumes nothing.
use mathlib.Core.Path.{◌∙◌}
use Prim.Native.Nat.{◌+◌, ◌*◌, ◌≤◌, ◌<◌}
use native.Mathlib.Omega.{arith}
use lib.ListN.{length}
use Rattle.lists.proofs.Loops.{none, all}
use Rattle.shake.proofs.Squeeze.{gave_all}
use Rattle.shake.proofs.Words.{words_are, words_none, words_ready, words_more, words_part}
use Rattle.shake.proofs.Sponge.squeeze_words.Goals as goal
use Rattle.shake.proofs.Sponge.squeeze_words.Goals.{After-min-m}

-- a turn gives at least one word, and no more than the block and the slice have
share : (c : After-min-m)
    → (0 < c.min-m.result) × (c.next_block-place.result + 2 * c.min-m.result ≤ c.args.self.rate)
    × (c.loop-i.i + c.min-m.result ≤ length c.args.out.now)
    × (c.args.self.rate ≤ 200)
share c = omega (arith, words_ready c.loop-i.invariant.2 c.next_block-place.ensures)

pub loop-i-init : goal.loop-i-init
loop-i-init c = (omega arith, omega arith, words_none _ c.requires.0 c.requires.1, none _ _)

pub overflow_sub-rate : goal.overflow_sub-rate
overflow_sub-rate c = omega (arith, words_ready c.loop-i.invariant.2 c.next_block-place.ensures)

pub put_block-requires : goal.put_block-requires
put_block-requires c = omega (arith, share (goal.at.put_block-requires c).After-min-m)

pub loop-i-smaller : goal.loop-i-smaller
loop-i-smaller c = omega (arith, share (goal.at.loop-i-smaller c).After-min-m)

pub loop-i-preserved : goal.loop-i-preserved
loop-i-preserved c =
    let inv = c.loop-i.invariant in
    let turn = c.next_block-place.ensures in
    let bounds = share (goal.at.loop-i-preserved c).After-min-m in (
      bounds.2,
      omega arith,
      words_more inv.2 turn _ bounds.0 bounds.1,
      words_part inv.2 turn _ _ inv.3 bounds.1 bounds.2 c.put_block.ensures,
    )

pub returns : goal.returns
returns c =
    let inv = c.loop-i.invariant in
    (all inv.3 (omega arith) ∙ words_are _ _, gave_all _ inv.2.gave (omega arith))
