-- `absorb` adds to the block what it has room for, a turn: what is left is still to be absorbed.
-- Assumes nothing.
use borrow.Author.Rules.{rules}
use native.Mathlib.Omega.{arith}
use mathlib.Core.Path.{ap₂, sym, ◌∙◌}
use mathlib.Core.List.{◌++◌}
use lib.ListN.{take-append-drop}
use Rattle.shake.proofs.Absorb.{left_behind, left_none}
use Rattle.shake.proofs.Sponge.absorb.Goals as goal

pub loop-rest-preserved : goal.loop-rest-preserved
loop-rest-preserved c =
    let parts = c.split_at.ensures in
    left_behind _ _ c.loop-rest.invariant (sym (ap₂ ◌++◌ parts.front parts.back ∙ take-append-drop _ c.loop-rest.rest.now))
    (omega (arith, parts.front_len, c.min.ensures, c.loop-rest.invariant.ready.within)) c.add_block.ensures c.next_block-at.ensures

pub returns : goal.returns
returns c = left_none c.loop-rest.invariant (search rules)
