-- `sponge::absorbed` meets its contract: after i turns the sponge has absorbed the first i parts.
-- Assumes nothing.
use lib.ListN.{take}
use Rattle.shake.proofs.Uses.{Absorbed}
use Rattle.sponge.specs.Parts.{joined}
use Rattle.sponge.proofs.absorbed.Given as goal

abbrev pub invariant-loop-part : goal.invariant-loop-part
invariant-loop-part l = Absorbed l.rate (joined (take l.part-index l.parts)) l.s
