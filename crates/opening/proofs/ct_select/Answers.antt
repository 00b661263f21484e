-- `opening::ct_select` meets its contract: after i turns the first i bytes are chosen.
-- Assumes nothing.
use native.Mathlib.Omega.{arith}
use lib.Dec.{eqb}
use Rattle.lists.proofs.Loops.{more}
use Rattle.opening.proofs.Choices.{chosen}
use Rattle.opening.proofs.ct_select.Goals as goal

pub loop-i-preserved : goal.loop-i-preserved
loop-i-preserved c = (omega arith, more c.loop-i.invariant.1 (omega arith) c.select.ensures)

pub returns : goal.returns
returns c =
    chosen (eqb c.args.choice 1) c.args.a.now c.args.b.now c.loop-i.invariant.1 (omega arith) c.requires.1 c.requires.2
