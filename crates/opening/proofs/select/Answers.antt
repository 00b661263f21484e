-- `opening::select` meets its contract.
-- Assumes nothing.
use native.Mathlib.Omega.{arith}
use Rattle.opening.proofs.Choices.{selects}
use Rattle.opening.proofs.select.Goals as goal

pub returns : goal.returns
returns c = selects c.args.choice c.args.x c.args.y c.requires (omega arith) (omega arith)
