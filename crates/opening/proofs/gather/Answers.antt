-- `opening::gather` meets its contract.
-- Assumes nothing.
use Rattle.opening.proofs.Choices.{gathers}
use Rattle.opening.proofs.gather.Goals as goal

pub returns : goal.returns
returns c = gathers c.args.gathered c.args.x c.args.y
