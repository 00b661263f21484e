-- `noise::with_sign` meets its contract: a factor of 0 or 1 makes no product larger, and one of the two is 0.
-- Assumes nothing.
use native.Mathlib.Omega.{arith}
use Prim.Native.Nat.{◌-◌, ◌*◌, ◌≤◌}
use Rattle.noise.proofs.Counts.{factor_le}
use Rattle.noise.proofs.Signs.{either_is}
use Rattle.noise.proofs.with_sign.Goals as goal
use Rattle.noise.proofs.with_sign.Goals.{Start}

-- either factor is 0 or 1
small : (c : Start) → ((1 - c.args.odd) * c.args.size ≤ c.args.size) × (c.args.odd * c.args.size ≤ c.args.size)
small c = (factor_le (1 - c.args.odd) c.args.size (omega arith), factor_le c.args.odd c.args.size c.requires.0)

pub returns : goal.returns
returns c = either_is c.args.odd c.args.size c.requires.0 c.requires.1 (small (goal.at.returns c).Start).0 (small (goal.at.returns c).Start).1
