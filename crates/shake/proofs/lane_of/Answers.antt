-- `lane_of` reads a lane off eight bytes.
-- Assumes nothing.
use mathlib.Core.Path.{◌∙◌}
use native.Mathlib.Omega.{arith}
use Rattle.shake.proofs.Lane.{lane_number}
use Rattle.shake.proofs.lane_of.Goals as goal

pub returns : goal.returns
returns c = c.from_le_bytes.ensures ∙ lane_number c.args.bytes.now (omega arith) c.fits-bytes
