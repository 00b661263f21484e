-- FIPS 202 (2015), rho: `rotl` rotates a lane.
-- Assumes nothing.
use native.Mathlib.Omega.{arith}
use Rattle.keccak.proofs.Rotation.{rotl_or}
use Rattle.keccak.proofs.rotl.Goals as goal

pub returns : goal.returns
returns c = rotl_or c.args.x c.args.k (omega arith) c.ranges.x.fits
