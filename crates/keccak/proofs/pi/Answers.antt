-- FIPS 202 (2015), pi: `pi` is pi, by computation.
-- Assumes nothing.
use mathlib.Core.Path.{refl}
use Rattle.keccak.specs.Keccak.{pi}
use Rattle.keccak.proofs.pi.Goals as goal

pub returns : goal.returns
unfolding pi
returns c = refl
