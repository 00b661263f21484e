-- FIPS 202 (2015), iota: `iota` adds the constant that it is given.
-- Assumes nothing.
use mathlib.Core.Path.{refl}
use Rattle.keccak.specs.Keccak.{iota_with}
use Rattle.keccak.proofs.iota.Goals as goal

pub returns : goal.returns
unfolding iota_with
returns c = refl
