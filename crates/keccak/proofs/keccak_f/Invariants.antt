-- FIPS 202 (2015), KECCAK-p[1600, 24]: `keccak_f` is that. After i turns of the loop the state has gone through i rounds.
-- Assumes nothing.
use mathlib.Core.Path.{◌≡◌}
use Rattle.keccak.specs.Keccak.{rounds}
use Rattle.keccak.proofs.keccak_f.Given as goal

abbrev pub invariant-loop-constant : goal.invariant-loop-constant
invariant-loop-constant l = l.s ≡ rounds l.constant-index l.fn.a
