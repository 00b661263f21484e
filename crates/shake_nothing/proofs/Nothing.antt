-- FIPS 202 (2015), SHAKE128: that of nothing, computed by the checker from the definitions alone.
-- The expected bytes are those of Python's hashlib.shake_128(b"").digest(32).
-- Assumes nothing.
use mathlib.Core.Path.{◌≡◌, refl}
use mathlib.Core.List.{[], ◌∷◌}
use Rattle.bits.specs.Digits.{number}
use Rattle.keccak.specs.Keccak.{rotl, theta, offsets, rho, pi, chi, round_constant, iota_with, iota, round, rounds, keccak_f}
use Rattle.shake.specs.Shake.{add_block, absorb_blocks, padding, padded, squeeze_blocks, shake}

pub nothing : shake 168 [] 32 ≡ 0x7f ∷ 0x9c ∷ 0x2b ∷ 0xa4 ∷ 0xe8 ∷ 0x8f ∷ 0x82 ∷ 0x7d ∷ 0x61 ∷ 0x60 ∷ 0x45 ∷ 0x50 ∷ 0x76 ∷ 0x05 ∷ 0x85 ∷ 0x3e ∷ 0xd7 ∷ 0x3b ∷ 0x80 ∷ 0x93 ∷ 0xf6 ∷ 0xef ∷ 0xbc ∷ 0x88 ∷ 0xeb ∷ 0x1a ∷ 0x6e ∷ 0xac ∷ 0xfa ∷ 0x66 ∷ 0xef ∷ 0x26 ∷ []
unfolding number rotl theta offsets rho pi chi round_constant iota_with iota round rounds keccak_f add_block absorb_blocks padding padded squeeze_blocks shake
nothing = refl
