-- FIPS 202 (2015), the sponge construction, SHAKE128 and SHAKE256, and their padding in bytes; docs/RULES.md, 4.1. For a rate of r bytes:
-- SHAKE128 has the rate 168, SHAKE256 the rate 136.
-- Assumes nothing.
use Rattle.std.specs.Prelude.{List, [], ◌∷◌, ◌++◌, ℕ, zero, suc, ◌+◌, ◌-◌, ◌*◌, ◌/◌, ◌%◌, ◌^◌, length, get_or, take, drop, replicate}
use Rattle.std.specs.Int.Bits.{bit_xor}
use Rattle.lists.specs.Lists.{tab}
use Rattle.bits.specs.Digits.{number}
use Rattle.keccak.specs.Keccak.{keccak_f}

-- absorbing, the sum of the state and a block: S xor (P, and zeros up to 200 bytes), eight bytes a lane, the lowest first
unfoldable pub add_block : List ℕ → List ℕ → List ℕ
add_block s p = tab 25 (λ i. bit_xor (get_or s i 0) (number 256 (take 8 (drop (8 * i) p))))

-- n blocks of r bytes are taken in, each followed by the permutation
unfoldable pub absorb_blocks : (r n : ℕ) → List ℕ → List ℕ → List ℕ
absorb_blocks r zero s p = s
absorb_blocks r (suc n) s p = absorb_blocks r n (keccak_f (add_block s (take r p))) (drop r p)

-- SHAKE's suffix 1111 and pad10*1, in q bytes
unfoldable pub padding : ℕ → List ℕ
padding zero = []
padding (suc zero) = 0x9f ∷ []
padding (suc (suc n)) = 0x1f ∷ (replicate n 0 ++ (0x80 ∷ []))

unfoldable pub padded : ℕ → List ℕ → List ℕ
padded r m = m ++ padding (r - length m % r)

-- byte k of a state
abbrev pub byte_at : List ℕ → ℕ → ℕ
byte_at s k = get_or s (k / 8) 0 / 2 ^ (8 * (k % 8)) % 256

-- squeezing: n blocks of r bytes are given out, with the permutation between them
unfoldable pub squeeze_blocks : (r n : ℕ) → List ℕ → List ℕ
squeeze_blocks r zero s = []
squeeze_blocks r (suc n) s = tab r (byte_at s) ++ squeeze_blocks r n (keccak_f s)

-- SHAKE at the rate r: d bytes for the message m
unfoldable pub shake : (r : ℕ) → List ℕ → (d : ℕ) → List ℕ
shake r m d = take d (squeeze_blocks r (d / r + 1) (absorb_blocks r (length (padded r m) / r) (replicate 25 0) (padded r m)))
