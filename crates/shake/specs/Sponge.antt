-- The sponge a byte at a time, as the code runs it. An inside matter: proofs/Uses.antt proves it equal to the definition in Shake.antt, which goes block by block.
-- Assumes nothing.
use Rattle.std.specs.Prelude.{◌≡◌, Bool, true, false, List, [], ◌∷◌, ◌⊎◌, ℕ, zero, suc, ◌+◌, ◌-◌, ◌*◌, ◌/◌, ◌%◌, ◌^◌, ◌≤◌, ◌<◌, eqb, get_or, set, replicate}
use Rattle.std.specs.Int.Bits.{bit_xor}
use Rattle.lists.specs.Lists.{tab}
use Rattle.keccak.specs.Keccak.{keccak_f}
use Rattle.shake.specs.Shake.{byte_at}
use Rattle.shake.specs.declared.Sponge.{Sponge}

-- a sponge of these lanes, at this place of a block, and at this rate
abbrev pub made : List ℕ → ℕ → ℕ → Sponge
made lanes at rate = record { lanes = lanes; at = at; rate = rate }

abbrev pub pick : Bool → Sponge → Sponge → Sponge
pick true p q = p
pick false p q = q

-- at the end of a block the permutation, and the next block
unfoldable pub turned : Sponge → Sponge
turned p = pick (eqb p.at p.rate) (made (keccak_f p.lanes) 0 p.rate) p

-- ---- absorbing

-- the lane x that takes the byte b at place k of the state
abbrev pub add_byte : ℕ → ℕ → ℕ → ℕ
add_byte x k b = bit_xor x (b * 2 ^ (8 * (k % 8)) % 2 ^ 64)

-- the lanes s that take the byte b at place k
unfoldable pub xor_byte : List ℕ → ℕ → ℕ → List ℕ
xor_byte s k b = set s (k / 8) (add_byte (get_or s (k / 8) 0) k b)

-- the lanes s that take bytes one after the other, from place k on
unfoldable pub xor_bytes : List ℕ → ℕ → List ℕ → List ℕ
xor_bytes s k [] = s
xor_bytes s k (b ∷ bs) = xor_bytes (xor_byte s k b) (k + 1) bs

-- a sponge that has absorbed nothing
abbrev pub empty : ℕ → Sponge
empty r = made (replicate 25 0) 0 r

-- a byte more; where it fills the block the permutation follows at once
unfoldable pub absorb_byte : Sponge → ℕ → Sponge
absorb_byte p b = turned (made (xor_byte p.lanes p.at b) (p.at + 1) p.rate)

unfoldable pub absorb_bytes : Sponge → List ℕ → Sponge
absorb_bytes p [] = p
absorb_bytes p (b ∷ bs) = absorb_bytes (absorb_byte p b) bs

-- the padding, and the permutation that ends the last block
unfoldable pub finished : Sponge → Sponge
finished p = made (keccak_f (xor_byte (xor_byte p.lanes p.at 0x1f) (p.rate - 1) 0x80)) 0 p.rate

-- ---- squeezing

-- a byte further; here the permutation waits until a byte of the next block is asked for
abbrev pub stepped : Sponge → Sponge
stepped p = made p.lanes (p.at + 1) p.rate

-- after it gave n bytes
unfoldable pub after : Sponge → ℕ → Sponge
after p zero = p
after p (suc n) = stepped (turned (after p n))

-- the byte that a sponge gives next
abbrev pub first : Sponge → ℕ
first p = byte_at (turned p).lanes (turned p).at

-- the byte that it gives after k others
abbrev pub nth : Sponge → ℕ → ℕ
nth p k = first (after p k)

-- the n bytes that it gives next
unfoldable pub squeezed : Sponge → ℕ → List ℕ
squeezed p n = tab n (nth p)

-- the two bytes of a state from an even place k on
abbrev pub word_at : List ℕ → ℕ → ℕ
word_at s k = get_or s (k / 8) 0 / 2 ^ (8 * (k % 8)) % 65536

-- ---- what the functions ask

-- a byte can be absorbed
pub record Ready (p : Sponge) : Type 0 where
  pub small : p.rate ≤ 200
  pub within : p.at < p.rate

-- bytes can be squeezed
pub record Squeezing (p : Sponge) : Type 0 where
  pub small : p.rate ≤ 200
  pub some : 0 < p.rate
  pub within : p.at ≤ p.rate

-- bytes can be squeezed two at a time
pub record Even (p : Sponge) : Type 0 where
  pub rate : p.rate % 2 ≡ 0
  pub place : p.at % 2 ≡ 0

-- r lanes are whole where n elements, `size` of them a lane, stand from place k on
pub record Whole (k n size r : ℕ) : Type 0 where
  pub within : r * size ≤ n
  pub lane : (k % 8 ≡ 0) ⊎ (r ≡ 0)
