-- FrodoKEM standard proposal (2023), Frodo.Encode and Frodo.Decode; docs/RULES.md, 4.4. A message's bits, lowest first, in groups of b; a group m becomes the
-- word m * q/2^b; a word is decoded to the nearest group.
-- Assumes nothing.
use Rattle.std.specs.Prelude.{List, map, ℕ, ◌+◌, ◌*◌, ◌/◌, ◌%◌, ◌^◌}
use Rattle.bits.specs.Digits.{recoded}

-- half the distance of two groups' words: q/2^(b+1)
abbrev pub half : (q b : ℕ) → ℕ
half q b = q / 2 ^ (b + 1)

-- the groups of b bits of a message: each b bytes, read little-endian, give eight, the lowest first
unfoldable pub groups_of : (b : ℕ) → List ℕ → List ℕ
groups_of b msg = recoded 256 (2 ^ b) b 8 msg

-- the message of such groups
unfoldable pub message_of : (b : ℕ) → List ℕ → List ℕ
message_of b gs = recoded (2 ^ b) 256 8 b gs

-- the word of a group
unfoldable pub word_of : (q b m : ℕ) → ℕ
word_of q b m = m * (q / 2 ^ b)

-- the group of a word: floor((x mod q + h) / 2h) mod 2^b
unfoldable pub group_of : (q b x : ℕ) → ℕ
group_of q b x = (x % q + half q b) / (2 * half q b) % 2 ^ b

-- a message as words
unfoldable pub encoded : (q b : ℕ) → List ℕ → List ℕ
encoded q b msg = map (word_of q b) (groups_of b msg)

-- words as a message
unfoldable pub decoded : (q b : ℕ) → List ℕ → List ℕ
decoded q b ws = message_of b (map (group_of q b) ws)
