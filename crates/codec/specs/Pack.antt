-- FrodoKEM standard proposal (2023), Frodo.Pack and Frodo.Unpack; docs/RULES.md, 4.3. Each word's d bits, highest first, in a row, cut into bytes, highest bit first; and back.
-- d is the number of bits of q.
-- Assumes nothing.
use Rattle.std.specs.Prelude.{List, ℕ, ◌*◌, ◌/◌, length}
use Rattle.bits.specs.Stream.{stream, groups}

-- words of d bits as bytes
unfoldable pub packed : (d : ℕ) → List ℕ → List ℕ
packed d ws = groups 8 (length ws * d / 8) (stream d ws)

-- bytes as words of d bits
unfoldable pub unpacked : (d : ℕ) → List ℕ → List ℕ
unpacked d bs = groups d (length bs * 8 / d) (stream 8 bs)
