-- A word of 16 bits is two bytes, the higher first (docs/RULES.md, 4.3).
-- Assumes nothing.
use mathlib.Core.Path.{◌≡◌, refl}
use mathlib.Core.List.{[], ◌∷◌}
use Prim.Native.Nat.{ℕ, ◌+◌, ◌*◌, ◌/◌, ◌%◌, ◌<◌}
use native.Mathlib.Omega.{arith}
use Rattle.lists.proofs.Tables.{cons, meet}
use Rattle.bits.specs.Stream.{bits, stream, groups}
use Rattle.bits.proofs.Stream.{value_seg, join}
use Rattle.codec.specs.Pack.{packed, unpacked}

-- a word of 16 bits as two bytes
pub pack_one : (w : ℕ) → w < 65536 → w / 256 ∷ w % 256 ∷ [] ≡ packed 16 (w ∷ [])
unfolding packed groups stream bits
pack_one w h = cons (meet (value_seg 8 8 w) (omega arith)) (cons (meet (value_seg 8 0 w) (omega arith)) refl)

-- two bytes as a word of 16 bits
pub unpack_two : (a b : ℕ) → a < 256 → b < 256 → (b + 256 * a) ∷ [] ≡ unpacked 16 (a ∷ b ∷ [])
unfolding unpacked groups stream bits
unpack_two a b h k = cons (meet (join 8 0 a 8 0 b) (omega arith)) refl
