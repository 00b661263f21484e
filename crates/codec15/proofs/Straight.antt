-- The straight-line formulas are the bit string of docs/RULES.md, 4.3: eight words of 15 bits as bytes, and fifteen bytes as words.
-- Assumes nothing.
use mathlib.Core.Path.{◌≡◌, refl}
use mathlib.Core.List.{[], ◌∷◌}
use Prim.Native.Nat.{ℕ, ◌+◌, ◌*◌, ◌/◌, ◌%◌, ◌<◌}
use native.Mathlib.Omega.{arith}
use Rattle.lists.proofs.Tables.{cons, meet}
use Rattle.bits.specs.Stream.{bits, stream, groups, regrouped}
use Rattle.bits.proofs.Stream.{value_seg, join, join3}

-- eight words of 15 bits as bytes
pub pack_eight : (a b c d e f g h : ℕ) →
    a % 32768 / 128
    ∷ (a % 32768 % 128 * 2 + b % 32768 / 16384)
    ∷ b % 32768 / 64 % 256
    ∷ (b % 32768 % 64 * 4 + c % 32768 / 8192)
    ∷ c % 32768 / 32 % 256
    ∷ (c % 32768 % 32 * 8 + d % 32768 / 4096)
    ∷ d % 32768 / 16 % 256
    ∷ (d % 32768 % 16 * 16 + e % 32768 / 2048)
    ∷ e % 32768 / 8 % 256
    ∷ (e % 32768 % 8 * 32 + f % 32768 / 1024)
    ∷ f % 32768 / 4 % 256
    ∷ (f % 32768 % 4 * 64 + g % 32768 / 512)
    ∷ g % 32768 / 2 % 256
    ∷ (g % 32768 % 2 * 128 + h % 32768 / 256)
    ∷ h % 32768 % 256
    ∷ [] ≡ regrouped 15 8 (a ∷ b ∷ c ∷ d ∷ e ∷ f ∷ g ∷ h ∷ [])
unfolding groups stream bits
pack_eight a b c d e f g h =
    cons (meet (value_seg 8 7 a) (omega arith)) (
    cons (meet (join 7 0 a 1 14 b) (omega arith)) (
    cons (meet (value_seg 8 6 b) (omega arith)) (
    cons (meet (join 6 0 b 2 13 c) (omega arith)) (
    cons (meet (value_seg 8 5 c) (omega arith)) (
    cons (meet (join 5 0 c 3 12 d) (omega arith)) (
    cons (meet (value_seg 8 4 d) (omega arith)) (
    cons (meet (join 4 0 d 4 11 e) (omega arith)) (
    cons (meet (value_seg 8 3 e) (omega arith)) (
    cons (meet (join 3 0 e 5 10 f) (omega arith)) (
    cons (meet (value_seg 8 2 f) (omega arith)) (
    cons (meet (join 2 0 f 6 9 g) (omega arith)) (
    cons (meet (value_seg 8 1 g) (omega arith)) (
    cons (meet (join 1 0 g 7 8 h) (omega arith)) (
    cons (meet (value_seg 8 0 h) (omega arith)) refl))))))))))))))

-- fifteen bytes as words of 15 bits
pub unpack_fifteen : (b0 b1 b2 b3 b4 b5 b6 b7 b8 b9 b10 b11 b12 b13 b14 : ℕ)
    → b0 < 256 → b1 < 256 → b2 < 256 → b3 < 256 → b4 < 256 → b5 < 256 → b6 < 256 → b7 < 256 → b8 < 256 → b9 < 256 → b10 < 256 → b11 < 256 → b12 < 256 → b13 < 256 → b14 < 256 →
    (b0 * 128 + b1 / 2)
    ∷ (b1 % 2 * 16384 + b2 * 64 + b3 / 4)
    ∷ (b3 % 4 * 8192 + b4 * 32 + b5 / 8)
    ∷ (b5 % 8 * 4096 + b6 * 16 + b7 / 16)
    ∷ (b7 % 16 * 2048 + b8 * 8 + b9 / 32)
    ∷ (b9 % 32 * 1024 + b10 * 4 + b11 / 64)
    ∷ (b11 % 64 * 512 + b12 * 2 + b13 / 128)
    ∷ (b13 % 128 * 256 + b14)
    ∷ [] ≡ regrouped 8 15 (b0 ∷ b1 ∷ b2 ∷ b3 ∷ b4 ∷ b5 ∷ b6 ∷ b7 ∷ b8 ∷ b9 ∷ b10 ∷ b11 ∷ b12 ∷ b13 ∷ b14 ∷ [])
unfolding groups stream bits
unpack_fifteen b0 b1 b2 b3 b4 b5 b6 b7 b8 b9 b10 b11 b12 b13 b14 h0 h1 h2 h3 h4 h5 h6 h7 h8 h9 h10 h11 h12 h13 h14 =
    cons (meet (join 8 0 b0 7 1 b1) (omega arith)) (
    cons (meet (join3 1 0 b1 8 0 b2 6 2 b3) (omega arith)) (
    cons (meet (join3 2 0 b3 8 0 b4 5 3 b5) (omega arith)) (
    cons (meet (join3 3 0 b5 8 0 b6 4 4 b7) (omega arith)) (
    cons (meet (join3 4 0 b7 8 0 b8 3 5 b9) (omega arith)) (
    cons (meet (join3 5 0 b9 8 0 b10 2 6 b11) (omega arith)) (
    cons (meet (join3 6 0 b11 8 0 b12 1 7 b13) (omega arith)) (
    cons (meet (join 7 0 b13 8 0 b14) (omega arith)) refl)))))))
