-- Eight bytes added to the state one after the other are one lane added. Assumes nothing.
use mathlib.Core.Path.{◌≡◌, refl, sym, ap, ap₂, ◌∙◌}
use mathlib.Core.Bool.{Bool, true, false}
use mathlib.Core.List.{List, [], ◌∷◌}
use Prim.Native.Nat.{ℕ, suc, ◌+◌, ◌*◌, ◌/◌, ◌%◌, ◌^◌, ◌≤◌, ◌<◌}
use native.Mathlib.Nat.{add-zero, zero-mul, mul_assoc, mul-one, mod-eq_of_lt}
use native.Mathlib.Omega.{arith}
use borrow.Author.Tests.{ltb-true, ltb-false}
use lib.Bits.{bit_xor, xor_zero_r, xor_comm, xor_shifted}
use lib.Dec.{ltb}
use lib.ListN.{length, get_or, set}
use lib.Pow.{pow-add, shl_exact}
use lib.Seq.{set_out, set-set, set-get_or, get_or-set_same}
use mir.Syntax.{w64}
use Rattle.std.specs.Int.{from_le_bytes}
use Rattle.lists.specs.Lists.{Below}
use Rattle.lists.proofs.Tables.{known}
use Rattle.bits.specs.Digits.{number}
use Rattle.bits.proofs.Xor.{xor_assoc, xor_shl}
use Rattle.shake.specs.Sponge.{xor_byte, xor_bytes}

-- ---- bytes that stay within the lane l, from its place j on

-- number 256 (b ∷ p), shifted, in two parts
lane_parts : (b n j : ℕ) → b < 256 → bit_xor (b * 2 ^ (8 * j)) (n * 2 ^ (8 * (j + 1))) ≡ (b + 256 * n) * 2 ^ (8 * j)
lane_parts b n j h =
    let e : 8 * (j + 1) ≡ 8 + 8 * j = omega arith in
    ap (λ (z : ℕ). bit_xor (b * 2 ^ (8 * j)) z) (ap (λ (k : ℕ). n * 2 ^ k) e ∙ ap (λ (z : ℕ). n * z) (pow-add 2 8 (8 * j)) ∙ sym (mul_assoc n 256 (2 ^ (8 * j))))
    ∙ xor_shl b (n * 256) (8 * j)
    ∙ ap (λ (z : ℕ). z * 2 ^ (8 * j)) (xor_comm b (n * 256) ∙ xor_shifted n 8 b h ∙ omega arith)

module _ (l : ℕ) where
  -- one byte
  in_lane : (s : List ℕ) (j b : ℕ) → j < 8 → b < 256 → xor_byte s (8 * l + j) b ≡ set s l (bit_xor (get_or s l 0) (b * 2 ^ (8 * j)))
  unfolding xor_byte
  in_lane s j b h hb =
      let d : (8 * l + j) / 8 ≡ l = omega arith in
      let m : (8 * l + j) % 8 ≡ j = omega arith in
      ap₂ (λ (i k : ℕ). set s i (bit_xor (get_or s i 0) (b * 2 ^ (8 * k) % 2 ^ 64))) d m
      ∙ ap (λ (z : ℕ). set s l (bit_xor (get_or s l 0) z)) (shl_exact 8 (8 * j) 64 hb (omega arith))

  -- two numbers added to one lane
  lane_twice : (s : List ℕ) (x y : ℕ) → set (set s l (bit_xor (get_or s l 0) x)) l (bit_xor (get_or (set s l (bit_xor (get_or s l 0) x)) l 0) y) ≡ set s l (bit_xor (get_or s l 0) (bit_xor x y))
  lane_twice s x y = by (ltb l (length s)) refl
    where
      by : (t : Bool) → ltb l (length s) ≡ t → set (set s l (bit_xor (get_or s l 0) x)) l (bit_xor (get_or (set s l (bit_xor (get_or s l 0) x)) l 0) y) ≡ set s l (bit_xor (get_or s l 0) (bit_xor x y))
      by true e =
          set-set s l (bit_xor (get_or s l 0) x) _
          ∙ ap (λ (z : ℕ). set s l (bit_xor z y)) (get_or-set_same s l (bit_xor (get_or s l 0) x) 0 (ltb-true _ _ e))
          ∙ ap (set s l) (xor_assoc (get_or s l 0) x y)
      by false e =
          let out : (a : ℕ) → set s l a ≡ s = λ a. set_out s l a (ltb-false _ _ e) in
          ap (λ (z : List ℕ). set z l (bit_xor (get_or z l 0) y)) (out _) ∙ out _ ∙ sym (out _)

  lane_bytes : (s : List ℕ) (j : ℕ) (p : List ℕ) → Below 256 p → j + length p ≤ 8 → xor_bytes s (8 * l + j) p ≡ set s l (bit_xor (get_or s l 0) (number 256 p * 2 ^ (8 * j)))
  unfolding xor_bytes number
  lane_bytes s j [] h r = sym (ap (λ (z : ℕ). set s l (bit_xor (get_or s l 0) z)) (zero-mul (2 ^ (8 * j))) ∙ ap (set s l) (xor_zero_r (get_or s l 0)) ∙ set-get_or s l 0)
  lane_bytes s j (b ∷ p) h r =
      let hb : b < 256 = h 0 in
      let e : 8 * l + j + 1 ≡ 8 * l + (j + 1) = omega arith in
      let v : b ≡ b % 256 = omega arith in
      ap₂ (λ (z : List ℕ) (k : ℕ). xor_bytes z k p) (in_lane s j b (omega arith) hb) e
      ∙ lane_bytes (set s l (bit_xor (get_or s l 0) (b * 2 ^ (8 * j)))) (j + 1) p (λ i. h (suc i)) (omega arith)
      ∙ lane_twice s (b * 2 ^ (8 * j)) (number 256 p * 2 ^ (8 * (j + 1)))
      ∙ ap (λ (z : ℕ). set s l (bit_xor (get_or s l 0) z)) (lane_parts b (number 256 p) j hb ∙ ap (λ (z : ℕ). (z + 256 * number 256 p) * 2 ^ (8 * j)) v)

  -- eight bytes are the whole lane
  pub add_lane : (s p : List ℕ) → Below 256 p → length p ≡ 8 → xor_bytes s (8 * l) p ≡ set s l (bit_xor (get_or s l 0) (number 256 p))
  add_lane s p h n =
      ap (λ (k : ℕ). xor_bytes s k p) (sym (add-zero (8 * l)))
      ∙ lane_bytes s 0 p h (omega arith)
      ∙ ap (λ (z : ℕ). set s l (bit_xor (get_or s l 0) z)) (mul-one (number 256 p))

-- eight bytes as a number, the lowest first
pub lane_number : (p : List ℕ) → length p ≡ 8 → Below 256 p → from_le_bytes w64 p ≡ number 256 p
unfolding number
lane_number p n h =
    let byte : (i : ℕ) → get_or p i 0 % 256 ≡ get_or p i 0 = λ i. mod-eq_of_lt (h i) in
    omega (arith, byte 0, byte 1, byte 2, byte 3, byte 4, byte 5, byte 6, byte 7) ∙ ap (number 256) (known 8 p n)
