-- FIPS 202 (2015), pad10*1 and SHAKE's suffix, in bytes: the two bytes that `finish` adds are the suffix and the padding. Assumes nothing.
use mathlib.Core.Path.{◌≡◌, refl, sym, ap, ap₂, ◌∙◌, subst}
use mathlib.Core.List.{List, [], ◌∷◌, ◌++◌}
use Prim.Native.Nat.{ℕ, zero, suc, ◌+◌, ◌-◌, ◌*◌, ◌/◌, ◌%◌, ◌^◌, ◌≤◌, ◌<◌}
use native.Mathlib.Nat.{add-zero, zero-add, zero-mul, add-mul, one-mul, mul-div_cancel, mod-lt, div-add-mod'}
use native.Mathlib.Numerals.{add-one}
use native.Mathlib.Omega.{arith}
use lib.Bits.{bit_xor, xor_zero_r}
use lib.Dec.{lit<}
use lib.ListN.{length, get_or, set, replicate, length-append, length-replicate}
use lib.Pow.{shl_exact}
use lib.Seq.{set-set, set-get_or, get_or-set_same}
use Rattle.lists.specs.Lists.{Below}
use Rattle.lists.proofs.Tables.{below_append}
use Rattle.bits.proofs.Xor.{xor_assoc, xor_shl}
use Rattle.keccak.specs.Keccak.{keccak_f}
use Rattle.shake.specs.Shake.{absorb_blocks, padding, padded}
use Rattle.shake.specs.Sponge.{made, xor_byte, xor_bytes, empty, absorb_bytes, finished, Ready}
use Rattle.shake.specs.declared.Sponge.{Sponge}
use Rattle.shake.proofs.Turn.{turn_full}
use Rattle.shake.proofs.Absorb.{absorb_append, absorb_within, ready_bytes, rate_bytes, lanes_bytes, place_bytes, blocks}

-- ---- zeros add nothing

zero_byte : (s : List ℕ) (k : ℕ) → xor_byte s k 0 ≡ s
unfolding xor_byte
zero_byte s k =
    ap (λ (x : ℕ). set s (k / 8) (bit_xor (get_or s (k / 8) 0) (x % 2 ^ 64))) (zero-mul (2 ^ (8 * (k % 8))))
    ∙ ap (set s (k / 8)) (xor_zero_r (get_or s (k / 8) 0)) ∙ set-get_or s (k / 8) 0

-- n of them, and a byte behind
zeros_byte : (s : List ℕ) (k n b : ℕ) → xor_bytes s k (replicate n 0 ++ (b ∷ [])) ≡ xor_byte s (k + n) b
unfolding xor_bytes
zeros_byte s k zero b = ap (λ (j : ℕ). xor_byte s j b) (sym (add-zero k))
zeros_byte s k (suc n) b =
    let e : k + 1 + n ≡ k + suc n = omega arith in
    ap (λ (q : List ℕ). xor_bytes q (k + 1) (replicate n 0 ++ (b ∷ []))) (zero_byte s k) ∙ zeros_byte s (k + 1) n b ∙ ap (λ (j : ℕ). xor_byte s j b) e

-- ---- two bytes at one place, as where the padding is one byte

byte_twice : (s : List ℕ) (k a b : ℕ) → k / 8 < length s → a < 256 → b < 256 → bit_xor a b < 256 → xor_byte (xor_byte s k a) k b ≡ xor_byte s k (bit_xor a b)
unfolding xor_byte
byte_twice s k a b h ha hb hc =
    let e : ℕ = 8 * (k % 8) in
    let exact : (x : ℕ) → x < 256 → x * 2 ^ (8 * (k % 8)) % 2 ^ 64 ≡ x * 2 ^ (8 * (k % 8)) = λ x l. shl_exact 8 (8 * (k % 8)) 64 l (omega arith) in
    ap (λ (x : ℕ). set (xor_byte s k a) (k / 8) (bit_xor x (b * 2 ^ e % 2 ^ 64))) (get_or-set_same s (k / 8) _ 0 h)
    ∙ set-set s (k / 8) _ _
    ∙ ap (set s (k / 8))
    (xor_assoc (get_or s (k / 8) 0) (a * 2 ^ e % 2 ^ 64) (b * 2 ^ e % 2 ^ 64)
    ∙ ap (bit_xor (get_or s (k / 8) 0)) (ap₂ bit_xor (exact a ha) (exact b hb) ∙ xor_shl a b e ∙ sym (exact (bit_xor a b) hc)))

-- ---- the padding

-- q bytes of it, up to the end of the block
pad_bytes : (s : List ℕ) (k r q : ℕ) → length s ≡ 25 → r ≤ 200 → k + suc q ≡ r → xor_bytes s k (padding (suc q)) ≡ xor_byte (xor_byte s k 0x1f) (r - 1) 0x80
unfolding padding xor_bytes
pad_bytes s k r zero e l h =
    let j : k ≡ r - 1 = omega arith in
    sym (byte_twice s k 0x1f 0x80 (subst (λ (n : ℕ). k / 8 < n) (sym e) (omega arith)) (lit< tt) (lit< tt) (lit< tt))
    ∙ ap (λ (n : ℕ). xor_byte (xor_byte s k 0x1f) n 0x80) j
pad_bytes s k r (suc q) e l h =
    let j : k + 1 + q ≡ r - 1 = omega arith in
    zeros_byte (xor_byte s k 0x1f) (k + 1) q 0x80 ∙ ap (λ (n : ℕ). xor_byte (xor_byte s k 0x1f) n 0x80) j

length_padding : (q : ℕ) → length (padding q) ≡ q
unfolding padding
length_padding zero = refl
length_padding (suc zero) = refl
length_padding (suc (suc n)) = ap suc (length-append (replicate n 0) (0x80 ∷ []) ∙ ap (λ (x : ℕ). x + 1) (length-replicate n 0) ∙ add-one n)

below_padding : (q : ℕ) → Below 256 (padding q)
unfolding padding
below_padding zero i = lit< tt
below_padding (suc zero) zero = lit< tt
below_padding (suc zero) (suc i) = lit< tt
below_padding (suc (suc n)) zero = lit< tt
below_padding (suc (suc n)) (suc i) = last n i
  where
    last : (n : ℕ) → Below 256 (replicate n 0 ++ (0x80 ∷ []))
    last zero zero = lit< tt
    last zero (suc i) = lit< tt
    last (suc n) zero = lit< tt
    last (suc n) (suc i) = last n i

-- a sponge that absorbs the padding is finished
pad : (p : Sponge) → Ready p → length p.lanes ≡ 25 → absorb_bytes p (padding (p.rate - p.at)) ≡ finished p
unfolding finished
pad p h e = by (p.rate - p.at) (omega (arith, h.within)) (omega (arith, h.within))
  where
    by : (q : ℕ) → 0 < q → p.at + q ≡ p.rate → absorb_bytes p (padding q) ≡ finished p
    by zero z w = absurd (omega arith)
    by (suc q) z w =
        let n : p.at + length (padding (suc q)) ≡ p.rate = ap (λ (n : ℕ). p.at + n) (length_padding (suc q)) ∙ w in
        absorb_within p.lanes p.at p.rate (padding (suc q)) h.within (omega arith)
        ∙ turn_full (made (xor_bytes p.lanes p.at (padding (suc q))) (p.at + length (padding (suc q))) p.rate) n
        ∙ ap (λ (t : List ℕ). made (keccak_f t) 0 p.rate) (pad_bytes p.lanes p.at p.rate q e h.small w)

-- ---- absorbed and finished, the lanes are those of the sponge construction's absorbing step

module _ (r : ℕ) (some : 0 < r) (small : r ≤ 200) (m : List ℕ) (hm : Below 256 m) where
  padded_length : length (padded r m) ≡ (length m / r + 1) * r
  unfolding padded
  padded_length =
      let l : length m % r < r = mod-lt (length m) some in
      let d : length m / r * r + length m % r ≡ length m = div-add-mod' (length m) r in
      length-append m (padding (r - length m % r)) ∙ ap (λ (n : ℕ). length m + n) (length_padding (r - length m % r))
      ∙ rw (add-mul (length m / r) 1 r, one-mul r) (omega arith)

  padded_blocks : length (padded r m) ≡ length (padded r m) / r * r
  padded_blocks =
      padded_length ∙ ap (λ (n : ℕ). n * r) (sym (ap (λ (n : ℕ). n / r) padded_length ∙ mul-div_cancel (length m / r + 1) some))

  pub absorbed : finished (absorb_bytes (empty r) m) ≡ made (absorb_blocks r (length (padded r m) / r) (replicate 25 0) (padded r m)) 0 r
  unfolding padded
  absorbed =
      let p : Sponge = absorb_bytes (empty r) m in
      let h : Ready (empty r) = record { small = small; within = some } in
      let e : p.at ≡ length m % r = place_bytes (empty r) m h ∙ ap (λ (n : ℕ). n % r) (zero-add (length m)) in
      sym (pad p (ready_bytes (empty r) m h) (lanes_bytes (empty r) m refl))
      ∙ ap₂ (λ (x y : ℕ). absorb_bytes p (padding (x - y))) (rate_bytes (empty r) m) e
      ∙ sym (absorb_append (empty r) m (padding (r - length m % r)))
      ∙ blocks r some small (length (padded r m) / r) (replicate 25 0) (padded r m) refl (below_append m (padding (r - length m % r)) hm (below_padding (r - length m % r))) padded_blocks
