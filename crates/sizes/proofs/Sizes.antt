-- An entry of the noise of signed numbers has at most the size of 2n products of samples and a sample (specs/Sizes.antt); its number by set, which is more than h in each.
-- Assumes nothing.
use mathlib.Core.Path.{sym, subst}
use mathlib.Core.List.{List}
use Prim.Native.Nat.{ℕ, ◌+◌, ◌*◌, ◌≤◌, ◌<◌}
use native.Mathlib.Nat.{mul-le-mul}
use native.Mathlib.Omega.{arith}
use lib.IntN.{ℤ, nat_abs, ◌+ℤ◌, ◌*ℤ◌, neg_ℤ}
use Rattle.algebra.specs.Matrix.{Matrix, mat, mat_t}
use Rattle.sets.specs.Sets.{frodo640, frodo976, frodo1344}
use Rattle.sets.specs.declared.Params.{Params}
use Rattle.message.specs.Message.{half}
use Rattle.noise.specs.Noise.{largest_of}
use Rattle.scheme.specs.Parts.{pkh_of}
use Rattle.scheme.specs.KeyGen.{key_noise, key_s, key_e, public_key}
use Rattle.scheme.specs.Encaps.{enc_noise, enc_s, enc_e, enc_e2}
use Rattle.sizes.specs.Signed.{sumℤ, signed_word, signed_noise, signed_noise_at}
use Rattle.sizes.specs.Sizes.{most_noise}
use Rattle.sizes.proofs.Stands.{size_add, size_neg, size_mul, size_sum}
use Rattle.sizes.proofs.Small.{small_noise, small_take, small_drop}

-- ---- of any five matrices whose words stand for small numbers

module _ (n : ℕ) (S E S' E' E'' : Matrix) (s : ℕ)
    (hS : (i j : ℕ) → nat_abs (signed_word (S i j)) ≤ s) (hE : (i j : ℕ) → nat_abs (signed_word (E i j)) ≤ s) (hS' : (i j : ℕ) → nat_abs (signed_word (S' i j)) ≤ s)
    (hE' : (i j : ℕ) → nat_abs (signed_word (E' i j)) ≤ s) (hE'' : (i j : ℕ) → nat_abs (signed_word (E'' i j)) ≤ s) where
  product : (a b : ℤ) → nat_abs a ≤ s → nat_abs b ≤ s → nat_abs (a *ℤ b) ≤ s * s
  product a b ha hb = subst (λ (k : ℕ). k ≤ s * s) (sym (size_mul a b)) (mul-le-mul ha hb)

  noise_most : (i j : ℕ) → nat_abs (signed_noise n S E S' E' E'' i j) ≤ most_noise n s
  unfolding signed_noise
  noise_most i j =
      let first = sumℤ n (λ k. signed_word (S' i k) *ℤ signed_word (E k j)) in
      let last = sumℤ n (λ k. signed_word (E' i k) *ℤ signed_word (S k j)) in
      let one = size_sum n (s * s) (λ k. signed_word (S' i k) *ℤ signed_word (E k j)) (λ k. product (signed_word (S' i k)) (signed_word (E k j)) (hS' i k) (hE k j)) in
      let two = size_sum n (s * s) (λ k. signed_word (E' i k) *ℤ signed_word (S k j)) (λ k. product (signed_word (E' i k)) (signed_word (S k j)) (hE' i k) (hS k j)) in
      omega (arith, one, two, hE'' i j, size_add first (signed_word (E'' i j)), size_add (first +ℤ signed_word (E'' i j)) (neg_ℤ last), size_neg last)

-- ---- of a sealing

pub noise_size : (p : Params) (seed msg salt : List ℕ) (i j : ℕ) → nat_abs (signed_noise_at p seed msg salt i j) ≤ most_noise p.n (largest_of p.chi)
unfolding signed_noise_at key_noise enc_noise
noise_size p seed msg salt i j =
    let pkh = pkh_of p (public_key p seed) in
    let n = p.n in
    let key = small_noise p _ in
    let enc = small_noise p _ in
    noise_most n
    (mat_t n (key_s p seed))
    (mat 8 (key_e p seed))
    (mat n (enc_s p pkh msg salt))
    (mat n (enc_e p pkh msg salt))
    (mat 8 (enc_e2 p pkh msg salt))
    (largest_of p.chi)
    (λ a b. (small_take (8 * n) key).each (b * n + a))
    (λ a b. (small_drop (8 * n) key).each (a * 8 + b))
    (λ a b. (small_take (8 * n) enc).each (a * n + b))
    (λ a b. (small_take (8 * n) (small_drop (8 * n) enc)).each (a * n + b))
    (λ a b. (small_drop (16 * n) enc).each (a * 8 + b))
    i j

-- ---- set by set

pub noise640 : (seed msg salt : List ℕ) (i j : ℕ) → nat_abs (signed_noise_at frodo640 seed msg salt i j) ≤ 184332
noise640 = noise_size frodo640

pub noise976 : (seed msg salt : List ℕ) (i j : ℕ) → nat_abs (signed_noise_at frodo976 seed msg salt i j) ≤ 195210
noise976 = noise_size frodo976

pub noise1344 : (seed msg salt : List ℕ) (i j : ℕ) → nat_abs (signed_noise_at frodo1344 seed msg salt i j) ≤ 96774
noise1344 = noise_size frodo1344

-- it is more than h, so that it excludes no spoiled message, whatever the seed
pub beyond640 : half frodo640.q frodo640.b < 184332
beyond640 = omega arith

pub beyond976 : half frodo976.q frodo976.b < 195210
beyond976 = omega arith

pub beyond1344 : half frodo1344.q frodo1344.b < 96774
beyond1344 = omega arith
