-- The noise is that of the signed numbers, mod q (specs/Signed.antt), and so the third demand is theirs.
-- Assumes nothing.
use mathlib.Core.Path.{◌≡◌, sym, ap, subst}
use mathlib.Core.Logic.{◌↔◌}
use mathlib.Core.List.{List}
use Prim.Native.Nat.{ℕ, ◌*◌, ◌^◌, ◌≤◌}
use lib.IntN.{◌+ℤ◌, ◌-ℤ◌, ◌*ℤ◌}
use lib.Pow.{pow_pos}
use Rattle.algebra.specs.Matrix.{Matrix, mat, mat_t}
use Rattle.algebra.specs.Whole.{centred, modulo}
use Rattle.algebra.proofs.Congruences.{minus_lt}
use Rattle.sets.specs.Sets.{Valid}
use Rattle.sets.specs.declared.Params.{Params}
use Rattle.sets.proofs.Facts.{valid, picked}
use Rattle.message.specs.Message.{half}
use Rattle.scheme.specs.Parts.{pkh_of}
use Rattle.scheme.specs.KeyGen.{key_s, key_e, public_key}
use Rattle.scheme.specs.Encaps.{enc_s, enc_e, enc_e2}
use Rattle.scheme.specs.Noise.{noise_of, noise_at, InRange, AllInRange}
use Rattle.scheme.proofs.Parts.{coding}
use Rattle.scheme.proofs.Demand3.{third-demand}
use Rattle.sizes.specs.Signed.{sumℤ, signed_word, signed_noise, signed_noise_at, SignedInRange, SignedDemand}
use Rattle.sizes.proofs.Stands.{stands_add, stands_mul, stands_minus, stands_sum, stands_word, stands_out}

-- of any five matrices
noise_of_lem : (n : ℕ) (S E S' E' E'' : Matrix) (d i j : ℕ) → d ≤ 16 → noise_of (2 ^ d) n S E S' E' E'' i j ≡ modulo (signed_noise n S E S' E' E'' i j) (2 ^ d)
unfolding noise_of signed_noise
noise_of_lem n S E S' E' E'' d i j h =
    let first = sumℤ n (λ k. signed_word (S' i k) *ℤ signed_word (E k j)) in
    let last = sumℤ n (λ k. signed_word (E' i k) *ℤ signed_word (S k j)) in
    let front = stands_add first (signed_word (E'' i j))
    (stands_sum n (λ k. S' i k * E k j) (λ k. signed_word (S' i k) *ℤ signed_word (E k j)) (λ k. stands_mul (signed_word (S' i k)) (signed_word (E k j)) (stands_word d (S' i k) h) (stands_word d (E k j) h)))
    (stands_word d (E'' i j) h) in
    let back = stands_sum n (λ k. E' i k * S k j) (λ k. signed_word (E' i k) *ℤ signed_word (S k j)) (λ k. stands_mul (signed_word (E' i k)) (signed_word (S k j)) (stands_word d (E' i k) h) (stands_word d (S k j) h)) in
    stands_out (first +ℤ signed_word (E'' i j) -ℤ last) (pow_pos d) (minus_lt (2 ^ d) _ _ (pow_pos d))
    (stands_minus (first +ℤ signed_word (E'' i j)) last (pow_pos d) front back)

module _ (p : Params) (ok : Valid p) (seed msg salt : List ℕ) where
  -- of a sealing
  pub noise_signed : (i j : ℕ) → noise_at p seed msg salt i j ≡ modulo (signed_noise_at p seed msg salt i j) p.q
  unfolding noise_at signed_noise_at
  noise_signed i j =
      let pkh = pkh_of p (public_key p seed) in
      let n = p.n in
      let S = mat_t n (key_s p seed) in
      let E = mat 8 (key_e p seed) in
      let S' = mat n (enc_s p pkh msg salt) in
      let E' = mat n (enc_e p pkh msg salt) in
      let E'' = mat 8 (enc_e2 p pkh msg salt) in
      subst (λ (q : ℕ). noise_of q n S E S' E' E'' i j ≡ modulo (signed_noise n S E S' E' E'' i j) q) (sym (coding p ok).q_is) (noise_of_lem n S E S' E' E'' (coding p ok).d i j (coding p ok).d_high)

  -- one range
  pub range_signed : AllInRange p seed msg salt ↔ SignedInRange p seed msg salt
  range_signed =
      let at : (i j : ℕ) → centred p.q (noise_at p seed msg salt i j) ≡ centred p.q (modulo (signed_noise_at p seed msg salt i j) p.q)
      = λ i j. ap (centred p.q) (noise_signed i j) in
      (λ all i j hi hj. subst (InRange (half p.q p.b)) (at i j) (all i j hi hj), λ all i j hi hj. subst (InRange (half p.q p.b)) (sym (at i j)) (all i j hi hj))

-- of every set number
pub signed_demand : SignedDemand
signed_demand set p e seed msg salt enough len bytes =
    let ok = subst Valid (sym (picked set p e).1) (valid set) in
    let back = (third-demand set p e seed msg salt enough len bytes).message in
    let range = range_signed p ok seed msg salt in
    (λ m. range.0 (back.0 m), λ r. back.1 (range.1 r))
