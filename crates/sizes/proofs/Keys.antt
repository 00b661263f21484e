-- A generated key's parts fit each other (specs/Sizes.antt): S and E are noise, and B - A*S is E.
-- Assumes nothing.
use mathlib.Core.Path.{◌≡◌, sym, ap, ◌∙◌, subst}
use mathlib.Core.Logic.{◌⊎◌, inl, inr}
use mathlib.Core.List.{List}
use Prim.Native.Nat.{ℕ, ◌+◌, ◌*◌, ◌^◌, ◌≤◌, ◌<◌}
use native.Mathlib.Omega.{arith}
use lib.IntN.{ℤ, nat_abs}
use lib.ListN.{length, get_or}
use Rattle.algebra.specs.Congruence.{Same, minus}
use Rattle.algebra.specs.Matrix.{mat, mat_t, ◌⊕◌, mul}
use Rattle.algebra.specs.Whole.{centred, modulo}
use Rattle.algebra.proofs.Congruences.{same_eq, same_trans, same_cancel, minus_add, minus_lt}
use Rattle.algebra.proofs.Tables.{same_entry}
use Rattle.sets.specs.Sets.{Valid}
use Rattle.sets.specs.declared.Params.{Params}
use Rattle.noise.specs.Noise.{largest_of}
use Rattle.rows.specs.Row.{mat_a}
use Rattle.scheme.specs.KeyGen.{key_seed_a, key_noise, key_s, key_e, key_b, public_key, secret_key}
use Rattle.scheme.specs.Encaps.{pk_b}
use Rattle.scheme.proofs.Parts.{coding, q_pos}
use Rattle.scheme.proofs.Keys.{pk_seed_a_lem, pk_B, sk_pk_lem, sk_matrix_s_lem}
use Rattle.sizes.specs.Signed.{signed_word}
use Rattle.sizes.specs.Sizes.{KeyFits}
use Rattle.sizes.proofs.Stands.{Stands, stands_same, stands_word, stands_out}
use Rattle.sizes.proofs.Small.{Small, small_noise, small_take, small_drop, centred_back, largest_low}

-- S and E are small
small_S : (p : Params) (seed : List ℕ) → Small (largest_of p.chi) (key_s p seed)
unfolding key_noise
small_S p seed = small_take (8 * p.n) (small_noise p _)

small_E : (p : Params) (seed : List ℕ) → Small (largest_of p.chi) (key_e p seed)
unfolding key_noise
small_E p seed = small_drop (8 * p.n) (small_noise p _)

-- a word of noise is small mod q too: q is 2^15 at least
module _ (p : Params) (ok : Valid p) where
  q_cases : (p.q ≡ 2 * 16384) ⊎ (p.q ≡ 2 * 32768)
  q_cases = cases ok.d_cases
    where
      cases : (p.d ≡ 15) ⊎ (p.d ≡ 16) → (p.q ≡ 2 * 16384) ⊎ (p.q ≡ 2 * 32768)
      cases (inl e) = inl (ok.q_is ∙ ap (λ (d : ℕ). 2 ^ d) e)
      cases (inr e) = inr (ok.q_is ∙ ap (λ (d : ℕ). 2 ^ d) e)

  small_back : (z : ℤ) → nat_abs z ≤ 12 → centred p.q (modulo z p.q) ≡ z
  small_back z h = cases q_cases
    where
      cases : (p.q ≡ 2 * 16384) ⊎ (p.q ≡ 2 * 32768) → centred p.q (modulo z p.q) ≡ z
      cases (inl e) = rw e (centred_back 16384 z (omega arith))
      cases (inr e) = rw e (centred_back 32768 z (omega arith))

  -- what is E mod q stands for E
  E_back : (x w : ℕ) → x < p.q → Same p.q x w → nat_abs (signed_word w) ≤ largest_of p.chi → nat_abs (centred p.q x) ≤ largest_of p.chi
  E_back x w l s small =
      let word = subst (λ (q : ℕ). Stands q w (signed_word w)) (sym (coding p ok).q_is) (stands_word (coding p ok).d w (coding p ok).d_high) in
      let is = ap (centred p.q) (stands_out (signed_word w) (q_pos p ok) l (stands_same (signed_word w) s word)) ∙ small_back (signed_word w) (omega (arith, largest_low p.chi)) in
      subst (λ (z : ℤ). nat_abs z ≤ largest_of p.chi) (sym is) small

  module _ (seed : List ℕ) (enough : length seed ≡ p.seed) where
    -- B - A*S is E mod q
    left_e : (i j : ℕ) → i < p.n → j < 8
        → Same p.q (minus p.q (mat 8 (pk_b p (public_key p seed)) i j) (mul p.n (mat_a p (key_seed_a p seed)) (mat_t p.n (key_s p seed)) i j)) (mat 8 (key_e p seed) i j)
    unfolding key_b
    left_e i j hi hj =
        let AS = mul p.n (mat_a p (key_seed_a p seed)) (mat_t p.n (key_s p seed)) in
        let E = mat 8 (key_e p seed) in
        let B = mat 8 (pk_b p (public_key p seed)) i j in
        let whole : Same p.q B (E i j + AS i j) = rw (pk_B p ok seed) (same_trans (same_entry p.q p.n 8 (AS ⊕ E) i j hi hj) (same_eq p.q (omega arith))) in
        same_cancel (AS i j) (same_trans (minus_add p.q B (AS i j) (q_pos p ok)) whole)

    pub key-fits : KeyFits p (largest_of p.chi) (secret_key p seed)
    key-fits = record {
      S_small = λ k. subst (λ (ws : List ℕ). nat_abs (signed_word (get_or ws k 0)) ≤ largest_of p.chi) (sym (sk_matrix_s_lem p ok seed enough)) ((small_S p seed).each k);
      E_small = λ i j hi hj.
          rw (sk_matrix_s_lem p ok seed enough, sk_pk_lem p ok seed enough, pk_seed_a_lem p ok seed)
          (E_back _ (mat 8 (key_e p seed) i j) (minus_lt p.q _ _ (q_pos p ok)) (left_e i j hi hj) ((small_E p seed).each (i * 8 + j)));
    }
