-- The law of each group: every recovered group is the sent one plus floor((e + h) / 2h), mod 2^b, where e is its own centred entry of the noise.
-- Assumes nothing.
use mathlib.Core.Path.{◌≡◌, ap, ◌∙◌}
use mathlib.Core.List.{List, map}
use Prim.Native.Nat.{ℕ, ◌+◌, ◌*◌, ◌/◌, ◌^◌, ◌<◌}
use native.Mathlib.Nat.{zero-mul}
use native.Mathlib.Omega.{arith}
use lib.ListN.{length, get_or}
use Rattle.lists.proofs.Tables.{get_d_map0, get_d_map_lt}
use Rattle.algebra.specs.Congruence.{Same, minus}
use Rattle.algebra.specs.Matrix.{mat, mat_t, mul}
use Rattle.algebra.proofs.Congruences.{same_eq, same_trans}
use Rattle.algebra.proofs.Tables.{get_d_table, same_entry}
use Rattle.sets.specs.Sets.{Valid}
use Rattle.sets.specs.declared.Params.{Params}
use Rattle.message.specs.Message.{half, groups_of, word_of, group_of, encoded}
use Rattle.message.proofs.RoundTrip.{groups_decoded}
use Rattle.rows.specs.Row.{mat_a}
use Rattle.scheme.specs.Parts.{pkh_of}
use Rattle.scheme.specs.KeyGen.{key_seed_a, key_s, key_e, key_b, public_key, secret_key}
use Rattle.scheme.specs.Encaps.{pk_b, enc_s, enc_e, enc_e2, enc_b, enc_c}
use Rattle.scheme.specs.Decaps.{ct_b, ct_c, opened, decaps_message}
use Rattle.scheme.specs.Noise.{noise_at}
use Rattle.scheme.specs.Demand3.{sealed, recovered_message}
use Rattle.scheme.proofs.Decode.{drifted, group_drifts}
use Rattle.scheme.proofs.Leftover.{opened_noise}
use Rattle.scheme.proofs.Parts.{coding, q_pos}
use Rattle.scheme.proofs.Keys.{pk_seed_a_lem, pk_B, sk_matrix_s_lem}
use Rattle.scheme.proofs.Ciphertexts.{length_opened, ct_B, ct_C}

module _ (p : Params) (valid : Valid p) (seed msg salt : List ℕ) (enough : length seed ≡ p.seed) where
  abbrev pk : List ℕ
  pk = public_key p seed

  abbrev pkh : List ℕ
  pkh = pkh_of p pk

  -- what is decoded
  abbrev words : List ℕ
  words = opened p (secret_key p seed) (sealed p seed msg salt)

  -- what is decoded at an entry is the encoded message and the noise there, mod q
  opened_is : (i j : ℕ) → i < 8 → j < 8
      → Same p.q (mat 8 words i j) (mat 8 (encoded p.q p.b msg) i j + noise_at p seed msg salt i j)
  unfolding opened noise_at key_b enc_b enc_c
  opened_is i j hi hj =
      let n = p.n in
      let A = mat_a p (key_seed_a p seed) in
      let S = mat_t n (key_s p seed) in
      let E = mat 8 (key_e p seed) in
      let S' = mat n (enc_s p pkh msg salt) in
      let E' = mat n (enc_e p pkh msg salt) in
      let E'' = mat 8 (enc_e2 p pkh msg salt) in
      let M = mat 8 (encoded p.q p.b msg) in
      let B = mat 8 (pk_b p pk) in
      let B' = mat n (ct_b p (sealed p seed msg salt)) in
      let C = mat 8 (ct_c p (sealed p seed msg salt)) in
      same_trans
      (same_eq p.q
      (get_d_table 8 8 _ i j hi hj
      ∙ ap (λ (s : List ℕ). minus p.q (C i j) (mul n B' (mat_t n s) i j)) (sk_matrix_s_lem p valid seed enough)))
      (opened_noise p.q n A S E S' E' E'' M B B' C i j (q_pos p valid)
      (λ k l. rw (pk_B p valid seed) (same_entry p.q n 8 _ k j l hj))
      (λ k l. rw (ct_B p valid pk msg salt, pk_seed_a_lem p valid seed) (same_entry p.q 8 n _ i k hi l))
      (rw (ct_C p valid pk msg salt) (same_entry p.q 8 8 _ i j hi hj)))

  -- the recovered groups are the groups of what is decoded
  groups_are : groups_of p.b (recovered_message p seed msg salt) ≡ map (group_of p.q p.b) words
  unfolding decaps_message
  groups_are = groups_decoded p.q p.b valid.b_low 8 words (length_opened p valid (secret_key p seed) (sealed p seed msg salt))

  -- an entry of the encoded message is its group's word
  encoded_is : (t : ℕ) → get_or (encoded p.q p.b msg) t 0 ≡ word_of p.q p.b (get_or (groups_of p.b msg) t 0)
  unfolding encoded word_of
  encoded_is t = get_d_map0 (λ m. m * (p.q / 2 ^ p.b)) (groups_of p.b msg) t (zero-mul (p.q / 2 ^ p.b))

  -- each recovered group is the sent one and its drift
  pub groupwise : (i j : ℕ) → i < 8 → j < 8
      → get_or (groups_of p.b (recovered_message p seed msg salt)) (i * 8 + j) 0
      ≡ drifted p.q (half p.q p.b) (2 ^ p.b) (get_or (groups_of p.b msg) (i * 8 + j) 0) (noise_at p seed msg salt i j)
  groupwise i j hi hj =
      ap (λ (l : List ℕ). get_or l (i * 8 + j) 0) groups_are
      ∙ get_d_map_lt (group_of p.q p.b) words (i * 8 + j) (omega (arith, length_opened p valid (secret_key p seed) (sealed p seed msg salt)))
      ∙ group_drifts (coding p valid) (get_or (groups_of p.b msg) (i * 8 + j) 0) (noise_at p seed msg salt i j) (get_or words (i * 8 + j) 0)
      (same_trans (opened_is i j hi hj) (same_eq p.q (ap (λ (w : ℕ). w + noise_at p seed msg salt i j) (encoded_is (i * 8 + j)))))
