-- What a ciphertext holds, and where; and the lengths of all that encapsulation and decapsulation give.
-- Assumes nothing.
use mathlib.Core.Path.{◌≡◌, sym, ap, ◌∙◌}
use mathlib.Core.List.{List, ◌∷◌, ◌++◌, map}
use Prim.Native.Nat.{ℕ, ◌+◌, ◌*◌}
use native.Mathlib.Omega.{arith}
use lib.ListN.{length, length-append}
use lib.Seq.{take_at}
use Rattle.lists.specs.Lists.{residues, Below}
use Rattle.lists.proofs.Spans.{part_at, rest_at}
use Rattle.algebra.proofs.Tables.{length_table}
use Rattle.sets.specs.Sets.{Valid}
use Rattle.sets.specs.declared.Params.{Params}
use Rattle.codec.specs.Pack.{packed, unpacked}
use Rattle.codec.proofs.RoundTrip.{length_packed}
use Rattle.message.specs.Message.{group_of, decoded}
use Rattle.message.proofs.RoundTrip.{below_message, length_decoded}
use Rattle.scheme.specs.Parts.{pkh_of}
use Rattle.scheme.specs.Encaps.{enc_seed_se, enc_k, enc_noise, enc_b, enc_c, ciphertext, shared_secret}
use Rattle.scheme.specs.Decaps.{ct_c1, ct_c2, ct_salt, ct_b, ct_c, opened, decaps_message, decaps_k, decaps_secret}
use Rattle.scheme.proofs.Parts.{coding, length_hash, length_noise, packed_back}

module _ (p : Params) (valid : Valid p) where
  -- ---- the matrices

  -- 16n + 64 words of noise, 8n of B', 64 of C and of what is decoded
  pub length_enc_noise : (pkh msg salt : List ℕ) → length (enc_noise p pkh msg salt) ≡ 16 * p.n + 64
  unfolding enc_noise
  length_enc_noise pkh msg salt = length_noise p valid (0x96 ∷ enc_seed_se p pkh msg salt) (16 * p.n + 64)

  pub length_enc_b : (pk pkh msg salt : List ℕ) → length (enc_b p pk pkh msg salt) ≡ 8 * p.n
  unfolding enc_b
  length_enc_b pk pkh msg salt = length_table 8 p.n _

  pub length_enc_c : (pk pkh msg salt : List ℕ) → length (enc_c p pk pkh msg salt) ≡ 8 * 8
  unfolding enc_c
  length_enc_c pk pkh msg salt = length_table 8 8 _

  pub length_opened : (sk ct : List ℕ) → length (opened p sk ct) ≡ 8 * 8
  unfolding opened
  length_opened sk ct = length_table 8 8 _

  -- ---- the ciphertext: c1, c2 and the salt

  module _ (pk msg salt : List ℕ) where
    c1 : List ℕ
    c1 = packed p.d (enc_b p pk (pkh_of p pk) msg salt)

    c2 : List ℕ
    c2 = packed p.d (enc_c p pk (pkh_of p pk) msg salt)

    length_c1 : length c1 ≡ p.d * p.n
    unfolding c1
    length_c1 = length_packed p.d p.n (enc_b p pk (pkh_of p pk) msg salt) (length_enc_b pk (pkh_of p pk) msg salt)

    length_c2 : length c2 ≡ p.d * 8
    unfolding c2
    length_c2 = length_packed p.d 8 (enc_c p pk (pkh_of p pk) msg salt) (length_enc_c pk (pkh_of p pk) msg salt)

    -- a ciphertext has its length where the salt has
    pub length_ciphertext : length salt ≡ p.salt → length (ciphertext p pk msg salt) ≡ p.ct
    unfolding ciphertext c1 c2
    length_ciphertext e = length-append c1 (c2 ++ salt) ∙ omega (arith, length_c1, length-append c2 salt, length_c2, valid.ct_is)

    -- it begins with c1
    pub ct_c1_lem : ct_c1 p (ciphertext p pk msg salt) ≡ packed p.d (enc_b p pk (pkh_of p pk) msg salt)
    unfolding ciphertext c1 c2
    ct_c1_lem = take_at c1 (c2 ++ salt) (p.d * p.n) length_c1

    -- then it has c2
    pub ct_c2_lem : ct_c2 p (ciphertext p pk msg salt) ≡ packed p.d (enc_c p pk (pkh_of p pk) msg salt)
    unfolding ciphertext c1 c2
    ct_c2_lem = part_at c1 c2 salt (p.d * p.n) (p.d * 8) length_c1 length_c2

    -- and last the salt, so that a ciphertext tells its salt
    pub ct_salt_lem : ct_salt p (ciphertext p pk msg salt) ≡ salt
    unfolding ciphertext c1 c2
    ct_salt_lem = rest_at c1 c2 salt (p.d * p.n) (p.d * 8) length_c1 length_c2

    -- c1 is B' mod q
    pub ct_B : ct_b p (ciphertext p pk msg salt) ≡ residues p.q (enc_b p pk (pkh_of p pk) msg salt)
    ct_B = ap (unpacked p.d) ct_c1_lem ∙ packed_back p valid p.n (enc_b p pk (pkh_of p pk) msg salt) (length_enc_b pk (pkh_of p pk) msg salt)

    -- c2 is C mod q
    pub ct_C : ct_c p (ciphertext p pk msg salt) ≡ residues p.q (enc_c p pk (pkh_of p pk) msg salt)
    ct_C = ap (unpacked p.d) ct_c2_lem ∙ packed_back p valid 8 (enc_c p pk (pkh_of p pk) msg salt) (length_enc_c pk (pkh_of p pk) msg salt)

    -- the secret has its length
    pub length_shared_secret : length (shared_secret p pk msg salt) ≡ p.secret
    unfolding shared_secret
    length_shared_secret = length_hash p valid (ciphertext p pk msg salt ++ enc_k p (pkh_of p pk) msg salt) p.secret

  -- what any bytes open to is as long as a message
  pub length_decaps_message : (sk ct : List ℕ) → length (decaps_message p sk ct) ≡ p.secret
  unfolding decaps_message
  length_decaps_message sk ct = length_decoded (coding p valid) 8 (opened p sk ct) (length_opened sk ct) ∙ sym valid.message_is

  -- and as a secret
  pub length_decaps_secret : (sk ct : List ℕ) → length (decaps_secret p sk ct) ≡ p.secret
  unfolding decaps_secret
  length_decaps_secret sk ct = length_hash p valid (ct ++ decaps_k p sk ct (decaps_message p sk ct)) p.secret

  -- and a message's bytes are bytes
  pub below_decaps_message : (sk ct : List ℕ) → Below 256 (decaps_message p sk ct)
  unfolding decaps_message decoded
  below_decaps_message sk ct = below_message p.b (map (group_of p.q p.b) (opened p sk ct))
