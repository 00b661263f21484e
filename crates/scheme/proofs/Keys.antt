-- What a generated key holds, and where: the layout and the lengths of both keys.
-- Assumes nothing.
use mathlib.Core.Path.{◌≡◌, sym, ap, ◌∙◌}
use mathlib.Core.List.{List, ◌∷◌, ◌++◌}
use Prim.Native.Nat.{ℕ, ◌+◌, ◌*◌}
use native.Mathlib.Omega.{arith}
use lib.ListN.{length, take, drop, length-append}
use lib.Seq.{take_at, drop_at, drop-drop, length-take-le}
use Rattle.lists.specs.Lists.{residues}
use Rattle.lists.proofs.Spans.{part_at, rest_at}
use Rattle.bits.specs.Little.{words_of, bytes_of}
use Rattle.bits.proofs.Little.{length_bytes, words_bytes}
use Rattle.algebra.proofs.Tables.{length_table}
use Rattle.sets.specs.Sets.{Valid}
use Rattle.sets.specs.declared.Params.{Params}
use Rattle.codec.specs.Pack.{packed, unpacked}
use Rattle.codec.proofs.RoundTrip.{length_packed}
use Rattle.scheme.specs.Parts.{pkh_of}
use Rattle.scheme.specs.KeyGen.{seed_s, seed_se, seed_z, key_seed_a, key_noise, key_s, key_b, public_key, secret_key}
use Rattle.scheme.specs.Encaps.{pk_seed_a, pk_b}
use Rattle.scheme.specs.Decaps.{sk_random_s, sk_pk, sk_matrix_s, sk_pkh}
use Rattle.scheme.proofs.Parts.{length_hash, length_noise, packed_back}

-- what stands behind the public key in the secret key
abbrev behind : (p : Params) (seed : List ℕ) → List ℕ
behind p seed = bytes_of (key_s p seed) ++ pkh_of p (public_key p seed)

module _ (p : Params) (valid : Valid p) (seed : List ℕ) where
  -- ---- the public key

  -- seedA has 16 bytes, the noise 16n words, S and B 8n words each
  pub length_seed_a : length (key_seed_a p seed) ≡ 16
  unfolding key_seed_a
  length_seed_a = length_hash p valid (seed_z p seed) 16

  pub length_key_noise : length (key_noise p seed) ≡ 16 * p.n
  unfolding key_noise
  length_key_noise = length_noise p valid (0x5F ∷ seed_se p seed) (16 * p.n)

  pub length_key_s : length (key_s p seed) ≡ 8 * p.n
  length_key_s = length-take-le (8 * p.n) (key_noise p seed) (omega (arith, length_key_noise))

  pub length_key_b : length (key_b p seed) ≡ 8 * p.n
  unfolding key_b
  length_key_b = length_table p.n 8 _ ∙ omega arith

  -- the public key has its length
  pub length_public_key : length (public_key p seed) ≡ p.pk
  unfolding public_key
  length_public_key =
      length-append (key_seed_a p seed) (packed p.d (key_b p seed))
      ∙ omega (arith, length_seed_a, length_packed p.d p.n (key_b p seed) length_key_b, valid.pk_is)

  -- it begins with seedA
  pub pk_seed_a_lem : pk_seed_a (public_key p seed) ≡ key_seed_a p seed
  unfolding public_key
  pk_seed_a_lem = take_at (key_seed_a p seed) (packed p.d (key_b p seed)) 16 length_seed_a

  -- and then has B mod q
  pub pk_B : pk_b p (public_key p seed) ≡ residues p.q (key_b p seed)
  unfolding public_key
  pk_B =
      ap (unpacked p.d) (drop_at (key_seed_a p seed) (packed p.d (key_b p seed)) 16 length_seed_a)
      ∙ packed_back p valid p.n (key_b p seed) length_key_b

  -- ---- the secret key

  module _ (enough : length seed ≡ p.seed) where
    length_s : length (seed_s p seed) ≡ p.secret
    length_s = length-take-le p.secret seed (omega (arith, valid.seed_is))

    length_S : length (bytes_of (key_s p seed)) ≡ 16 * p.n
    length_S = length_bytes (key_s p seed) ∙ omega (arith, length_key_s)

    -- the secret key has its length
    pub length_secret_key : length (secret_key p seed) ≡ p.sk
    unfolding secret_key
    length_secret_key =
        length-append (seed_s p seed) (public_key p seed ++ behind p seed)
        ∙ omega (arith, length_s, length-append (public_key p seed) (behind p seed), length_public_key, length-append (bytes_of (key_s p seed)) (pkh_of p (public_key p seed)), length_S, length_hash p valid (public_key p seed) p.secret, valid.sk_is)

    -- it begins with s
    pub sk_random_s_lem : sk_random_s p (secret_key p seed) ≡ seed_s p seed
    unfolding secret_key
    sk_random_s_lem = take_at (seed_s p seed) (public_key p seed ++ behind p seed) p.secret length_s

    -- then it has the public key
    pub sk_pk_lem : sk_pk p (secret_key p seed) ≡ public_key p seed
    unfolding secret_key
    sk_pk_lem = part_at (seed_s p seed) (public_key p seed) (behind p seed) p.secret p.pk length_s length_public_key

    sk_rest : drop (p.secret + p.pk) (secret_key p seed) ≡ behind p seed
    unfolding secret_key
    sk_rest = rest_at (seed_s p seed) (public_key p seed) (behind p seed) p.secret p.pk length_s length_public_key

    -- then S, with all 16 bits of its words
    pub sk_matrix_s_lem : sk_matrix_s p (secret_key p seed) ≡ key_s p seed
    sk_matrix_s_lem =
        ap (λ (l : List ℕ). words_of (take (16 * p.n) l)) sk_rest
        ∙ ap words_of (take_at (bytes_of (key_s p seed)) (pkh_of p (public_key p seed)) (16 * p.n) length_S)
        ∙ words_bytes (key_s p seed)

    -- and last pkh
    pub sk_pkh_lem : sk_pkh p (secret_key p seed) ≡ pkh_of p (public_key p seed)
    sk_pkh_lem =
        sym (drop-drop (16 * p.n) (p.secret + p.pk) (secret_key p seed))
        ∙ ap (drop (16 * p.n)) sk_rest
        ∙ drop_at (bytes_of (key_s p seed)) (pkh_of p (public_key p seed)) (16 * p.n) length_S

    -- a generated key passes: the pkh that a generated key holds is the hash of the public key that it holds
    pub key-passes : sk_pkh p (secret_key p seed) ≡ pkh_of p (sk_pk p (secret_key p seed))
    key-passes = sk_pkh_lem ∙ ap (pkh_of p) (sym sk_pk_lem)
