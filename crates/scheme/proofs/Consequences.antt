-- What follows from the third demand and from the layouts: a group depends on its own entry alone, a ciphertext tells its salt, and the law behind repair.
-- Assumes nothing.
use mathlib.Core.Path.{◌≡◌, sym, ap, ◌∙◌}
use mathlib.Core.List.{List}
use Prim.Native.Nat.{ℕ, ◌+◌, ◌*◌, ◌^◌, ◌<◌}
use lib.IntN.{pos, ◌+ℤ◌}
use lib.ListN.{length, get_or}
use Rattle.algebra.specs.Whole.{floor_div, modulo}
use Rattle.sets.specs.Sets.{Valid}
use Rattle.sets.specs.declared.Params.{Params}
use Rattle.message.specs.Message.{half, groups_of}
use Rattle.scheme.specs.KeyGen.{public_key, secret_key}
use Rattle.scheme.specs.Encaps.{ciphertext, shared_secret}
use Rattle.scheme.specs.Decaps.{sk_pk, ct_salt, decaps_message}
use Rattle.scheme.specs.Noise.{centred_at}
use Rattle.scheme.specs.Demand3.{sealed, recovered_message, Demand3}
use Rattle.scheme.proofs.Keys.{sk_pk_lem}
use Rattle.scheme.proofs.Ciphertexts.{ct_salt_lem}

-- two sealings that send one group at an entry and have one noise there get one group back there, whatever they have elsewhere
pub group_alone : {p : Params} {seed msg salt seed' msg' salt' : List ℕ} → Demand3 p seed msg salt → Demand3 p seed' msg' salt'
    → (i j : ℕ) → i < 8 → j < 8
    → get_or (groups_of p.b msg) (i * 8 + j) 0 ≡ get_or (groups_of p.b msg') (i * 8 + j) 0
    → centred_at p seed msg salt i j ≡ centred_at p seed' msg' salt' i j
    → get_or (groups_of p.b (recovered_message p seed msg salt)) (i * 8 + j) 0
    ≡ get_or (groups_of p.b (recovered_message p seed' msg' salt')) (i * 8 + j) 0
group_alone {p} d d' i j hi hj sent noise =
    d.groupwise i j hi hj
    ∙ (λ k. modulo (pos (sent k) +ℤ floor_div (noise k +ℤ pos (half p.q p.b)) (2 * half p.q p.b)) (2 ^ p.b))
    ∙ sym (d'.groupwise i j hi hj)

-- one ciphertext has one salt
pub same_salt : (p : Params) → Valid p → (pk msg salt pk' msg' salt' : List ℕ) → ciphertext p pk msg salt ≡ ciphertext p pk' msg' salt' → salt ≡ salt'
same_salt p valid pk msg salt pk' msg' salt' e = sym (ct_salt_lem p valid pk msg salt) ∙ ap (ct_salt p) e ∙ ct_salt_lem p valid pk' msg' salt'

-- ---- repair: any bytes that a generated key opens to a sealed message, and that carry its salt, tell the sealed ciphertext and its secret

module _ (p : Params) (valid : Valid p) (seed msg salt ct : List ℕ) (enough : length seed ≡ p.seed)
    (opens : decaps_message p (secret_key p seed) ct ≡ msg) (carries : ct_salt p ct ≡ salt) where
  -- sealing again what they open to, with the salt that they carry, under the public key in the secret key, gives the sealed ciphertext
  pub resealed : ciphertext p (sk_pk p (secret_key p seed)) (decaps_message p (secret_key p seed) ct) (ct_salt p ct) ≡ sealed p seed msg salt
  resealed = λ i. ciphertext p (sk_pk_lem p valid seed enough i) (opens i) (carries i)

  -- and the sealed secret
  pub resealed-secret : shared_secret p (sk_pk p (secret_key p seed)) (decaps_message p (secret_key p seed) ct) (ct_salt p ct) ≡ shared_secret p (public_key p seed) msg salt
  resealed-secret = λ i. shared_secret p (sk_pk_lem p valid seed enough i) (opens i) (carries i)
