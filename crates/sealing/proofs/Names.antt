-- The two matrices in the scheme's names: those of a public key, a pkh, a message and a salt.
-- Assumes nothing.
use mathlib.Core.Path.{◌≡◌, refl}
use mathlib.Core.List.{List}
use Prim.Native.Nat.{ℕ}
use lib.ListN.{drop}
use Rattle.sets.specs.declared.Params.{Params}
use Rattle.scheme.specs.Encaps.{pk_seed_a, enc_seed_se, enc_noise, enc_s, enc_e2, enc_b, enc_c}
use Rattle.sealing.specs.Sealing.{mask_noise, mask_b, mask_c}

module _ (p : Params) (pkh msg salt : List ℕ) where
  -- S', E' and E''
  pub enc_noise_lem : enc_noise p pkh msg salt ≡ mask_noise p (enc_seed_se p pkh msg salt)
  unfolding enc_noise mask_noise
  enc_noise_lem = refl

  -- B'
  pub enc_B : (pk : List ℕ) → enc_b p pk pkh msg salt ≡ mask_b p (pk_seed_a pk) (enc_noise p pkh msg salt)
  unfolding enc_b mask_b
  enc_B pk = refl

  -- C
  pub enc_C : (pk : List ℕ) → enc_c p pk pkh msg salt ≡ mask_c p (drop 16 pk) msg (enc_s p pkh msg salt) (enc_e2 p pkh msg salt)
  unfolding enc_c mask_c
  enc_C pk = refl
