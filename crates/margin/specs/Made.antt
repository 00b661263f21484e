-- What the margin answers, and leaves in what it was lent (docs/RULES.md, 4.11 and 3.3), whole and step by step.
-- Lists are named as on entry, and with ' as on exit.
-- Assumes nothing.
use Rattle.std.specs.Prelude.{◌≡◌, false, List, ◌++◌, ℕ, ◌*◌, take, drop}
use Rattle.std.specs.Float.Ieee.Exact.{HasValue}
use Rattle.lists.specs.Lists.{wiped}
use Rattle.algebra.specs.Congruence.{minus}
use Rattle.algebra.specs.Matrix.{Matrix, mat, mat_t, ◌⊕◌, mul, table}
use Rattle.sets.specs.declared.Params.{Params}
use Rattle.message.specs.Message.{half}
use Rattle.scheme.specs.Parts.{pkh_of}
use Rattle.scheme.specs.KeyGen.{key_noise, key_s, key_e, public_key}
use Rattle.scheme.specs.Encaps.{enc_s, enc_e, enc_e2}
use Rattle.scheme.specs.Margin.{margin_size, kept}
use Rattle.ratio.specs.Answered.{measured_margin}
use Rattle.ratio.specs.declared.Margin.{Margin}

-- ---- the call

pub record MarginMade (p : Params) (seed msg salt noise work : List ℕ) (r : Margin) (noise' work' : List ℕ) : Type 0 where
  pub is : r ≡ measured_margin (margin_size p seed msg salt) (half p.q p.b) (kept p seed msg salt)
  pub exact : HasValue r.ratio false (margin_size p seed msg salt) (half p.q p.b)
  pub noise_is : noise' ≡ wiped p.noise noise
  pub work_is : work' ≡ wiped p.work work

-- ---- its steps

-- pkh of the seed's public key
abbrev pub key_pkh : (p : Params) (seed : List ℕ) → List ℕ
key_pkh p seed = pkh_of p (public_key p seed)

-- the key's pkh; S and E stand in the noise scratch, and what the product from the seed left in the front of the work scratch
pub record KeyMade (p : Params) (seed noise work pkh' noise' work' : List ℕ) : Type 0 where
  pub pkh_is : pkh' ≡ key_pkh p seed
  pub noise_is : noise' ≡ key_noise p seed ++ drop (16 * p.n) noise
  pub rest_is : drop (9 * p.n) work' ≡ drop (9 * p.n) work

-- the same, and S and E in the work scratch too
pub record CopyMade (p : Params) (seed noise work pkh' noise' work' : List ℕ) : Type 0 where
  pub pkh_is : pkh' ≡ key_pkh p seed
  pub noise_is : noise' ≡ key_noise p seed ++ drop (16 * p.n) noise
  pub work_is : work' ≡ key_noise p seed ++ drop (16 * p.n) work

-- S', E and E'' stand in the noise scratch, S and E' in the work scratch; what lies behind is as it was
pub record BothMade (p : Params) (seed msg salt noise work noise' work' : List ℕ) : Type 0 where
  pub S'_is : take (8 * p.n) noise' ≡ enc_s p (key_pkh p seed) msg salt
  pub E_is : take (8 * p.n) (drop (8 * p.n) noise') ≡ key_e p seed
  pub E''_is : take 64 (drop (16 * p.n) noise') ≡ enc_e2 p (key_pkh p seed) msg salt
  pub S_is : take (8 * p.n) work' ≡ key_s p seed
  pub E'_is : take (8 * p.n) (drop (8 * p.n) work') ≡ enc_e p (key_pkh p seed) msg salt
  pub noise_rest : drop p.noise noise' ≡ drop p.noise noise
  pub work_rest : drop p.work work' ≡ drop p.work work

-- S'E + E'', where the noise scratch has S', E and E''
abbrev pub sealing_part : (p : Params) (noise : List ℕ) → Matrix
sealing_part p noise =
    mul p.n (mat p.n (take (8 * p.n) noise)) (mat 8 (take (8 * p.n) (drop (8 * p.n) noise))) ⊕ mat 8 (take 64 (drop (16 * p.n) noise))

-- E'S, where the work scratch has S and E'
abbrev pub key_part : (p : Params) (work : List ℕ) → Matrix
key_part p work = mul p.n (mat p.n (take (8 * p.n) (drop (8 * p.n) work))) (mat_t p.n (take (8 * p.n) work))

-- their difference mod q takes the front of the noise scratch; what lies behind both is as it was
pub record NoiseMade (p : Params) (noise work noise' work' : List ℕ) : Type 0 where
  pub is : take 64 noise' ≡ table 8 8 (λ i j. minus p.q (sealing_part p noise i j) (key_part p work i j))
  pub noise_rest : drop p.noise noise' ≡ drop p.noise noise
  pub work_rest : drop p.work work' ≡ drop p.work work
