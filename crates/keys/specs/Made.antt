-- What the public key and its matrices ask and leave in what they were lent (docs/RULES.md, 4.8). Lists are named as on entry, and with ' as on exit.
-- Assumes nothing.
use Rattle.std.specs.Prelude.{◌≡◌, List, ◌++◌, ℕ, ◌*◌, take, drop}
use Rattle.lists.specs.Lists.{residues}
use Rattle.sets.specs.Sets.{Valid}
use Rattle.sets.specs.declared.Params.{Params}
use Rattle.lengths.specs.Sized.{Scratch}
use Rattle.scheme.specs.KeyGen.{key_noise, key_b, public_key}

-- a seed of the right length, and room in both scratches
pub record MatrixSized (p : Params) (seed noise work : ℕ) : Type 0 where
  pub valid : Valid p
  pub seed_long : seed ≡ p.seed
  pub scratch : Scratch p noise work

-- S and E stand in the noise scratch, and B mod 2^16 in the work scratch, where n words behind it held rows of A; the rest is as it was
pub record MatrixMade (p : Params) (seed noise work noise' work' : List ℕ) : Type 0 where
  pub noise_is : noise' ≡ key_noise p seed ++ drop (16 * p.n) noise
  pub b_is : take (8 * p.n) work' ≡ residues 65536 (key_b p seed)
  pub rest_is : drop (9 * p.n) work' ≡ drop (9 * p.n) work

-- the public key, and the scratches as above
pub record PublicMade (p : Params) (seed noise work pk' noise' work' : List ℕ) : Type 0 where
  pub pk_is : pk' ≡ public_key p seed
  pub matrix : MatrixMade p seed noise work noise' work'
