-- What key generation leaves in what it was lent (docs/RULES.md, 4.8 and 3.3). Lists are named as on entry, and with ' as on exit.
-- Assumes nothing.
use Rattle.std.specs.Prelude.{◌≡◌, List, ℕ, ◌*◌, length, replicate}
use Rattle.lists.specs.Lists.{wiped}
use Rattle.sets.specs.Sets.{Valid}
use Rattle.sets.specs.declared.Params.{Params}
use Rattle.scheme.specs.KeyGen.{public_key, secret_key}

pub record KeypairMade (p : Params) (seed noise work seed' pk' sk' noise' work' : List ℕ) : Type 0 where
  pub seed_is : seed' ≡ replicate (length seed) 0
  pub pk_is : pk' ≡ public_key p seed
  pub sk_is : sk' ≡ secret_key p seed
  pub noise_is : noise' ≡ wiped p.noise noise
  pub work_is : work' ≡ wiped p.work work

-- lengths of what the secret key is made of, and its own
pub record SecretSized (p : Params) (seed pk s sk : ℕ) : Type 0 where
  pub valid : Valid p
  pub seed_long : seed ≡ p.seed
  pub pk_long : pk ≡ p.pk
  pub s_long : s ≡ 8 * p.n
  pub sk_long : sk ≡ p.sk
