-- What encapsulation leaves when it is done (docs/RULES.md, 4.9 and 3.3): both outputs whole, the scratch's own words zero, and
-- later words of the scratch as they were.
-- Assumes nothing.
use Rattle.std.specs.Prelude.{◌≡◌, List, ℕ}
use Rattle.lists.specs.Lists.{wiped}
use Rattle.sets.specs.declared.Params.{Params}
use Rattle.scheme.specs.Encaps.{ciphertext, shared_secret}

pub record EncapsMade (p : Params) (pk msg salt noise work ct' ss' noise' work' : List ℕ) : Type 0 where
  pub ct_is : ct' ≡ ciphertext p pk msg salt
  pub ss_is : ss' ≡ shared_secret p pk msg salt
  pub noise_is : noise' ≡ wiped p.noise noise
  pub work_is : work' ≡ wiped p.work work
