-- What decapsulation leaves in what it was lent (docs/RULES.md, 4.10 and 3.3).
-- Lists are named as on entry, and with ' as on exit.
-- Assumes nothing.
use Rattle.std.specs.Prelude.{◌≡◌, List, ℕ}
use Rattle.lists.specs.Lists.{wiped}
use Rattle.sets.specs.declared.Params.{Params}
use Rattle.scheme.specs.Decaps.{decaps_message, decaps_secret}

pub record DecapsMade (p : Params) (sk ct noise work ss' msg' noise' work' : List ℕ) : Type 0 where
  pub ss_is : ss' ≡ decaps_secret p sk ct
  pub msg_is : msg' ≡ decaps_message p sk ct
  pub noise_is : noise' ≡ wiped p.noise noise
  pub work_is : work' ≡ wiped p.work work

pub record DecapsSecretMade (p : Params) (sk ct noise work ss' noise' work' : List ℕ) : Type 0 where
  pub ss_is : ss' ≡ decaps_secret p sk ct
  pub noise_is : noise' ≡ wiped p.noise noise
  pub work_is : work' ≡ wiped p.work work
