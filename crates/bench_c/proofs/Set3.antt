-- Set 3's parameters are valid, and its n is 1344.
-- Assumes nothing.
use mathlib.Core.Path.{◌≡◌, sym, ap, subst}
use Rattle.sets.specs.Sets.{frodo1344, params_of, Valid}
use Rattle.sets.specs.declared.Params.{Params}
use Rattle.sets.proofs.Facts.{valid}

pub valid_3 : {p : Params} → p ≡ frodo1344 → Valid p
unfolding params_of
valid_3 e = subst Valid (sym e) (valid 3)

pub n_3 : {p : Params} → p ≡ frodo1344 → p.n ≡ 1344
n_3 e = ap (λ (x : Params). x.n) e
