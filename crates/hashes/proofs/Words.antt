-- A signed number mod 2^16 as the machine computes it: 2^16 is added first, so that the number whose remainder is taken has no sign.
-- Assumes nothing.
use mathlib.Core.Path.{◌≡◌, sym, ap, ◌∙◌, subst}
use Prim.Native.Nat.{ℕ, suc, ◌+◌, ◌-◌, ◌%◌, ◌<◌}
use native.Mathlib.Omega.{arith}
use lib.IntN.{ℤ, pos, negsuc, nat_abs, ◌+ℤ◌}
use lib.Signed.{mag}
use mir.Syntax.{w16, w32}
use mir.Val.{SFits, to_z, of_z}
use mir.Facts.{to_z-of_z}
use Rattle.algebra.proofs.Wholes.{at_least}
use Rattle.scheme.specs.Parts.{stored}

abbrev lifted : ℤ → ℕ
lifted (pos n) = n + 65536
lifted (negsuc n) = 65536 - suc n

lift : (x : ℤ) → mag x < 32768 → x +ℤ pos 65536 ≡ pos (lifted x)
lift (pos n) h = ap pos (omega arith)
lift (negsuc n) h = at_least 65536 (suc n) (omega arith)

lift_lt : (x : ℤ) → mag x < 32768 → lifted x < 131072
lift_lt (pos n) h = omega arith
lift_lt (negsuc n) h = omega arith

-- the remainder is as it was
lift_mod : (x : ℤ) → mag x < 32768 → lifted x % 65536 ≡ stored x
unfolding stored
lift_mod (pos n) h = omega arith
lift_mod (negsuc n) h = omega arith

module _ (x : ℤ) (f : SFits w16 x) where
  -- the machine reads x, widens it, and reads it again
  wide : SFits w32 x
  wide = record { sfits = omega (arith, f.sfits) }

  pub read_fits : SFits w32 (to_z w16 (of_z w16 x))
  read_fits = subst (SFits w32) (sym (to_z-of_z f)) wide

  abbrev again : ℤ
  again = to_z w32 (of_z w32 (to_z w16 (of_z w16 x)))

  sum_is : again +ℤ pos 65536 ≡ pos (lifted x)
  sum_is = ap (λ (z : ℤ). z +ℤ pos 65536) (to_z-of_z read_fits ∙ to_z-of_z f) ∙ lift x f.sfits

  pub sum_fits : SFits w32 (again +ℤ pos 65536)
  sum_fits = subst (SFits w32) (sym sum_is) (record { sfits = omega (arith, lift_lt x f.sfits) })

  back : to_z w32 (of_z w32 (again +ℤ pos 65536)) ≡ pos (lifted x)
  back = to_z-of_z sum_fits ∙ sum_is

  pub stored_is : nat_abs (to_z w32 (of_z w32 (again +ℤ pos 65536))) % 65536 ≡ stored x
  stored_is = ap (λ (z : ℤ). nat_abs z % 65536) back ∙ lift_mod x f.sfits
