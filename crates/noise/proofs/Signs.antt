-- A size and its sign as the machine computes them: the difference of two sizes, of which one is 0.
-- Assumes nothing.
use mathlib.Core.Path.{◌≡◌, sym, ap, ap₂, ◌∙◌, subst}
use Prim.Native.Nat.{ℕ, zero, suc, ◌*◌, ◌-◌, ◌≤◌, ◌<◌}
use native.Mathlib.Nat.{le_of_suc-le-suc, not-suc-le-zero, zero-mul, one-mul}
use native.Mathlib.Omega.{arith}
use lib.IntN.{ℤ, pos, neg_ℤ, ◌-ℤ◌, +ℤ_idl}
use lib.Signed.{mag}
use mir.Syntax.{w16}
use mir.Val.{SFits, to_z, of_z}
use mir.Facts.{to_z_pos, to_z-of_z}
use Rattle.noise.specs.Noise.{signed}

-- of size and -size one counts, by a factor of 0 or 1 each
turned : (odd size : ℕ) → odd < 2 → pos ((1 - odd) * size) -ℤ pos (odd * size) ≡ signed odd size
unfolding signed
turned zero size h = rw (one-mul size, zero-mul size) (ap pos (omega arith))
turned (suc zero) size h = rw (one-mul size, zero-mul size) (+ℤ_idl (neg_ℤ (pos size)))
turned (suc (suc odd)) size h = absurd (not-suc-le-zero (le_of_suc-le-suc (le_of_suc-le-suc h)))

-- both fit 16 bits
neg_fits : (n : ℕ) → n < 32768 → mag (neg_ℤ (pos n)) < 32768
neg_fits zero h = h
neg_fits (suc n) h = omega arith

signed_fits : (odd size : ℕ) → size < 32768 → SFits w16 (signed odd size)
unfolding signed
signed_fits zero size h = record { sfits = h }
signed_fits (suc k) size h = record { sfits = neg_fits size h }

module _ (odd size : ℕ) (h : odd < 2) (l : size < 32768) (plus : (1 - odd) * size ≤ size) (minus : odd * size ≤ size) where
  -- the machine's difference
  either : to_z w16 ((1 - odd) * size) -ℤ to_z w16 (odd * size) ≡ signed odd size
  either =
      ap₂ (λ (a b : ℤ). a -ℤ b) (to_z_pos w16 {n = (1 - odd) * size} (omega arith)) (to_z_pos w16 {n = odd * size} (omega arith))
      ∙ turned odd size h

  pub either_fits : SFits w16 (to_z w16 ((1 - odd) * size) -ℤ to_z w16 (odd * size))
  either_fits = subst (SFits w16) (sym either) (signed_fits odd size l)

  pub either_is : to_z w16 (of_z w16 (to_z w16 ((1 - odd) * size) -ℤ to_z w16 (odd * size))) ≡ signed odd size
  either_is = to_z-of_z either_fits ∙ either
