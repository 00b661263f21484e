-- Every length of every set fits into 16 bits, and so into C's uint32_t.
-- Assumes nothing.
use mathlib.Core.Bool.{Bool, true, false, cond}
use Prim.Native.Nat.{ℕ}
use native.Mathlib.Omega.{arith}
use lib.Dec.{eqb}
use Rattle.sets.specs.Sets.{frodo640, frodo976, frodo1344, known, params_of}
use Rattle.frodo.specs.SetLengths.{lengths_of, no_lengths, lengths_for}
use Rattle.frodo_c.specs.Table.{Fits}

either : {A : Type 0} (P : A → Type 0) (b : Bool) {x y : A} → P x → P y → P (cond b x y)
either P true p q = p
either P false p q = q

fits_640 : Fits (lengths_of frodo640)
fits_640 = search arith

fits_976 : Fits (lengths_of frodo976)
fits_976 = search arith

fits_1344 : Fits (lengths_of frodo1344)
fits_1344 = search arith

fits_none : Fits no_lengths
fits_none = search arith

fits_of : (set : ℕ) → Fits (lengths_of (params_of set))
unfolding params_of
fits_of set = either (λ p. Fits (lengths_of p)) (eqb set 1) fits_640 (either (λ p. Fits (lengths_of p)) (eqb set 2) fits_976 fits_1344)

pub fits : (set : ℕ) → Fits (lengths_for set)
unfolding lengths_for
fits set = either Fits (known set) (fits_of set) fits_none
