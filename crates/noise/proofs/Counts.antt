-- The laws by which code without branches counts the entries below t.
-- Assumes nothing.
use mathlib.Core.Path.{◌≡◌, refl, sym, ap, ◌∙◌, subst}
use mathlib.Core.Bool.{Bool, true, false}
use mathlib.Core.List.{List, [], ◌∷◌, ◌++◌}
use Prim.Native.Nat.{ℕ, ◌+◌, ◌*◌, ◌-◌, ◌/◌, ◌≤◌, ◌<◌}
use native.Mathlib.Nat.{mul-le-mul_right, one-mul}
use native.Mathlib.Numerals.{add-one}
use native.Mathlib.Omega.{arith}
use borrow.Author.Tests.{ltb-true, ltb-false}
use lib.Dec.{ltb}
use lib.ListN.{length, take, get_or}
use lib.Seq.{take-suc}
use Rattle.noise.specs.Noise.{one, count_below}

-- the carry of t + 65535 - x says whether x is below t
pub carry : (x t : ℕ) → x < 65536 → t < 65536 → (t + 65535 - x) / 65536 ≡ one (ltb x t)
carry x t hx ht = cases (ltb x t) refl
  where
    cases : (b : Bool) → ltb x t ≡ b → (t + 65535 - x) / 65536 ≡ one b
    cases true e = omega (arith, ltb-true x t e)
    cases false e = omega (arith, ltb-false x t e)

-- a factor of 0 or 1 makes nothing larger
pub factor_le : (odd a : ℕ) → odd < 2 → odd * a ≤ a
factor_le odd a h = subst (λ (n : ℕ). odd * a ≤ n) (one-mul a) (mul-le-mul_right a (omega arith))

-- the counts of two tables in a row add up
count_append : (t : ℕ) (xs ys : List ℕ) → count_below t (xs ++ ys) ≡ count_below t xs + count_below t ys
unfolding count_below
count_append t [] ys = omega arith
count_append t (x ∷ xs) ys = ap (λ (k : ℕ). one (ltb x t) + k) (count_append t xs ys) ∙ omega arith

-- one entry more is counted
pub count_more : (t : ℕ) (xs : List ℕ) (i : ℕ) → i < length xs → count_below t (take i xs) + one (ltb (get_or xs i 0) t) ≡ count_below t (take (i + 1) xs)
unfolding count_below
count_more t xs i h =
    sym (ap (count_below t) (ap (λ (k : ℕ). take k xs) (add-one i) ∙ take-suc xs i 0 h) ∙ count_append t (take i xs) (get_or xs i 0 ∷ []) ∙ omega arith)
