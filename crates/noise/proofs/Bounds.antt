-- How large a sample can be: no larger than its table has entries, the last left out. From that the number of each table, and that some word reaches it.
-- Assumes nothing.
use mathlib.Core.Path.{◌≡◌, refl}
use mathlib.Core.List.{List, [], ◌∷◌}
use mathlib.Core.Bool.{Bool, true, false}
use Prim.Native.Nat.{ℕ, zero, suc, ◌-◌, ◌/◌, ◌%◌, ◌≤◌}
use native.Mathlib.Omega.{arith}
use lib.Dec.{ltb}
use lib.IntN.{pos, neg_ℤ, nat_abs}
use lib.ListN.{length, take, length-take}
use Rattle.sets.specs.declared.Chi.{Chi}
use Rattle.sets.specs.declared.Chi.TheVariants.{Frodo640, Frodo976, Frodo1344}
use Rattle.noise.specs.Noise.{one, count_below, signed, sampled, table_of, largest_of}

-- a test counts at most once
one_le : (b : Bool) → one b ≤ 1
one_le true = omega arith
one_le false = omega arith

-- at most as many entries are below t as there are
pub count_le : (t : ℕ) (xs : List ℕ) → count_below t xs ≤ length xs
unfolding count_below
count_le t [] = omega arith
count_le t (x ∷ xs) = omega (arith, one_le (ltb x t), count_le t xs)

-- a sign leaves the size
neg_size : (n : ℕ) → nat_abs (neg_ℤ (pos n)) ≡ n
neg_size zero = refl
neg_size (suc n) = refl

signed_size : (odd size : ℕ) → nat_abs (signed odd size) ≡ size
unfolding signed
signed_size zero size = refl
signed_size (suc k) size = neg_size size

-- of any table
pub sampled_size : (table : List ℕ) (r : ℕ) → nat_abs (sampled table r) ≤ length table - 1
unfolding sampled
sampled_size table r =
    let counted = take (length table - 1) table in
    omega (arith, signed_size (r % 2) (count_below (r / 2) counted), count_le (r / 2) counted, length-take (length table - 1) table)

-- of the three
pub table_size : (chi : Chi) → length (table_of chi) - 1 ≡ largest_of chi
table_size Frodo640 = refl
table_size Frodo976 = refl
table_size Frodo1344 = refl

pub sample_size : (chi : Chi) (r : ℕ) → nat_abs (sampled (table_of chi) r) ≤ largest_of chi
sample_size chi r = omega (arith, sampled_size (table_of chi) r, table_size chi)

-- set by set
pub sample640 : (r : ℕ) → nat_abs (sampled (table_of Frodo640) r) ≤ 12
sample640 = sample_size Frodo640

pub sample976 : (r : ℕ) → nat_abs (sampled (table_of Frodo976) r) ≤ 10
sample976 = sample_size Frodo976

pub sample1344 : (r : ℕ) → nat_abs (sampled (table_of Frodo1344) r) ≤ 6
sample1344 = sample_size Frodo1344

-- no smaller number would do: the two largest words reach it, one with each sign
pub reached : (chi : Chi) → (sampled (table_of chi) 65534 ≡ pos (largest_of chi)) × (sampled (table_of chi) 65535 ≡ neg_ℤ (pos (largest_of chi)))
unfolding sampled signed count_below
reached Frodo640 = (refl, refl)
reached Frodo976 = (refl, refl)
reached Frodo1344 = (refl, refl)
