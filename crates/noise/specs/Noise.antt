-- FrodoKEM standard proposal (2023), Frodo.Sample, with the tables of docs/RULES.md, 4.5.
-- From a word r take t = floor(r/2): the size is the count of table entries below t, the last entry left out; an odd r negates it. A sample is a signed whole number.
-- Assumes nothing.
use Rattle.std.specs.Prelude.{Bool, true, false, List, [], ◌∷◌, ℕ, zero, suc, ◌+◌, ◌-◌, ◌/◌, ◌%◌, ltb, ℤ, pos, neg_ℤ, length, take}
use Rattle.sets.specs.declared.Chi.{Chi}
use Rattle.sets.specs.declared.Chi.TheVariants.{Frodo640, Frodo976, Frodo1344}

-- 1 for a test that holds
abbrev pub one : Bool → ℕ
one true = 1
one false = 0

-- how many of xs are below t
unfoldable pub count_below : ℕ → List ℕ → ℕ
count_below t [] = 0
count_below t (x ∷ xs) = one (ltb x t) + count_below t xs

-- size, or -size where odd is not 0
unfoldable pub signed : (odd size : ℕ) → ℤ
signed zero size = pos size
signed (suc k) size = neg_ℤ (pos size)

-- the noise of a word, by a table
unfoldable pub sampled : List ℕ → ℕ → ℤ
sampled table r = signed (r % 2) (count_below (r / 2) (take (length table - 1) table))

-- the tables
abbrev pub table_of : Chi → List ℕ
table_of Frodo640 = 4643 ∷ 13363 ∷ 20579 ∷ 25843 ∷ 29227 ∷ 31145 ∷ 32103 ∷ 32525 ∷ 32689 ∷ 32745 ∷ 32762 ∷ 32766 ∷ 32767 ∷ []
table_of Frodo976 = 5638 ∷ 15915 ∷ 23689 ∷ 28571 ∷ 31116 ∷ 32217 ∷ 32613 ∷ 32731 ∷ 32760 ∷ 32766 ∷ 32767 ∷ []
table_of Frodo1344 = 9142 ∷ 23462 ∷ 30338 ∷ 32361 ∷ 32725 ∷ 32765 ∷ 32767 ∷ []

-- the largest size of a sample
abbrev pub largest_of : Chi → ℕ
largest_of Frodo640 = 12
largest_of Frodo976 = 10
largest_of Frodo1344 = 6
