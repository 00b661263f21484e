-- FIPS 202 (2015), chi: `chi` is chi, row by row as `chi_row` gives them.
-- Assumes nothing.
use mathlib.Core.List.{List, ◌++◌}
use Prim.Native.Nat.{ℕ}
use lib.ListN.{get_or}
use Rattle.lists.specs.Lists.{tab}
use Rattle.keccak.specs.Keccak.{chi}
use Rattle.keccak.proofs.chi.Goals as goal

-- five lanes, read one by one
abbrev row : List ℕ → List ℕ
row r = tab 5 (λ x. get_or r x 0)

pub returns : goal.returns
unfolding chi
returns c =
    λ i. row (c.chi_row-p.ensures i) ++ (row (c.chi_row-q.ensures i) ++ (row (c.chi_row-r.ensures i) ++ (row (c.chi_row-s.ensures i) ++ row (c.chi_row-t.ensures i))))
