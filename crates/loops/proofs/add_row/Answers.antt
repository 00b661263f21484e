-- `loops::add_row` meets its contract: after i turns the first i rows have their product added.
-- Assumes nothing.
use native.Mathlib.Omega.{arith}
use mathlib.Core.Path.{◌≡◌, ap, ◌∙◌}
use mathlib.Core.List.{List}
use Prim.Native.Nat.{ℕ, ◌+◌, ◌*◌, ◌≤◌}
use lib.ListN.{length, get_or}
use Rattle.lists.specs.Lists.{tab, residues}
use Rattle.lists.proofs.Tables.{tab_cong}
use Rattle.algebra.proofs.Products.{within}
use Rattle.algebra.proofs.Turns.{Rows, rows_more, rows_held, rows_all, part}
use Rattle.loops.proofs.add_row.Goals as goal
use Rattle.loops.proofs.add_row.Goals.{In-loop-i}
use Rattle.loops.proofs.add_row.Invariants.{added}

-- what `add_times` makes of row i, from what it held
grown : {n i : ℕ} (s row : List ℕ) (k : ℕ) {d e ys : List ℕ} → Rows 65536 n (added n d s row k) i d e → length row ≡ n
    → ys ≡ residues 65536 (tab (length row) (λ j. get_or (part n i e) j 0 + get_or s (i * n + k) 0 * get_or row j 0))
    → ys ≡ residues 65536 (tab n (added n d s row k i))
grown {n} {i} s row k {d} {e} r q h =
    h
    ∙ ap (λ (z : ℕ). residues 65536 (tab z (λ j. get_or (part n i e) j 0 + get_or s (i * n + k) 0 * get_or row j 0))) q
    ∙ ap (residues 65536) (tab_cong n (λ j. get_or (part n i e) j 0 + get_or s (i * n + k) 0 * get_or row j 0) (added n d s row k i)
    (λ j l. ap (λ (z : ℕ). z + get_or s (i * n + k) 0 * get_or row j 0) (rows_held r j l)))

-- row i lies within the eight
fits : (c : In-loop-i) → let n = c.args.n in (c.loop-i.i * n + n ≤ 8 * n) × (length c.loop-i.out ≡ 8 * n)
fits c = (within c.loop-i.i 8 c.args.n (omega arith), omega (arith, c.loop-i.invariant.1.upto.len))

pub loop-i-preserved : goal.loop-i-preserved
loop-i-preserved c = let a = c.args in
    (omega arith, rows_more c.loop-i.invariant.1 (omega (arith, fits (goal.at.loop-i-preserved c).In-loop-i)) (grown a.s.now a.row.now a.k c.loop-i.invariant.1 (omega arith) c.add_times.ensures))

pub returns : goal.returns
returns c = rows_all 8 c.loop-i.invariant.1 (omega arith) (omega arith)
