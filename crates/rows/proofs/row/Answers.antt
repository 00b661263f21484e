-- `rows::row` meets its contract.
-- Assumes nothing.
use native.Mathlib.Omega.{arith}
use mathlib.Core.Path.{◌≡◌, ap, ap₂, ◌∙◌}
use Prim.Native.Nat.{ℕ}
use lib.ListN.{length}
use Rattle.lists.specs.Lists.{residues}
use Rattle.rows.specs.Row.{row_words, row}
use Rattle.rows.proofs.row.Goals as goal

pub returns : goal.returns
unfolding row
returns c = let a = c.args in
    let n : length a.out.now ≡ a.set.p.n = omega arith in
    c.low_all.ensures
    ∙ ap₂ residues c.modulus.ensures (c.row_words.ensures ∙ ap (λ (z : ℕ). row_words z a.seed.now a.i) n)
