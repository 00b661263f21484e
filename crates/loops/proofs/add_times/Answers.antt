-- `loops::add_times` meets its contract: after j turns the first j words have their product added.
-- Assumes nothing.
use native.Mathlib.Omega.{arith}
use mathlib.Core.Path.{◌≡◌, sym, ap, ◌∙◌}
use Prim.Native.Nat.{ℕ, ◌+◌, ◌*◌, ◌%◌}
use lib.ListN.{length, get_or}
use Rattle.lists.specs.Lists.{tab}
use Rattle.lists.proofs.Tables.{map_of_tab}
use Rattle.lists.proofs.Loops.{more, past, all}
use Rattle.loops.proofs.add_times.Goals as goal

pub loop-j-preserved : goal.loop-j-preserved
loop-j-preserved c = let l = c.loop-j in
    let a = c.args in (
      omega arith,
      l.invariant.1,
      more l.invariant.2 (omega arith)
          (c.mac.ensures ∙ ap (λ (z : ℕ). (z + a.x * get_or a.row.now l.j 0) % 65536) (past l.invariant.2 l.j (omega arith) (omega arith))),
    )

pub returns : goal.returns
returns c = let l = c.loop-j in
    let a = c.args in
    let q : length a.out.now ≡ length a.row.now = omega arith in
    all l.invariant.2 (omega arith) ∙ ap (λ (n : ℕ). tab n (λ k. (get_or a.out.now k 0 + a.x * get_or a.row.now k 0) % 65536)) q
    ∙ sym (map_of_tab (λ w. w % 65536) (length a.row.now) (λ k. get_or a.out.now k 0 + a.x * get_or a.row.now k 0))
