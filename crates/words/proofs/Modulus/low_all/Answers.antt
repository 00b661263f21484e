-- `words::Modulus::low_all` meets its contract: after i turns the first i words are taken mod q.
-- Assumes nothing.
use Prim.Native.Nat.{ℕ, ◌%◌}
use native.Mathlib.Omega.{arith}
use mathlib.Core.Path.{refl, ap, ◌∙◌}
use Rattle.lists.proofs.Loops.{more, past, mapped_all}
use Rattle.words.proofs.Modulus.low_all.Goals as goal

pub loop-x-preserved : goal.loop-x-preserved
loop-x-preserved c =
    let l = c.loop-x in (
      omega arith,
      l.invariant.1,
      more l.invariant.2 (omega arith) (c.low.ensures ∙ ap (λ (z : ℕ). z % c.args.self) (past l.invariant.2 _ (omega arith) (omega arith))),
    )

pub returns : goal.returns
returns c = mapped_all (λ z. z % c.args.self) c.args.s.now c.loop-x.invariant.2 (omega arith) refl
