-- `ratio::all_in_range` meets its contract: `kept` says whether the words so far are in range.
-- Assumes nothing.
use mathlib.Core.Path.{◌≡◌, refl, sym, ap, ap₂, ◌∙◌}
use mathlib.Core.Bool.{Bool, ◌&&◌}
use Prim.Native.Nat.{ℕ}
use native.Mathlib.Omega.{arith}
use lib.ListN.{length, get_or}
use Rattle.algebra.specs.Whole.{centred}
use Rattle.scheme.specs.Margin.{in_range, every, kept_by}
use Rattle.scheme.proofs.Margin.{every_next}
use Rattle.ratio.proofs.all_in_range.Goals as goal

pub loop-x-init : goal.loop-x-init
unfolding every
loop-x-init c = refl

pub loop-x-preserved : goal.loop-x-preserved
loop-x-preserved c =
    let l = c.loop-x in
    ap₂ (λ (a b : Bool). a && b) l.invariant c.in_range-kept.ensures ∙ sym (every_next l.x-index _)

pub returns : goal.returns
unfolding kept_by
returns c =
    let l = c.loop-x in
    let a = c.args in
    let end : l.x-index ≡ length a.words.now = omega arith in
    l.invariant ∙ ap (λ (n : ℕ). every n (λ t. in_range a.h (centred a.q (get_or a.words.now t 0)))) end
