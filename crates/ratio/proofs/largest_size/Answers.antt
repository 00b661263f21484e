-- `ratio::largest_size` meets its contract: `size` is the largest of the sizes of the words so far.
-- Assumes nothing.
use mathlib.Core.Path.{◌≡◌, refl, sym, ap, ap₂, ◌∙◌}
use Prim.Native.Nat.{ℕ, max}
use native.Mathlib.Omega.{arith}
use lib.ListN.{length, get_or}
use Rattle.std.specs.Ordering.{nat_cmp, ord_max}
use Rattle.std.proofs.lemmas.Grind.{common_steps}
use Rattle.scheme.specs.Margin.{largest, size_of, largest_size}
use Rattle.scheme.proofs.Margin.{largest_next}
use Rattle.ratio.proofs.largest_size.Goals as goal

-- std's larger of two numbers
larger : (a b : ℕ) → ord_max nat_cmp a b ≡ max a b
larger a b = grind (arith, common_steps)

pub loop-x-init : goal.loop-x-init
unfolding largest
loop-x-init c = refl

pub loop-x-preserved : goal.loop-x-preserved
loop-x-preserved c =
    let l = c.loop-x in
    c.max-size.ensures ∙ larger l.size c.size_of.result ∙ ap₂ max l.invariant c.size_of.ensures ∙ sym (largest_next l.x-index _)

pub returns : goal.returns
unfolding largest_size
returns c =
    let l = c.loop-x in
    let a = c.args in
    let end : l.x-index ≡ length a.words.now = omega arith in
    l.invariant ∙ ap (λ (n : ℕ). largest n (λ t. size_of a.q (get_or a.words.now t 0))) end
