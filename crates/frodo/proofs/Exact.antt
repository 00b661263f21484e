-- A done margin's ratio is its size over h exactly (specs/Exact.antt).
-- Assumes nothing.
use mathlib.Core.Path.{sym, subst}
use mathlib.Core.Bool.{false}
use Prim.Native.Nat.{ℕ, ◌^◌, ◌<◌, ◌≤◌}
use native.Mathlib.Omega.{arith}
use lib.Pow.{pow_mono}
use lib.Ieee.{Float}
use lib.Ieee.Exact.{HasValue}
use Rattle.sets.specs.Sets.{params_of}
use Rattle.sets.proofs.Facts.{valid}
use Rattle.message.specs.Message.{half}
use Rattle.scheme.specs.Margin.{margin_size}
use Rattle.scheme.proofs.Parts.{coding}
use Rattle.scheme.proofs.Margin.{margin_size_below}
use Rattle.ratio.proofs.Quotient.{divided}
use Rattle.ratio.proofs.Halves.{half_power}
use Rattle.frodo.specs.Margin.{MarginLent, MarginLeft}
use Rattle.frodo.specs.Exact.{MarginExact}
use Rattle.frodo.proofs.DoneWhen.{margin_done_left}

-- a set's q is at most 2^16, so the size is a number that an f64 holds
margin_size_small : (i : MarginLent) → margin_size (params_of i.set) i.seed i.msg i.salt < 2 ^ 32
margin_size_small i =
    let p = params_of i.set in
    let k = coding p (valid i.set) in
    let high : p.q ≤ 2 ^ 16 = subst (λ (q : ℕ). q ≤ 2 ^ 16) (sym k.q_is) (pow_mono {j = 16} k.d_high) in
    omega (arith, margin_size_below p i.seed i.msg i.salt (valid i.set))

pub margin_exact : MarginExact
margin_exact i e =
    let p = params_of i.set in
    let h = half p.q p.b in
    let d = divided (margin_size p i.seed i.msg i.salt) h (margin_size_small i) (half_power (valid i.set)) in
    subst (λ (l : MarginLeft). HasValue l.margin.ratio false l.margin.size h) (sym (margin_done_left i e))
    (subst (λ (r : Float). HasValue r false (margin_size p i.seed i.msg i.salt) h) d.is d.exact)
