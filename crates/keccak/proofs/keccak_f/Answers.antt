-- FIPS 202 (2015), KECCAK-p[1600, 24]: `keccak_f` is that. After i turns of the loop the state has gone through i rounds.
-- Assumes nothing.
use mathlib.Core.Path.{◌≡◌, refl, sym, ap, ◌∙◌}
use mathlib.Core.List.{List}
use Prim.Native.Nat.{ℕ}
use native.Mathlib.Numerals.{add-one}
use native.Mathlib.Omega.{arith}
use Rattle.keccak.specs.Keccak.{theta, rho, pi, chi, iota_with, iota, round, rounds, keccak_f}
use Rattle.keccak.proofs.Constants.{constant_at}
use Rattle.keccak.proofs.keccak_f.Goals as goal

pub loop-constant-init : goal.loop-constant-init
unfolding rounds
loop-constant-init c = refl

pub loop-constant-preserved : goal.loop-constant-preserved
unfolding rounds round iota
loop-constant-preserved c =
    let i : ℕ = c.loop-constant.constant-index in
    let a : List ℕ = c.args.a in
    let mixed : List ℕ → List ℕ = λ s. chi (pi (rho (theta s))) in
    c.round-next.ensures
    ∙ ap (λ (k : ℕ). iota_with k (mixed c.loop-constant.s)) (constant_at i c.loop-constant-test.true)
    ∙ ap (λ (s : List ℕ). iota i (mixed s)) c.loop-constant.invariant
    ∙ ap (λ (n : ℕ). rounds n a) (sym (add-one i))

pub returns : goal.returns
unfolding keccak_f
returns c =
    let last : c.loop-constant.constant-index ≡ 24 = omega (arith, c.loop-constant-test.false) in
    c.loop-constant.invariant ∙ ap (λ (n : ℕ). rounds n c.args.a) last
