-- FIPS 202 (2015), theta: `theta` is theta, from the column parities that `columns` gives and the rotations that `rotl` gives.
-- Assumes nothing.
use mathlib.Core.Path.{ap, ◌∙◌}
use mathlib.Core.List.{List, [], ◌∷◌}
use Prim.Native.Nat.{ℕ, ◌+◌, ◌%◌}
use lib.Bits.{bit_xor}
use lib.ListN.{get_or}
use Rattle.lists.specs.Lists.{tab}
use Rattle.lists.proofs.Tables.{cons}
use Rattle.keccak.specs.Keccak.{rotl, theta}
use Rattle.keccak.proofs.theta.Goals as goal

pub returns : goal.returns
unfolding theta
returns c =
    let a : List ℕ = c.args.a in
    let columns : List ℕ = c.columns-c.result in
    ap (λ (rs : List ℕ). tab 25 (λ i. bit_xor (get_or a i 0) (bit_xor (get_or columns ((i % 5 + 4) % 5) 0) (get_or rs (i % 5) 0))))
    (cons c.rotl.ensures
    (cons c.rotl-2.ensures
    (cons c.rotl-3.ensures
    (cons c.rotl-4.ensures
    (ap (λ (x : ℕ). x ∷ []) c.rotl-5.ensures)))))
    ∙ ap (λ (cs : List ℕ). tab 25 (λ i. bit_xor (get_or a i 0) (bit_xor (get_or cs ((i % 5 + 4) % 5) 0) (rotl (get_or cs ((i % 5 + 1) % 5) 0) 1)))) c.columns-c.ensures
