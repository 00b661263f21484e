-- FIPS 202 (2015), rho: `rho` is rho. Lane (0, 0), which the code leaves alone, is rotated by 0; the other 24 are what `rotl` gives at the offsets.
-- Assumes nothing.
use mathlib.Core.Path.{refl, sym, ap, ◌∙◌}
use mathlib.Core.List.{List}
use Prim.Native.Nat.{ℕ}
use lib.ListN.{get_or}
use mir.Syntax.{w64}
use Rattle.lists.specs.Lists.{tab}
use Rattle.lists.proofs.Tables.{cons}
use Rattle.lists.proofs.Arrays.{array_below}
use Rattle.keccak.specs.Keccak.{rotl, rho}
use Rattle.keccak.proofs.Rotation.{rotl_zero, offsets_are}
use Rattle.keccak.proofs.rho.Goals as goal

pub returns : goal.returns
unfolding rho
returns c =
    let a : List ℕ = c.args.a in
    (cons (sym (rotl_zero (get_or a 0 0) (array_below w64 25 a _ c.well_formed.0 0)))
    (cons c.rotl.ensures
    (cons c.rotl-2.ensures
    (cons c.rotl-3.ensures
    (cons c.rotl-4.ensures
    (cons c.rotl-5.ensures
    (cons c.rotl-6.ensures
    (cons c.rotl-7.ensures
    (cons c.rotl-8.ensures
    (cons c.rotl-9.ensures
    (cons c.rotl-10.ensures
    (cons c.rotl-11.ensures
    (cons c.rotl-12.ensures
    (cons c.rotl-13.ensures
    (cons c.rotl-14.ensures
    (cons c.rotl-15.ensures
    (cons c.rotl-16.ensures
    (cons c.rotl-17.ensures
    (cons c.rotl-18.ensures
    (cons c.rotl-19.ensures
    (cons c.rotl-20.ensures
    (cons c.rotl-21.ensures
    (cons c.rotl-22.ensures
    (cons c.rotl-23.ensures
    (cons c.rotl-24.ensures
    refl)))))))))))))))))))))))))
    ∙ ap (λ (o : List ℕ). tab 25 (λ i. rotl (get_or a i 0) (get_or o i 0))) (sym offsets_are)
