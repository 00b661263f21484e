-- `hashes::store_each` meets its contract: after i turns the first i words are noise.
-- Assumes nothing.
use Prim.Native.Nat.{ℕ}
use native.Mathlib.Omega.{arith}
use mathlib.Core.Path.{refl, sym, ap, ◌∙◌}
use mathlib.Core.List.{map-map}
use lib.IntN.{ℤ}
use mir.Syntax.{w16}
use mir.Facts.{to_z-of_z}
use Rattle.lists.proofs.Loops.{more, past, mapped_all}
use Rattle.noise.specs.Noise.{sampled, table_of}
use Rattle.scheme.specs.Parts.{stored}
use Rattle.hashes.proofs.store_each.Goals as goal

pub loop-x-preserved : goal.loop-x-preserved
loop-x-preserved g c =
    let chi = g.D.Distribution.chi in
    let noise : ℕ → ℕ = λ r. stored (sampled (table_of chi) r) in
    let upto = c.loop-x.invariant in
    let drawn = c.stored.ensures ∙ ap stored (to_z-of_z {w = w16} (record { sfits = c.sample.type_inv }) ∙ c.sample.ensures.0) in
    more upto c.loop-x-test.true (drawn ∙ ap noise (past upto _ (omega arith) (omega (arith, c.loop-x-test.true))))

pub returns : goal.returns
returns g c =
    let sample : ℕ → ℤ = sampled (table_of g.D.Distribution.chi) in
    mapped_all (λ r. stored (sample r)) c.args.s.now c.loop-x.invariant (omega (arith, c.loop-x-test.false)) refl ∙ sym (map-map stored sample c.args.s.now)
