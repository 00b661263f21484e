-- `words::copy` meets its contract: after i turns the first i elements are those of src.
-- Assumes nothing.
use native.Mathlib.Omega.{arith}
use mathlib.Core.Path.{refl, sym, ap₂, ◌∙◌}
use mathlib.Core.List.{List, [], ◌∷◌, ◌++◌}
use Rattle.std.proofs.lemmas.List.{take_all, take_more, take_more_set}
use Rattle.words.proofs.copy.Goals as goal

pub loop-i-init : goal.loop-i-init
loop-i-init g c = refl

pub loop-i-preserved : goal.loop-i-preserved
loop-i-preserved g c =
    take_more_set c.loop-i.dst c.loop-i.i _ (omega (arith, c.loop-i.auto.dst, c.loop-i-test.true))
    ∙ ap₂ (λ (t : List g.row.T.Denot) (x : g.row.T.Denot). t ++ (x ∷ [])) c.loop-i.invariant c.index-src-i.is
    ∙ sym (take_more c.args.src.now c.loop-i.i _ (omega (arith, c.requires, c.loop-i-test.true)))

pub returns : goal.returns
returns g c =
    sym (take_all c.loop-i.i c.loop-i.dst (omega (arith, c.loop-i.auto.dst, c.loop-i-test.false)))
    ∙ c.loop-i.invariant
    ∙ take_all c.loop-i.i c.args.src.now (omega (arith, c.requires, c.loop-i-test.false))
