-- `bench_samples` meets its contract: a known set's parameters are those of its number, and with none nothing is sampled.
-- Assumes nothing.
use mathlib.Core.Path.{◌≡◌, sym, ap, ◌∙◌}
use mathlib.Core.Bool.{Bool, true, false, cond}
use mathlib.Core.List.{List}
use Prim.Native.Nat.{ℕ}
use Rattle.std.specs.Option.{option_map}
use Rattle.sets.specs.Sets.{known, params_of}
use Rattle.sets.specs.declared.Set.{Set}
use Rattle.sets.specs.declared.Params.{Params}
use Rattle.sets.proofs.Facts.{picked, refused}
use Rattle.scheme.specs.Parts.{stored_samples}
use Rattle.bench_c.proofs.bench_samples.Goals as goal

-- what a set's number tells
told : (set : ℕ) (ws : List ℕ) (b : Bool) → known set ≡ b → cond b (stored_samples (params_of set).chi ws) ws ≡ cond (known set) (stored_samples (params_of set).chi ws) ws
told set ws b e = ap (λ (k : Bool). cond k (stored_samples (params_of set).chi ws) ws) (sym e)

pub returns-in_default : goal.returns-in_default
returns-in_default c =
    let set = c.args.set in
    told set c.args.words.now false (refused set (sym c.choose.ensures ∙ ap (option_map (λ (s : Set). s.p)) c.in_default.is))

pub returns : goal.returns
returns c =
    let set = c.args.set in
    let ws = c.args.words.now in
    let known-p = picked set c.in-Some.set.p (sym c.choose.ensures ∙ ap (option_map (λ (s : Set). s.p)) c.in-Some.is) in
    c.store_samples.ensures ∙ ap (λ (p : Params). stored_samples p.chi ws) known-p.1 ∙ told set ws true known-p.0
