-- `lengths_of` answers the table of docs/RULES.md, 2.1, and zeros for a number that is no set.
-- Assumes nothing.
use mathlib.Core.Path.{◌≡◌, sym, ap, ◌∙◌}
use mathlib.Core.Bool.{Bool, true, false, cond}
use Prim.Native.Nat.{ℕ}
use Rattle.std.proofs.Common.{rules}
use Rattle.sets.specs.Sets.{known, params_of}
use Rattle.sets.proofs.Facts.{picked, refused}
use Rattle.frodo.specs.SetLengths.{lengths_of, no_lengths, lengths_for}
use Rattle.frodo.proofs.lengths_of.Goals as goal

-- what a set's number tells
told : (set : ℕ) (b : Bool) → known set ≡ b → lengths_for set ≡ cond b (lengths_of (params_of set)) no_lengths
unfolding lengths_for
told set b e = ap (λ (k : Bool). cond k (lengths_of (params_of set)) no_lengths) e

pub returns-in-Some : goal.returns-in-Some
returns-in-Some c =
    let set = c.args.set in
    let e = picked set c.in-Some.set.p (sym c.in-Some.ensures) in
    c.from.ensures ∙ ap lengths_of e.1 ∙ sym (told set true e.0)

pub returns-in-None : goal.returns-in-None
returns-in-None c =
    let set = c.args.set in
    let zeros : c.default.result ≡ no_lengths = search rules in
    zeros ∙ sym (told set false (refused set (sym c.in-None.ensures)))
