-- What a call's answer tells, once for all calls: it is what the tests give, `Done` exactly where number and lengths fit; and where it is `Done` a done call's outcome is left.
-- Assumes nothing.
use mathlib.Core.Path.{◌≡◌, refl, sym, ap, ◌∙◌}
use mathlib.Core.Logic.{◌↔◌}
use mathlib.Core.Bool.{Bool, true, false, cond}
use lib.Dec.{eqb}
use borrow.Author.Tests.{eqb-true}
use Rattle.sets.specs.Sets.{known, params_of, Valid}
use Rattle.sets.specs.declared.Params.{Params}
use Rattle.sets.specs.Answers.{Answer, Done, number_of}
use Rattle.sets.specs.declared.Refusal.TheVariants.{UnknownSet}
use Rattle.sets.proofs.Facts.{valid}
use Rattle.lengths.specs.Refusals.{tested}
use Rattle.lengths.proofs.Shown.{passed}
use Rattle.lengths.proofs.Fits.{holds}
use Rattle.frodo.specs.DoneWhen.{Fits}
use Rattle.frodo.proofs.Outcomes.{Called, left, zero_done}

module _ {Left : Type 0} (c : Called Left) where
  abbrev given : Answer
  given = tested c.set c.tests

  by_number : (b : Bool) → eqb (number_of given) 0 ≡ b → c.answer (cond b (c.done (params_of c.set)) (c.refused given)) ≡ given
  by_number true z = c.is_done (params_of c.set) ∙ sym (zero_done given (eqb-true (number_of given) 0 z))
  by_number false z = c.is_refused given

  -- its answer is what its tests give
  pub told : c.answer (left c) ≡ given
  told = by_number (eqb (number_of given) 0) refl

  -- a call that answered `Done` has (left c) what a done call of its set leaves
  pub done_left : c.answer (left c) ≡ Done → left c ≡ c.done (params_of c.set)
  done_left e = ap (λ (a : Answer). cond (eqb (number_of a) 0) (c.done (params_of c.set)) (c.refused a)) (sym told ∙ e)

  -- where its tests show lengths, and lengths pass its tests, it is done exactly where they fit
  pub done_when : {Sized : Params → Type 0} → ((p : Params) → Valid p → c.tests p ≡ Done → Sized p) → ((p : Params) → Sized p → c.tests p ≡ Done)
      → (c.answer (left c) ≡ Done) ↔ Fits c.set Sized
  done_when {Sized} shown fits = (there, back)
    where
      there : c.answer (left c) ≡ Done → Fits c.set Sized
      there e =
          let t = passed UnknownSet (known c.set) (c.tests (params_of c.set)) (sym told ∙ e) in
          record { a_set = t.0; sized = shown (params_of c.set) (valid c.set) t.1 }

      back : Fits c.set Sized → c.answer (left c) ≡ Done
      back f = told ∙ holds UnknownSet (known c.set) (c.tests (params_of c.set)) f.a_set (fits (params_of c.set) f.sized)
