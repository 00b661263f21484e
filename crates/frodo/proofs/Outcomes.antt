-- From an answer to what a call leaves, once for all calls: a known set that passes its tests is done, anything else is refused.
-- Assumes nothing.
use mathlib.Core.Path.{◌≡◌, refl, sym, ap, ◌∙◌}
use mathlib.Core.Bool.{Bool, cond}
use Prim.Native.Nat.{ℕ}
use native.Mathlib.Omega.{arith}
use lib.Dec.{eqb}
use borrow.Author.Tests.{ne_eqb}
use Rattle.std.specs.Prelude.{Some, None, Result, Ok, Err, IsErr, IsErrAnd}
use Rattle.sets.specs.Sets.{chosen, params_of}
use Rattle.sets.specs.Answers.{Answer, Done, number_of}
use Rattle.sets.specs.declared.Params.{Params}
use Rattle.sets.specs.declared.Refusal.{Refusal}
use Rattle.sets.specs.declared.Refusal.TheVariants.{UnknownSet, SeedLength, PublicKeyLength, SecretKeyLength, CiphertextLength, MessageLength, SaltLength, SharedSecretLength, ScratchLength}
use Rattle.sets.proofs.Facts.{picked}
use Rattle.lengths.proofs.Shown.{tested_unknown, tested_known}
use Rattle.frodo.specs.Outcome.{leaves}

-- the error that a `?` answers is the one that it was given
pub given : {T : Type 0} {r : Result T Refusal} {e : Refusal} → IsErr r × IsErrAnd r (λ x. x ≡ e) → r ≡ Err e
given {r = Ok _} g = absurd g.1
given {r = Err x} g = ap Err g.1

-- no refusal has the number 0
pub not_zero : (r : Refusal) → number_of (Err r) ≡ 0 → ⊥
not_zero UnknownSet e = omega arith
not_zero SeedLength e = omega arith
not_zero PublicKeyLength e = omega arith
not_zero SecretKeyLength e = omega arith
not_zero CiphertextLength e = omega arith
not_zero MessageLength e = omega arith
not_zero SaltLength e = omega arith
not_zero SharedSecretLength e = omega arith
not_zero ScratchLength e = omega arith

-- only `Done` has it
pub zero_done : (a : Answer) → number_of a ≡ 0 → a ≡ Done
zero_done (Ok _) e = refl
zero_done (Err r) e = absurd (not_zero r e)

-- a call on what it was lent: its set and tests, what it leaves done and refused, and the answer in what is left
pub record Called (Left : Type 0) : Type 0 where
  pub set : ℕ
  pub tests : Params → Answer
  pub done : Params → Left
  pub refused : Answer → Left
  pub answer : Left → Answer
  pub is_done : (p : Params) → answer (done p) ≡ Done
  pub is_refused : (a : Answer) → answer (refused a) ≡ a

module _ {Left : Type 0} (c : Called Left) where
  abbrev pub left : Left
  left = leaves c.set c.tests c.done c.refused

  -- what is left, as a function of the answer
  by_answer : Answer → Left
  by_answer a = cond (eqb (number_of a) 0) (c.done (params_of c.set)) (c.refused a)

  by_refusal : (r : Refusal) → by_answer (Err r) ≡ c.refused (Err r)
  unfolding by_answer
  by_refusal r = ap (λ (b : Bool). cond b (c.done (params_of c.set)) (c.refused (Err r))) (ne_eqb (number_of (Err r)) 0 (not_zero r))

  -- a number that is no set
  pub unknown : {a : Answer} → chosen c.set ≡ None → a ≡ Err UnknownSet → c.refused a ≡ left
  unfolding by_answer
  unknown e q = ap c.refused q ∙ sym (ap by_answer (tested_unknown c.set c.tests e))

  module _ {p : Params} (e : chosen c.set ≡ Some p) where
    answered : (a : Answer) → a ≡ c.tests p → by_answer a ≡ left
    unfolding by_answer
    answered a q = ap by_answer (q ∙ sym (tested_known c.set p c.tests e))

    -- a set whose tests give a refusal
    pub refusal : {a : Answer} {r : Refusal} → Err r ≡ c.tests p → a ≡ Err r → c.refused a ≡ left
    refusal {r = r} t q = ap c.refused q ∙ sym (by_refusal r) ∙ answered (Err r) t

    -- a set whose tests are passed
    pub finished : {x : Left} → Done ≡ c.tests p → x ≡ c.done p → x ≡ left
    unfolding by_answer
    finished t w = w ∙ ap c.done (picked c.set p e).1 ∙ answered Done t
