-- All that `encapsulate` leaves, whatever it is lent (docs/RULES.md, 4.9).
-- Assumes nothing.
use Rattle.std.specs.Prelude.{List, ℕ, length}
use Rattle.lists.specs.Lists.{wiped}
use Rattle.sets.specs.declared.Params.{Params}
use Rattle.sets.specs.Answers.{Answer, Done}
use Rattle.lengths.specs.Refusals.{encaps_test}
use Rattle.scheme.specs.Encaps.{ciphertext, shared_secret}
use Rattle.frodo.specs.Outcome.{leaves}

pub record EncapsLent : Type 0 where
  pub set : ℕ
  pub pk : List ℕ
  pub msg : List ℕ
  pub salt : List ℕ
  pub ct : List ℕ
  pub ss : List ℕ
  pub noise : List ℕ
  pub work : List ℕ

-- pk, msg and salt are lent to be read: nothing can change them
pub record EncapsLeft : Type 0 where
  pub answer : Answer
  pub ct : List ℕ
  pub ss : List ℕ
  pub noise : List ℕ
  pub work : List ℕ

abbrev pub encaps_tests : EncapsLent → Params → Answer
encaps_tests i p = encaps_test p (length i.pk) (length i.msg) (length i.salt) (length i.ct) (length i.ss) (length i.noise) (length i.work)

abbrev pub encaps_refused : EncapsLent → Answer → EncapsLeft
encaps_refused i a = record { answer = a; ct = i.ct; ss = i.ss; noise = i.noise; work = i.work }

abbrev pub encaps_done : EncapsLent → Params → EncapsLeft
encaps_done i p = record {
  answer = Done;
  ct = ciphertext p i.pk i.msg i.salt;
  ss = shared_secret p i.pk i.msg i.salt;
  noise = wiped p.noise i.noise;
  work = wiped p.work i.work;
}

unfoldable pub encaps_leaves : EncapsLent → EncapsLeft
encaps_leaves i = leaves i.set (encaps_tests i) (encaps_done i) (encaps_refused i)
