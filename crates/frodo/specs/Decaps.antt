-- All that `decapsulate` and `decapsulate_shared_secret` leave, whatever they are lent (docs/RULES.md, 4.10).
-- Assumes nothing.
use Rattle.std.specs.Prelude.{List, ℕ, length}
use Rattle.lists.specs.Lists.{wiped}
use Rattle.sets.specs.declared.Params.{Params}
use Rattle.sets.specs.Answers.{Answer, Done}
use Rattle.lengths.specs.Refusals.{decaps_test, decaps_secret_test}
use Rattle.scheme.specs.Decaps.{decaps_message, decaps_secret}
use Rattle.frodo.specs.Outcome.{leaves}

-- ---- with the message

pub record DecapsLent : Type 0 where
  pub set : ℕ
  pub sk : List ℕ
  pub ct : List ℕ
  pub ss : List ℕ
  pub msg : List ℕ
  pub noise : List ℕ
  pub work : List ℕ

-- sk and ct are lent to be read: nothing can change them
pub record DecapsLeft : Type 0 where
  pub answer : Answer
  pub ss : List ℕ
  pub msg : List ℕ
  pub noise : List ℕ
  pub work : List ℕ

abbrev pub decaps_tests : DecapsLent → Params → Answer
decaps_tests i p = decaps_test p (length i.sk) (length i.ct) (length i.ss) (length i.msg) (length i.noise) (length i.work)

abbrev pub decaps_refused : DecapsLent → Answer → DecapsLeft
decaps_refused i a = record { answer = a; ss = i.ss; msg = i.msg; noise = i.noise; work = i.work }

abbrev pub decaps_done : DecapsLent → Params → DecapsLeft
decaps_done i p = record {
  answer = Done;
  ss = decaps_secret p i.sk i.ct;
  msg = decaps_message p i.sk i.ct;
  noise = wiped p.noise i.noise;
  work = wiped p.work i.work;
}

unfoldable pub decaps_leaves : DecapsLent → DecapsLeft
decaps_leaves i = leaves i.set (decaps_tests i) (decaps_done i) (decaps_refused i)

-- ---- without it

pub record DecapsSecretLent : Type 0 where
  pub set : ℕ
  pub sk : List ℕ
  pub ct : List ℕ
  pub ss : List ℕ
  pub noise : List ℕ
  pub work : List ℕ

pub record DecapsSecretLeft : Type 0 where
  pub answer : Answer
  pub ss : List ℕ
  pub noise : List ℕ
  pub work : List ℕ

abbrev pub decaps_secret_tests : DecapsSecretLent → Params → Answer
decaps_secret_tests i p = decaps_secret_test p (length i.sk) (length i.ct) (length i.ss) (length i.noise) (length i.work)

abbrev pub decaps_secret_refused : DecapsSecretLent → Answer → DecapsSecretLeft
decaps_secret_refused i a = record { answer = a; ss = i.ss; noise = i.noise; work = i.work }

abbrev pub decaps_secret_done : DecapsSecretLent → Params → DecapsSecretLeft
decaps_secret_done i p = record {
  answer = Done;
  ss = decaps_secret p i.sk i.ct;
  noise = wiped p.noise i.noise;
  work = wiped p.work i.work;
}

unfoldable pub decaps_secret_leaves : DecapsSecretLent → DecapsSecretLeft
decaps_secret_leaves i = leaves i.set (decaps_secret_tests i) (decaps_secret_done i) (decaps_secret_refused i)
