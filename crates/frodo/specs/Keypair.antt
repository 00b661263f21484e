-- All that `generate_keypair_from_seed` leaves, whatever it is lent (docs/RULES.md, 4.8).
-- Assumes nothing.
use Rattle.std.specs.Prelude.{List, ℕ, length, replicate}
use Rattle.lists.specs.Lists.{wiped}
use Rattle.sets.specs.declared.Params.{Params}
use Rattle.sets.specs.Answers.{Answer, Done}
use Rattle.lengths.specs.Refusals.{keypair_test}
use Rattle.scheme.specs.KeyGen.{public_key, secret_key}
use Rattle.frodo.specs.Outcome.{leaves}

pub record KeypairLent : Type 0 where
  pub set : ℕ
  pub seed : List ℕ
  pub pk : List ℕ
  pub sk : List ℕ
  pub noise : List ℕ
  pub work : List ℕ

pub record KeypairLeft : Type 0 where
  pub answer : Answer
  pub seed : List ℕ
  pub pk : List ℕ
  pub sk : List ℕ
  pub noise : List ℕ
  pub work : List ℕ

-- the tests of the lengths, in rising number
abbrev pub keypair_tests : KeypairLent → Params → Answer
keypair_tests i p = keypair_test p (length i.seed) (length i.pk) (length i.sk) (length i.noise) (length i.work)

-- refused: everything as it was
abbrev pub keypair_refused : KeypairLent → Answer → KeypairLeft
keypair_refused i a = record { answer = a; seed = i.seed; pk = i.pk; sk = i.sk; noise = i.noise; work = i.work }

-- done: both keys, the seed and the scratches zeroed
abbrev pub keypair_done : KeypairLent → Params → KeypairLeft
keypair_done i p = record {
  answer = Done;
  seed = replicate (length i.seed) 0;
  pk = public_key p i.seed;
  sk = secret_key p i.seed;
  noise = wiped p.noise i.noise;
  work = wiped p.work i.work;
}

unfoldable pub keypair_leaves : KeypairLent → KeypairLeft
keypair_leaves i = leaves i.set (keypair_tests i) (keypair_done i) (keypair_refused i)
