-- The third demand of the program (docs/RULES.md, 1.3): what `there_and_back` leaves, and where the message and the secret come back.
-- Assumes nothing.
use Rattle.std.specs.Prelude.{◌≡◌, ◌↔◌, true, length}
use Rattle.sets.specs.Sets.{known, params_of}
use Rattle.sets.specs.Answers.{Done}
use Rattle.lengths.specs.Sized.{Scratch}
use Rattle.scheme.specs.Noise.{AllInRange}
use Rattle.trip.specs.declared.Answers.{Answers}
use Rattle.trip.specs.Trip.{TripLent, TripLeft, trip_leaves}

-- no call was refused
pub record AllDone (r : Answers) : Type 0 where
  pub keys : r.keys ≡ Done
  pub sealing : r.sealing ≡ Done
  pub opening : r.opening ≡ Done

pub record ThereAndBack (i : TripLent) (o : TripLeft) : Type 0 where
  -- every answer and every buffer is pinned
  pub is : o ≡ trip_leaves i
  -- where no call was refused, the message that is left is the one lent exactly where every entry of the noise is in range
  pub message : AllDone o.answers → ((o.back ≡ i.msg) ↔ AllInRange (params_of i.set) i.seed i.msg i.salt)
  -- and where it is, the two secrets are one
  pub secret : AllDone o.answers → o.back ≡ i.msg → o.opened ≡ o.ss

-- a number that is a set, and buffers of its lengths
pub record TripFits (i : TripLent) : Type 0 where
  pub a_set : known i.set ≡ true
  pub seed_long : length i.seed ≡ (params_of i.set).seed
  pub pk_long : length i.pk ≡ (params_of i.set).pk
  pub sk_long : length i.sk ≡ (params_of i.set).sk
  pub msg_long : length i.msg ≡ (params_of i.set).secret
  pub salt_long : length i.salt ≡ (params_of i.set).salt
  pub ct_long : length i.ct ≡ (params_of i.set).ct
  pub ss_long : length i.ss ≡ (params_of i.set).secret
  pub opened_long : length i.opened ≡ (params_of i.set).secret
  pub back_long : length i.back ≡ (params_of i.set).secret
  pub scratch : Scratch (params_of i.set) (length i.noise) (length i.work)

-- of these no call is refused
abbrev pub FitsDone : Type 0
FitsDone = (i : TripLent) (o : TripLeft) → ThereAndBack i o → TripFits i → AllDone o.answers
