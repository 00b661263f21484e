-- Three calls in a row, each lent what those before it have left, are a round trip of crate `round_trip` (specs/ThereAndBack.antt); and the contract admits one outcome.
-- Assumes nothing.
use mathlib.Core.Path.{◌≡◌, refl, sym, ap, ◌∙◌, subst}
use lib.ListN.{length}
use Rattle.lists.specs.Lists.{Below}
use Rattle.sets.specs.Sets.{params_of}
use Rattle.sets.specs.Answers.{Done}
use Rattle.lengths.specs.Sized.{Scratch}
use Rattle.frodo.specs.Keypair.{KeypairLeft, keypair_leaves}
use Rattle.frodo.specs.Encaps.{EncapsLent, EncapsLeft, encaps_leaves}
use Rattle.frodo.specs.Decaps.{DecapsLent, DecapsLeft, decaps_leaves}
use Rattle.frodo.specs.One.{OneOutcome}
use Rattle.frodo.proofs.One.{by_function}
use Rattle.frodo.proofs.DoneWhen.{decaps_done_when}
use Rattle.round_trip.specs.RoundTrip.{Trip, ComesBack}
use Rattle.round_trip.proofs.RoundTrip.{round_trip}
use Rattle.trip.specs.Trip.{TripLent, TripLeft, keys_lent, sealing_lent, opening_lent, keys_left, sealing_left, together, trip_leaves}
use Rattle.trip.specs.ThereAndBack.{AllDone, ThereAndBack}

module _ (i : TripLent) where
  -- what the second and the third call are lent
  abbrev pub second : EncapsLent
  second = sealing_lent i (keys_left i)

  abbrev pub third : DecapsLent
  third = opening_lent i (keys_left i) (sealing_left i)

  -- three calls of which each leaves what its definition says leave all that `trip_leaves` says
  pub composed : {x : KeypairLeft} {y : EncapsLeft} {z : DecapsLeft}
      → x ≡ keypair_leaves (keys_lent i) → y ≡ encaps_leaves (sealing_lent i x) → z ≡ decaps_leaves (opening_lent i x y) → together x y z ≡ trip_leaves i
  unfolding trip_leaves
  composed made sealed opened =
      let sealed' = sealed ∙ ap (λ (x : KeypairLeft). encaps_leaves (sealing_lent i x)) made in
      let opened' = opened ∙ (λ j. decaps_leaves (opening_lent i (made j) (sealed' j))) in
      λ j. together (made j) (sealed' j) (opened' j)

  -- they are a round trip where the first two are done and the third has room
  pub trip : (keys_left i).answer ≡ Done → (sealing_left i).answer ≡ Done
      → length i.opened ≡ (params_of i.set).secret → length i.back ≡ (params_of i.set).secret
      → Scratch (params_of i.set) (length (sealing_left i).noise) (length (sealing_left i).work) → Trip (keys_lent i) second third
  trip keys sealing opened_long back_long room = record {
    sealed = record { sealed_set = refl; public_key = refl; keys_done = keys; sealing_done = sealing };
    opens = record { opened_set = refl; secret_key = refl; ciphertext = refl; ss_long = opened_long; scratch = room };
    msg_long = back_long;
  }

  module _ (bytes : Below 256 i.msg) where
    comes : AllDone (trip_leaves i).answers → ComesBack (keys_lent i) second third
    unfolding trip_leaves
    comes done =
        let own = ((decaps_done_when third).0 done.opening).sized in
        round_trip (keys_lent i) second third (trip done.keys done.sealing own.ss_long own.msg_long own.scratch) bytes

    there_and_back : ThereAndBack i (trip_leaves i)
    unfolding trip_leaves
    there_and_back = record { is = refl; message = λ done. (comes done).message; secret = λ done. (comes done).secret }

    -- so whatever is left meets the third demand
    pub back : {o : TripLeft} → o ≡ trip_leaves i → ThereAndBack i o
    back is = subst (ThereAndBack i) (sym is) there_and_back

-- one outcome of one input
pub trip_one : OneOutcome ThereAndBack
trip_one i x y s t = by_function trip_leaves i x y s.is t.is
