-- Where all that is lent fits, none of the three calls is refused (specs/ThereAndBack.antt).
-- Assumes nothing.
use mathlib.Core.Path.{◌≡◌, sym, ap, ◌∙◌, subst}
use mathlib.Core.List.{List}
use Prim.Native.Nat.{ℕ, ◌≤◌}
use native.Mathlib.Omega.{arith}
use lib.ListN.{length, length-append, length-drop, length-replicate}
use Rattle.lists.specs.Lists.{wiped}
use Rattle.sets.specs.Sets.{params_of}
use Rattle.sets.specs.declared.Params.{Params}
use Rattle.sets.specs.Answers.{Done}
use Rattle.sets.proofs.Facts.{valid}
use Rattle.lengths.specs.Sized.{Scratch}
use Rattle.scheme.proofs.Keys.{length_public_key}
use Rattle.frodo.specs.Keypair.{KeypairLeft}
use Rattle.frodo.specs.Encaps.{EncapsLeft}
use Rattle.frodo.proofs.DoneWhen.{keypair_done_when, keypair_done_left, encaps_done_when, encaps_done_left}
use Rattle.round_trip.proofs.RoundTrip.{opening_done}
use Rattle.trip.specs.Trip.{TripLent, TripLeft, keys_lent, keys_left, sealing_left, trip_leaves}
use Rattle.trip.specs.ThereAndBack.{AllDone, TripFits, FitsDone}
use Rattle.trip.proofs.ThereAndBack.{second, third, trip}

-- a list whose front is wiped is as long as it was
length_wiped : (k : ℕ) (l : List ℕ) → k ≤ length l → length (wiped k l) ≡ length l
length_wiped k l h = simp (length-append, length-replicate, length-drop) (omega arith)

-- so wiped scratch is as good as any
wiped_room : (p : Params) (noise work : List ℕ) → Scratch p (length noise) (length work) → Scratch p (length (wiped p.noise noise)) (length (wiped p.work work))
wiped_room p noise work s = record {
  noise_room = omega (arith, length_wiped p.noise noise s.noise_room, s.noise_room);
  work_room = omega (arith, length_wiped p.work work s.work_room, s.work_room);
}

module _ (i : TripLent) (f : TripFits i) where
  abbrev p : Params
  p = params_of i.set

  keys_done : (keys_left i).answer ≡ Done
  keys_done =
      (keypair_done_when (keys_lent i)).1
      (record { a_set = f.a_set; sized = record { valid = valid i.set; seed_long = f.seed_long; pk_long = f.pk_long; sk_long = f.sk_long; scratch = f.scratch } })

  pk_long : length (keys_left i).pk ≡ p.pk
  pk_long = ap (λ (l : KeypairLeft). length l.pk) (keypair_done_left (keys_lent i) keys_done) ∙ length_public_key p (valid i.set) i.seed

  keys_room : Scratch p (length (keys_left i).noise) (length (keys_left i).work)
  keys_room = subst (λ (l : KeypairLeft). Scratch p (length l.noise) (length l.work)) (sym (keypair_done_left (keys_lent i) keys_done)) (wiped_room p i.noise i.work f.scratch)

  sealing_done : (sealing_left i).answer ≡ Done
  sealing_done =
      (encaps_done_when (second i)).1
      (record {
        a_set = f.a_set;
        sized = record { valid = valid i.set; pk_long = pk_long; msg_long = f.msg_long; salt_long = f.salt_long; ct_long = f.ct_long; ss_long = f.ss_long; scratch = keys_room };
      })

  sealing_room : Scratch p (length (sealing_left i).noise) (length (sealing_left i).work)
  sealing_room = subst (λ (l : EncapsLeft). Scratch p (length l.noise) (length l.work)) (sym (encaps_done_left (second i) sealing_done)) (wiped_room p (keys_left i).noise (keys_left i).work keys_room)

  all_done : AllDone (trip_leaves i).answers
  unfolding trip_leaves
  all_done = record {
    keys = keys_done;
    sealing = sealing_done;
    opening = opening_done {k = keys_lent i} {e = second i} {d = third i} (trip i keys_done sealing_done f.opened_long f.back_long sealing_room);
  }

pub fits_done : FitsDone
fits_done i o left f = subst (λ (l : TripLeft). AllDone l.answers) (sym left.is) (all_done i f)
