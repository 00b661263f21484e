-- `there_and_back` meets its contract: each call is lent what those before it have left, and a message in a slice is bytes.
-- Assumes nothing.
use Rattle.frodo.specs.Keypair.{KeypairLeft}
use Rattle.frodo.specs.Encaps.{EncapsLeft}
use Rattle.frodo.specs.Decaps.{DecapsLeft}
use Rattle.trip.specs.Trip.{TripLent}
use Rattle.trip.proofs.ThereAndBack.{composed, back}
use Rattle.trip.proofs.there_and_back.Goals as goal

pub returns : goal.returns
returns c =
    let a = c.args in
    let keys = c.generate_keypair_from_seed-keys in
    let sealing = c.encapsulate-sealing in
    let opening = c.decapsulate-opening in
    let i : TripLent = record { set = a.set; seed = a.seed.now; pk = a.pk.now; sk = a.sk.now; msg = a.msg.now; salt = a.salt.now; ct = a.ct.now; ss = a.ss.now; opened = a.opened.now; back = a.back.now; noise = a.noise.now; work = a.work.now } in
    let x : KeypairLeft = record { answer = keys.result; seed = keys.new.seed; pk = keys.new.pk; sk = keys.new.sk; noise = keys.new.noise; work = keys.new.work } in
    let y : EncapsLeft = record { answer = sealing.result; ct = sealing.new.ct; ss = sealing.new.ss; noise = sealing.new.noise; work = sealing.new.work } in
    let z : DecapsLeft = record { answer = opening.result; ss = opening.new.ss; msg = opening.new.msg; noise = opening.new.noise; work = opening.new.work } in
    back i (λ j. (c.type_inv.msg j).fits) (composed i {x = x} {y = y} {z = z} keys.ensures sealing.ensures opening.ensures)
