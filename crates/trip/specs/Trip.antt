-- All that key generation, encapsulation and decapsulation in a row leave, whatever they are lent (docs/RULES.md, 4.8 to 4.10): each call is lent what those before it have left.
-- Assumes nothing.
use Rattle.std.specs.Prelude.{List, ℕ}
use Rattle.frodo.specs.Keypair.{KeypairLent, KeypairLeft, keypair_leaves}
use Rattle.frodo.specs.Encaps.{EncapsLent, EncapsLeft, encaps_leaves}
use Rattle.frodo.specs.Decaps.{DecapsLent, DecapsLeft, decaps_leaves}
use Rattle.trip.specs.declared.Answers.{Answers}

-- ss takes encapsulation's secret, opened and back decapsulation's secret and message
pub record TripLent : Type 0 where
  pub set : ℕ
  pub seed : List ℕ
  pub pk : List ℕ
  pub sk : List ℕ
  pub msg : List ℕ
  pub salt : List ℕ
  pub ct : List ℕ
  pub ss : List ℕ
  pub opened : List ℕ
  pub back : List ℕ
  pub noise : List ℕ
  pub work : List ℕ

-- msg and salt are lent to be read: nothing can change them
pub record TripLeft : Type 0 where
  pub answers : Answers
  pub seed : List ℕ
  pub pk : List ℕ
  pub sk : List ℕ
  pub ct : List ℕ
  pub ss : List ℕ
  pub opened : List ℕ
  pub back : List ℕ
  pub noise : List ℕ
  pub work : List ℕ

-- ---- what each call is lent

abbrev pub keys_lent : TripLent → KeypairLent
keys_lent i = record { set = i.set; seed = i.seed; pk = i.pk; sk = i.sk; noise = i.noise; work = i.work }

abbrev pub sealing_lent : TripLent → KeypairLeft → EncapsLent
sealing_lent i x = record { set = i.set; pk = x.pk; msg = i.msg; salt = i.salt; ct = i.ct; ss = i.ss; noise = x.noise; work = x.work }

abbrev pub opening_lent : TripLent → KeypairLeft → EncapsLeft → DecapsLent
opening_lent i x y = record { set = i.set; sk = x.sk; ct = y.ct; ss = i.opened; msg = i.back; noise = y.noise; work = y.work }

-- ---- and what it leaves

abbrev pub keys_left : TripLent → KeypairLeft
keys_left i = keypair_leaves (keys_lent i)

abbrev pub sealing_left : TripLent → EncapsLeft
sealing_left i = encaps_leaves (sealing_lent i (keys_left i))

abbrev pub opening_left : TripLent → DecapsLeft
opening_left i = decaps_leaves (opening_lent i (keys_left i) (sealing_left i))

-- the three together
abbrev pub together : KeypairLeft → EncapsLeft → DecapsLeft → TripLeft
together x y z = record {
  answers = record { keys = x.answer; sealing = y.answer; opening = z.answer };
  seed = x.seed;
  pk = x.pk;
  sk = x.sk;
  ct = y.ct;
  ss = y.ss;
  opened = z.ss;
  back = z.msg;
  noise = z.noise;
  work = z.work;
}

unfoldable pub trip_leaves : TripLent → TripLeft
trip_leaves i = together (keys_left i) (sealing_left i) (opening_left i)
