-- The third demand of the calls (specs/RoundTrip.antt), from the third demand of the scheme and what done calls leave: each opening stands on top of key and sealing (Sealed.antt).
-- Assumes nothing.
use mathlib.Core.Path.{◌≡◌, sym, ap, ◌∙◌}
use mathlib.Core.List.{List}
use Prim.Native.Nat.{ℕ, ◌+◌, ◌*◌}
use lib.ListN.{get_or}
use Rattle.lists.specs.Lists.{Below}
use Rattle.sets.specs.Sets.{params_of}
use Rattle.sets.specs.declared.Params.{Params}
use Rattle.sets.specs.Answers.{Done}
use Rattle.message.specs.Message.{groups_of}
use Rattle.scheme.specs.Demand3.{recovered_message, recovered_secret}
use Rattle.scheme.specs.Margin.{kept}
use Rattle.scheme.proofs.Margin.{kept_is_range, kept_in_range}
use Rattle.frodo.specs.Keypair.{KeypairLent}
use Rattle.frodo.specs.Encaps.{EncapsLent}
use Rattle.frodo.specs.Decaps.{DecapsLent, DecapsLeft, decaps_done, decaps_leaves, DecapsSecretLent, DecapsSecretLeft, decaps_secret_done, decaps_secret_leaves}
use Rattle.frodo.specs.Margin.{MarginLent, MarginLeft, margin_leaves}
use Rattle.frodo.proofs.DoneWhen.{decaps_done_when, decaps_done_left, decaps_secret_done_when, decaps_secret_done_left, margin_done_when, margin_done_left}
use Rattle.round_trip.specs.RoundTrip.{Trip, SecretTrip, ComesBack, RoundTrip, SecretRoundTrip, Measured, KeptComesBack, MeasuredWhen, KeptExactly}
use Rattle.round_trip.proofs.Sealed.{shared_is, law, opens_to_message, opens_to_secret, margin_fits, fits, secret_sized, sized}

-- ---- decapsulation

module _ {k : KeypairLent} {e : EncapsLent} {d : DecapsLent} (trip : Trip k e d) where
  abbrev p : Params
  p = params_of k.set

  -- it is done, whatever the message is
  pub opening_done : (decaps_leaves d).answer ≡ Done
  opening_done = (decaps_done_when d).1 (fits trip.sealed trip.opens (sized trip.sealed trip.opens trip.msg_long))

  opening : decaps_leaves d ≡ decaps_done d p
  opening = decaps_done_left d opening_done ∙ ap (λ (s : ℕ). decaps_done d (params_of s)) trip.opens.opened_set

  -- what it leaves is what the scheme speaks of
  message_is : (decaps_leaves d).msg ≡ recovered_message p k.seed e.msg e.salt
  message_is = ap (λ (l : DecapsLeft). l.msg) opening ∙ opens_to_message trip.sealed trip.opens

  opened_is : (decaps_leaves d).ss ≡ recovered_secret p k.seed e.msg e.salt
  opened_is = ap (λ (l : DecapsLeft). l.ss) opening ∙ opens_to_secret trip.sealed trip.opens

  back : Below 256 e.msg → ComesBack k e d
  back bytes = record {
    opened = opening_done;
    groupwise = λ i j hi hj. ap (λ (m : List ℕ). get_or (groups_of p.b m) (i * 8 + j) 0) message_is ∙ (law trip.sealed bytes).groupwise i j hi hj;
    message = (λ z. (law trip.sealed bytes).message.0 (sym message_is ∙ z), λ r. message_is ∙ (law trip.sealed bytes).message.1 r);
    secret = λ z. opened_is ∙ (law trip.sealed bytes).secret (sym message_is ∙ z) ∙ sym (shared_is trip.sealed);
  }

pub round_trip : RoundTrip
round_trip k e d trip bytes = back trip bytes

-- ---- decapsulation without the message

module _ {k : KeypairLent} {e : EncapsLent} {d : DecapsSecretLent} (trip : SecretTrip k e d) where
  secret_opening_done : (decaps_secret_leaves d).answer ≡ Done
  secret_opening_done = (decaps_secret_done_when d).1 (fits trip.sealed trip.opens (secret_sized trip.sealed trip.opens))

  secret_opening : decaps_secret_leaves d ≡ decaps_secret_done d (params_of k.set)
  secret_opening = decaps_secret_done_left d secret_opening_done ∙ ap (λ (s : ℕ). decaps_secret_done d (params_of s)) trip.opens.opened_set

  secret_opened_is : (decaps_secret_leaves d).ss ≡ recovered_secret (params_of k.set) k.seed e.msg e.salt
  secret_opened_is = ap (λ (l : DecapsSecretLeft). l.ss) secret_opening ∙ opens_to_secret trip.sealed trip.opens

pub secret_comes_back : SecretRoundTrip
secret_comes_back k e d trip bytes =
    let demand = law trip.sealed bytes in
    record { opened = secret_opening_done trip; secret = λ all. secret_opened_is trip ∙ demand.secret (demand.message.1 all) ∙ sym (shared_is trip.sealed) }

-- ---- the margin

verdict_is : {k : KeypairLent} {e : EncapsLent} {m : MarginLent} → Measured k e m → (margin_leaves m).margin.kept ≡ kept (params_of k.set) k.seed e.msg e.salt
verdict_is {m = m} asked =
    ap (λ (l : MarginLeft). l.margin.kept) (margin_done_left m asked.done)
    ∙ (λ i. kept (params_of (asked.one_set i)) (asked.seed i) (asked.msg i) (asked.salt i))

pub kept_comes_back : KeptComesBack
kept_comes_back k e d m trip bytes asked is =
    let comes = round_trip k e d trip bytes in
    let message = comes.message.1 (kept_in_range (params_of k.set) k.seed e.msg e.salt (sym (verdict_is asked) ∙ is)) in
    (message, comes.secret message)

pub measured_when : MeasuredWhen
measured_when k e m made one_set seed msg salt scratch = record { one_set = one_set; seed = seed; msg = msg; salt = salt; done = (margin_done_when m).1 (margin_fits made m one_set seed msg salt scratch) }

pub kept_exactly_back : KeptExactly
kept_exactly_back k e d m trip bytes asked = (
  λ is. (kept_comes_back k e d m trip bytes asked is).0,
  λ back. verdict_is asked ∙ (kept_is_range (params_of k.set) k.seed e.msg e.salt).1 ((round_trip k e d trip bytes).message.0 back),
)
