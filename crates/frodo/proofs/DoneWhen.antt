-- Each call is done exactly where its number is a set and its buffers have the set's lengths (specs/DoneWhen.antt); and what it then leaves.
-- Assumes nothing.
use mathlib.Core.Path.{◌≡◌, refl}
use Rattle.sets.specs.Sets.{params_of}
use Rattle.sets.specs.Answers.{Done}
use Rattle.lengths.proofs.Shown.{keypair_shown, encaps_shown, decaps_shown, decaps_secret_shown, margin_shown}
use Rattle.lengths.proofs.Fits.{keypair_fits, encaps_fits, decaps_fits, decaps_secret_fits, margin_fits}
use Rattle.frodo.specs.Keypair.{KeypairLent, KeypairLeft, keypair_tests, keypair_done, keypair_refused, keypair_leaves}
use Rattle.frodo.specs.Encaps.{EncapsLent, EncapsLeft, encaps_tests, encaps_done, encaps_refused, encaps_leaves}
use Rattle.frodo.specs.Decaps.{DecapsLent, DecapsLeft, decaps_tests, decaps_done, decaps_refused, decaps_leaves}
use Rattle.frodo.specs.Decaps.{DecapsSecretLent, DecapsSecretLeft, decaps_secret_tests, decaps_secret_done, decaps_secret_refused, decaps_secret_leaves}
use Rattle.frodo.specs.Margin.{MarginLent, MarginLeft, margin_tests, margin_done, margin_refused, margin_leaves}
use Rattle.frodo.specs.DoneWhen.{KeypairDoneWhen, EncapsDoneWhen, DecapsDoneWhen, DecapsSecretDoneWhen, MarginDoneWhen}
use Rattle.frodo.proofs.Outcomes.{Called}
use Rattle.frodo.proofs.Told.{done_left, done_when}

-- ---- key generation

abbrev pub keypair : KeypairLent → Called KeypairLeft
keypair i = record { set = i.set; tests = keypair_tests i; done = keypair_done i; refused = keypair_refused i; answer = λ l. l.answer; is_done = λ p. refl; is_refused = λ a. refl }

pub keypair_done_when : KeypairDoneWhen
unfolding keypair_leaves
keypair_done_when i = done_when (keypair i) (λ p v e. keypair_shown p v _ _ _ _ _ e) (λ p s. keypair_fits s)

pub keypair_done_left : (i : KeypairLent) → (keypair_leaves i).answer ≡ Done → keypair_leaves i ≡ keypair_done i (params_of i.set)
unfolding keypair_leaves
keypair_done_left i = done_left (keypair i)

-- ---- encapsulation

abbrev pub encaps : EncapsLent → Called EncapsLeft
encaps i = record { set = i.set; tests = encaps_tests i; done = encaps_done i; refused = encaps_refused i; answer = λ l. l.answer; is_done = λ p. refl; is_refused = λ a. refl }

pub encaps_done_when : EncapsDoneWhen
unfolding encaps_leaves
encaps_done_when i = done_when (encaps i) (λ p v e. encaps_shown p v _ _ _ _ _ _ _ e) (λ p s. encaps_fits s)

pub encaps_done_left : (i : EncapsLent) → (encaps_leaves i).answer ≡ Done → encaps_leaves i ≡ encaps_done i (params_of i.set)
unfolding encaps_leaves
encaps_done_left i = done_left (encaps i)

-- ---- decapsulation with the message

abbrev pub decaps : DecapsLent → Called DecapsLeft
decaps i = record { set = i.set; tests = decaps_tests i; done = decaps_done i; refused = decaps_refused i; answer = λ l. l.answer; is_done = λ p. refl; is_refused = λ a. refl }

pub decaps_done_when : DecapsDoneWhen
unfolding decaps_leaves
decaps_done_when i = done_when (decaps i) (λ p v e. decaps_shown p v _ _ _ _ _ _ e) (λ p s. decaps_fits s)

pub decaps_done_left : (i : DecapsLent) → (decaps_leaves i).answer ≡ Done → decaps_leaves i ≡ decaps_done i (params_of i.set)
unfolding decaps_leaves
decaps_done_left i = done_left (decaps i)

-- ---- and without

abbrev pub decaps_secret : DecapsSecretLent → Called DecapsSecretLeft
decaps_secret i = record { set = i.set; tests = decaps_secret_tests i; done = decaps_secret_done i; refused = decaps_secret_refused i; answer = λ l. l.answer; is_done = λ p. refl; is_refused = λ a. refl }

pub decaps_secret_done_when : DecapsSecretDoneWhen
unfolding decaps_secret_leaves
decaps_secret_done_when i = done_when (decaps_secret i) (λ p v e. decaps_secret_shown p v _ _ _ _ _ e) (λ p s. decaps_secret_fits s)

pub decaps_secret_done_left : (i : DecapsSecretLent) → (decaps_secret_leaves i).answer ≡ Done → decaps_secret_leaves i ≡ decaps_secret_done i (params_of i.set)
unfolding decaps_secret_leaves
decaps_secret_done_left i = done_left (decaps_secret i)

-- ---- margin

abbrev pub margin : MarginLent → Called MarginLeft
margin i = record { set = i.set; tests = margin_tests i; done = margin_done i; refused = margin_refused i; answer = λ l. l.margin.answer; is_done = λ p. refl; is_refused = λ a. refl }

pub margin_done_when : MarginDoneWhen
unfolding margin_leaves
margin_done_when i = done_when (margin i) (λ p v e. margin_shown p v _ _ _ _ _ e) (λ p s. margin_fits s)

pub margin_done_left : (i : MarginLent) → (margin_leaves i).margin.answer ≡ Done → margin_leaves i ≡ margin_done i (params_of i.set)
unfolding margin_leaves
margin_done_left i = done_left (margin i)
