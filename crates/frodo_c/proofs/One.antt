-- Each call of the C interface has one outcome of one input: one number, and one content of each buffer lent.
-- Assumes nothing.
use mathlib.Core.Path.{◌≡◌, refl, sym, ap, ◌∙◌}
use Prim.Native.Nat.{ℕ}
use Rattle.sets.specs.Answers.{number_of}
use Rattle.sets.specs.Answers.{Answer, Done}
use Rattle.ratio.specs.Answered.{MarginAnswer}
use Rattle.frodo.specs.Keypair.{KeypairLent, KeypairLeft}
use Rattle.frodo.specs.Encaps.{EncapsLent, EncapsLeft}
use Rattle.frodo.specs.Decaps.{DecapsLent, DecapsLeft, DecapsSecretLent, DecapsSecretLeft}
use Rattle.frodo.specs.Margin.{MarginLent, MarginLeft}
use Rattle.frodo.specs.One.{OneOutcome, Keypair, Encaps, Decaps, DecapsSecret, Margins}
use Rattle.frodo.proofs.One.{keypair_one, encaps-one, decaps_one, decaps_secret_one, margin_one}
use Rattle.frodo_c.specs.Call.{Call, MarginCall, margin_of}
use Rattle.frodo_c.specs.declared.FrodoMargin.{FrodoMargin}

-- where the crate's call has one outcome, so has the call that answers its number: `with l a` is what is left, l, with the answer a in it
module _ {Lent Left : Type 0} (R : Lent → Left → Type 0) (one : OneOutcome R) (with : Left → Answer → Left) (answer : Left → Answer)
    (told : (l : Left) (a : Answer) → answer (with l a) ≡ a) (again : (l : Left) (a : Answer) → with (with l a) Done ≡ with l Done) where
  number_one : (i : Lent) (x y : Left) (r s : ℕ) → Call (λ a. R i (with x a)) r → Call (λ a. R i (with y a)) s → (r ≡ s) × (with x Done ≡ with y Done)
  number_one i x y r s c d =
      let e = one i (with x c.answer) (with y d.answer) c.holds d.holds in (
        c.number ∙ ap number_of (sym (told x c.answer) ∙ ap answer e ∙ told y d.answer) ∙ sym d.number,
        sym (again x c.answer) ∙ ap (λ l. with l Done) e ∙ again y d.answer,
      )

abbrev keypair_with : KeypairLeft → Answer → KeypairLeft
keypair_with l a = record { answer = a; seed = l.seed; pk = l.pk; sk = l.sk; noise = l.noise; work = l.work }

pub keypair_number_one : (i : KeypairLent) (x y : KeypairLeft) (r s : ℕ)
    → Call (λ a. Keypair i (keypair_with x a)) r → Call (λ a. Keypair i (keypair_with y a)) s → (r ≡ s) × (keypair_with x Done ≡ keypair_with y Done)
keypair_number_one = number_one Keypair keypair_one keypair_with (λ l. l.answer) (λ l a. refl) (λ l a. refl)

abbrev encaps_with : EncapsLeft → Answer → EncapsLeft
encaps_with l a = record { answer = a; ct = l.ct; ss = l.ss; noise = l.noise; work = l.work }

pub encaps_number_one : (i : EncapsLent) (x y : EncapsLeft) (r s : ℕ)
    → Call (λ a. Encaps i (encaps_with x a)) r → Call (λ a. Encaps i (encaps_with y a)) s → (r ≡ s) × (encaps_with x Done ≡ encaps_with y Done)
encaps_number_one = number_one Encaps encaps-one encaps_with (λ l. l.answer) (λ l a. refl) (λ l a. refl)

abbrev decaps_with : DecapsLeft → Answer → DecapsLeft
decaps_with l a = record { answer = a; ss = l.ss; msg = l.msg; noise = l.noise; work = l.work }

pub decaps_number_one : (i : DecapsLent) (x y : DecapsLeft) (r s : ℕ)
    → Call (λ a. Decaps i (decaps_with x a)) r → Call (λ a. Decaps i (decaps_with y a)) s → (r ≡ s) × (decaps_with x Done ≡ decaps_with y Done)
decaps_number_one = number_one Decaps decaps_one decaps_with (λ l. l.answer) (λ l a. refl) (λ l a. refl)

abbrev secret_with : DecapsSecretLeft → Answer → DecapsSecretLeft
secret_with l a = record { answer = a; ss = l.ss; noise = l.noise; work = l.work }

pub decaps_secret_number_one : (i : DecapsSecretLent) (x y : DecapsSecretLeft) (r s : ℕ)
    → Call (λ a. DecapsSecret i (secret_with x a)) r → Call (λ a. DecapsSecret i (secret_with y a)) s → (r ≡ s) × (secret_with x Done ≡ secret_with y Done)
decaps_secret_number_one = number_one DecapsSecret decaps_secret_one secret_with (λ l. l.answer) (λ l a. refl) (λ l a. refl)

-- the margin: what is left has the margin in it, and the struct is a function of that
abbrev margin_with : MarginLeft → MarginAnswer → MarginLeft
margin_with l m = record { margin = m; noise = l.noise; work = l.work }

pub margin_struct_one : (i : MarginLent) (x y : MarginLeft) (r s : FrodoMargin)
    → MarginCall (λ m. Margins i (margin_with x m)) r → MarginCall (λ m. Margins i (margin_with y m)) s → (r ≡ s) × (x.noise ≡ y.noise) × (x.work ≡ y.work)
margin_struct_one i x y r s c d =
    let e = margin_one i (margin_with x c.margin) (margin_with y d.margin) c.holds d.holds in
    (c.is ∙ ap (λ l. margin_of l.margin) e ∙ sym d.is, ap (λ l. l.noise) e, ap (λ l. l.work) e)
