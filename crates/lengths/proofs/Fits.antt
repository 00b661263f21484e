-- Where a call's lengths are right its tests answer `Done`: the converse of Shown.antt.
-- Assumes nothing.
use mathlib.Core.Path.{◌≡◌, refl, ap, ◌∙◌}
use mathlib.Core.Bool.{Bool, true}
use Prim.Native.Nat.{ℕ, ◌≤◌}
use borrow.Author.Tests.{eq-eqb, le-leb}
use lib.Dec.{eqb, leb}
use Rattle.sets.specs.declared.Params.{Params}
use Rattle.sets.specs.Answers.{Answer, Done}
use Rattle.sets.specs.declared.Refusal.{Refusal}
use Rattle.sets.specs.declared.Refusal.TheVariants.{SeedLength, PublicKeyLength, SecretKeyLength, CiphertextLength, MessageLength, SaltLength, SharedSecretLength, ScratchLength}
use Rattle.lengths.specs.Refusals.{unless, scratch_test, keypair_test, encaps_test, decaps_test, decaps_secret_test, margin_test}
use Rattle.lengths.specs.Sized.{Scratch, KeypairSized, EncapsSized, DecapsSized, DecapsSecretSized, MarginSized}

-- a test that holds leaves it to the later ones
pub holds : (a : Refusal) (b : Bool) (later : Answer) → b ≡ true → later ≡ Done → unless a b later ≡ Done
holds a b later e l = ap (λ (t : Bool). unless a t later) e ∙ l

equal : (a : Refusal) (x y : ℕ) (later : Answer) → x ≡ y → later ≡ Done → unless a (eqb x y) later ≡ Done
equal a x y later e l = holds a (eqb x y) later (eq-eqb x y e) l

within : (x y : ℕ) (later : Answer) → x ≤ y → later ≡ Done → unless ScratchLength (leb x y) later ≡ Done
within x y later h l = holds ScratchLength (leb x y) later (le-leb x y h) l

-- both scratches are long enough
pub scratch_fits : {p : Params} {noise work : ℕ} → Scratch p noise work → scratch_test p noise work ≡ Done
scratch_fits {p} {noise} {work} s = within p.noise noise _ s.noise_room (within p.work work _ s.work_room refl)

-- key generation's lengths
pub keypair_fits : {p : Params} {seed pk sk noise work : ℕ} → KeypairSized p seed pk sk noise work → keypair_test p seed pk sk noise work ≡ Done
keypair_fits s =
    equal SeedLength _ _ _ s.seed_long
    (equal PublicKeyLength _ _ _ s.pk_long
    (equal SecretKeyLength _ _ _ s.sk_long
    (scratch_fits s.scratch)))

-- encapsulation's
pub encaps_fits : {p : Params} {pk msg salt ct ss noise work : ℕ} → EncapsSized p pk msg salt ct ss noise work → encaps_test p pk msg salt ct ss noise work ≡ Done
encaps_fits s =
    equal PublicKeyLength _ _ _ s.pk_long
    (equal CiphertextLength _ _ _ s.ct_long
    (equal MessageLength _ _ _ s.msg_long
    (equal SaltLength _ _ _ s.salt_long
    (equal SharedSecretLength _ _ _ s.ss_long
    (scratch_fits s.scratch)))))

-- decapsulation's, with the message
pub decaps_fits : {p : Params} {sk ct ss msg noise work : ℕ} → DecapsSized p sk ct ss msg noise work → decaps_test p sk ct ss msg noise work ≡ Done
decaps_fits s =
    equal SecretKeyLength _ _ _ s.sk_long
    (equal CiphertextLength _ _ _ s.ct_long
    (equal MessageLength _ _ _ s.msg_long
    (equal SharedSecretLength _ _ _ s.ss_long
    (scratch_fits s.scratch))))

-- and without
pub decaps_secret_fits : {p : Params} {sk ct ss noise work : ℕ} → DecapsSecretSized p sk ct ss noise work → decaps_secret_test p sk ct ss noise work ≡ Done
decaps_secret_fits s =
    equal SecretKeyLength _ _ _ s.sk_long
    (equal CiphertextLength _ _ _ s.ct_long
    (equal SharedSecretLength _ _ _ s.ss_long
    (scratch_fits s.scratch)))

-- the margin's
pub margin_fits : {p : Params} {seed msg salt noise work : ℕ} → MarginSized p seed msg salt noise work → margin_test p seed msg salt noise work ≡ Done
margin_fits s =
    equal SeedLength _ _ _ s.seed_long
    (equal MessageLength _ _ _ s.msg_long
    (equal SaltLength _ _ _ s.salt_long
    (scratch_fits s.scratch)))
