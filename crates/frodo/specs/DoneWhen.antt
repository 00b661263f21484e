-- When a call is done (docs/RULES.md, 3): exactly where its number is a set and each of its buffers has the set's length. proofs/DoneWhen.antt proves it.
-- Assumes nothing.
use Rattle.std.specs.Prelude.{◌≡◌, ◌↔◌, true, ℕ, length}
use Rattle.sets.specs.Sets.{known, params_of}
use Rattle.sets.specs.declared.Params.{Params}
use Rattle.sets.specs.Answers.{Answer, Done}
use Rattle.lengths.specs.Sized.{KeypairSized, EncapsSized, DecapsSized, DecapsSecretSized, MarginSized}
use Rattle.frodo.specs.Keypair.{KeypairLent, keypair_leaves}
use Rattle.frodo.specs.Encaps.{EncapsLent, encaps_leaves}
use Rattle.frodo.specs.Decaps.{DecapsLent, decaps_leaves, DecapsSecretLent, decaps_secret_leaves}
use Rattle.frodo.specs.Margin.{MarginLent, margin_leaves}

-- the number is a set, and the lengths are that set's. (The record of the lengths says `Valid` of the set besides: every set is.)
pub record Fits (set : ℕ) (Sized : Params → Type 0) : Type 0 where
  pub a_set : known set ≡ true
  pub sized : Sized (params_of set)

abbrev pub KeypairFits : KeypairLent → Type 0
KeypairFits i = Fits i.set (λ p. KeypairSized p (length i.seed) (length i.pk) (length i.sk) (length i.noise) (length i.work))

abbrev pub EncapsFits : EncapsLent → Type 0
EncapsFits i = Fits i.set (λ p. EncapsSized p (length i.pk) (length i.msg) (length i.salt) (length i.ct) (length i.ss) (length i.noise) (length i.work))

abbrev pub DecapsFits : DecapsLent → Type 0
DecapsFits i = Fits i.set (λ p. DecapsSized p (length i.sk) (length i.ct) (length i.ss) (length i.msg) (length i.noise) (length i.work))

abbrev pub DecapsSecretFits : DecapsSecretLent → Type 0
DecapsSecretFits i = Fits i.set (λ p. DecapsSecretSized p (length i.sk) (length i.ct) (length i.ss) (length i.noise) (length i.work))

abbrev pub MarginFits : MarginLent → Type 0
MarginFits i = Fits i.set (λ p. MarginSized p (length i.seed) (length i.msg) (length i.salt) (length i.noise) (length i.work))

-- of all that a call may be lent, it answers `Done` of what fits and of nothing else
abbrev pub DoneWhen : {Lent : Type 0} → (Lent → Answer) → (Lent → Type 0) → Type 0
DoneWhen {Lent} answer Fit = (i : Lent) → (answer i ≡ Done) ↔ Fit i

abbrev pub KeypairDoneWhen : Type 0
KeypairDoneWhen = DoneWhen (λ i. (keypair_leaves i).answer) KeypairFits

abbrev pub EncapsDoneWhen : Type 0
EncapsDoneWhen = DoneWhen (λ i. (encaps_leaves i).answer) EncapsFits

abbrev pub DecapsDoneWhen : Type 0
DecapsDoneWhen = DoneWhen (λ i. (decaps_leaves i).answer) DecapsFits

abbrev pub DecapsSecretDoneWhen : Type 0
DecapsSecretDoneWhen = DoneWhen (λ i. (decaps_secret_leaves i).answer) DecapsSecretFits

abbrev pub MarginDoneWhen : Type 0
MarginDoneWhen = DoneWhen (λ i. (margin_leaves i).margin.answer) MarginFits
