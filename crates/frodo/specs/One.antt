-- docs/RULES.md, 6.1: of one input a call's contract admits one outcome.
-- Assumes nothing.
use Rattle.std.specs.Prelude.{◌≡◌}
use Rattle.frodo.specs.Keypair.{KeypairLent, KeypairLeft, keypair_leaves}
use Rattle.frodo.specs.Encaps.{EncapsLent, EncapsLeft, encaps_leaves}
use Rattle.frodo.specs.Decaps.{DecapsLent, DecapsLeft, decaps_leaves, DecapsSecretLent, DecapsSecretLeft, decaps_secret_leaves}
use Rattle.frodo.specs.Margin.{MarginLent, MarginLeft, margin_leaves}

-- what the contracts say: what is left is a definition of what was lent
abbrev pub Keypair : KeypairLent → KeypairLeft → Type 0
Keypair i o = o ≡ keypair_leaves i

abbrev pub Encaps : EncapsLent → EncapsLeft → Type 0
Encaps i o = o ≡ encaps_leaves i

abbrev pub Decaps : DecapsLent → DecapsLeft → Type 0
Decaps i o = o ≡ decaps_leaves i

abbrev pub DecapsSecret : DecapsSecretLent → DecapsSecretLeft → Type 0
DecapsSecret i o = o ≡ decaps_secret_leaves i

abbrev pub Margins : MarginLent → MarginLeft → Type 0
Margins i o = o ≡ margin_leaves i

-- a contract under which any two outcomes of one input coincide
abbrev pub OneOutcome : {Lent Left : Type 0} → (Lent → Left → Type 0) → Type 0
OneOutcome {Lent} {Left} R = (i : Lent) (x y : Left) → R i x → R i y → x ≡ y
