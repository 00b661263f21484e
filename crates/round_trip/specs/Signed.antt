-- The third demand (docs/RULES.md, 1.3) of the calls, over the signed numbers that sampling answers (docs/RULES.md, 4.5.3). proofs/Signed.antt proves it.
-- Assumes nothing.
use Rattle.std.specs.Prelude.{◌≡◌, ◌↔◌}
use Rattle.lists.specs.Lists.{Below}
use Rattle.sets.specs.Sets.{params_of}
use Rattle.sizes.specs.Signed.{SignedInRange}
use Rattle.frodo.specs.Keypair.{KeypairLent}
use Rattle.frodo.specs.Encaps.{EncapsLent}
use Rattle.frodo.specs.Decaps.{DecapsLent, decaps_leaves}
use Rattle.round_trip.specs.RoundTrip.{Trip}

-- the message that decapsulation leaves is the sealed one exactly where every entry of S'E + E'' - E'S of these numbers, mod q and centred, is in range
abbrev pub SignedRoundTrip : Type 0
SignedRoundTrip = (k : KeypairLent) (e : EncapsLent) (d : DecapsLent) → Trip k e d → Below 256 e.msg
    → ((decaps_leaves d).msg ≡ e.msg) ↔ SignedInRange (params_of k.set) k.seed e.msg e.salt
