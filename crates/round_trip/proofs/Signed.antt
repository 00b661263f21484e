-- The third demand of the calls over signed numbers (specs/Signed.antt): the range is that of the words.
-- Assumes nothing.
use Rattle.sets.specs.Sets.{params_of}
use Rattle.sets.proofs.Facts.{valid}
use Rattle.sizes.proofs.Signed.{range_signed}
use Rattle.round_trip.specs.Signed.{SignedRoundTrip}
use Rattle.round_trip.proofs.RoundTrip.{round_trip}

pub signed_round_trip : SignedRoundTrip
signed_round_trip k e d trip bytes =
    let back = (round_trip k e d trip bytes).message in
    let range = range_signed (params_of k.set) (valid k.set) k.seed e.msg e.salt in
    (λ m. range.0 (back.0 m), λ r. back.1 (range.1 r))
