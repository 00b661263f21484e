-- The parts of a ciphertext (docs/RULES.md, 2.2) have their lengths.
-- Assumes nothing.
use mathlib.Core.Path.{◌≡◌, ap, ◌∙◌}
use mathlib.Core.List.{List}
use Prim.Native.Nat.{ℕ, ◌*◌}
use native.Mathlib.Omega.{arith}
use lib.ListN.{length}
use lib.Seq.{length-take-le}
use Rattle.lists.proofs.Spans.{length_mid}
use Rattle.sets.specs.Sets.{Valid}
use Rattle.sets.specs.declared.Params.{Params}
use Rattle.scheme.specs.Decaps.{ct_c1, ct_c2}

module _ (p : Params) (ct : List ℕ) (valid : Valid p) (long : length ct ≡ p.ct) {part : List ℕ} where
  pub c1_long : part ≡ ct_c1 p ct → length part ≡ p.d * p.n
  c1_long e = ap length e ∙ length-take-le (p.d * p.n) ct (omega (arith, long, valid.ct_is))

  pub c2_long : part ≡ ct_c2 p ct → length part ≡ p.d * 8
  c2_long e = ap length e ∙ length_mid (p.d * p.n) (p.d * 8) ct (omega (arith, long, valid.ct_is))
