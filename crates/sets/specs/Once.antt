-- `Valid` is a fact: of one record there are no two proofs of it, so that a struct of the code may carry one.
-- Assumes nothing.
use Rattle.std.proofs.Common.{sym, ap, ◌∙◌, refl, inl, inr}
use Rattle.std.proofs.Props.{props}
use Rattle.std.proofs.lemmas.Bool.{eqb-false}
use Rattle.std.proofs.Math.Nat.{ℕ_set}
use Rattle.std.specs.Prelude.{◌≡◌, false, ◌⊎◌, ℕ, eqb}
use Rattle.sets.specs.declared.Params.{Params}
use Rattle.sets.specs.Sets.{Valid}

-- one of two numbers that differ, in one way
one_of : {n a b : ℕ} → eqb a b ≡ false → IsProp ((n ≡ a) ⊎ (n ≡ b))
one_of d (inl x) (inl y) = ap inl (ℕ_set _ _ x y)
one_of d (inr x) (inr y) = ap inr (ℕ_set _ _ x y)
one_of {n} {a} {b} d (inl x) (inr y) = absurd (eqb-false a b d (sym x ∙ y))
one_of {n} {a} {b} d (inr x) (inl y) = absurd (eqb-false a b d (sym y ∙ x))

bits_of : (p : Params) → IsProp ((p.d ≡ 15) ⊎ (p.d ≡ 16))
bits_of p = one_of refl

rate_of : (p : Params) → IsProp ((p.rate ≡ 168) ⊎ (p.rate ≡ 136))
rate_of p = one_of refl

pub once : (p : Params) → IsProp (Valid p)
once p = Prim.hlevel (props, bits_of p, rate_of p)
