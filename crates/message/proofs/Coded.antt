-- A q has one number of bits, so that `Coding q b` is a fact, and no choice.
-- Assumes nothing.
use mathlib.Core.Path.{◌≡◌, refl, sym, ap, ◌∙◌}
use mathlib.Core.HLevel.{is_prop→PathP}
use mathlib.Core.Logic.{∥∥₁_elim}
use Prim.Native.Nat.{ℕ, zero, suc, ◌^◌, ◌≤◌, ◌<◌}
use native.Mathlib.Nat.{pow-suc, pow-zero}
use native.Mathlib.Omega.{arith}
use lib.Pow.{pow_pos}
use Rattle.std.proofs.Props.{props}
use Rattle.message.specs.Coding.{Coding}

-- powers of two differ where their exponents do
same_power : (m n : ℕ) → 2 ^ m ≡ 2 ^ n → m ≡ n
same_power zero zero e = refl
same_power zero (suc n) e = absurd (omega (arith, e, pow-zero 2, pow-suc 2 n, pow_pos n))
same_power (suc m) zero e = absurd (omega (arith, e, pow-zero 2, pow-suc 2 m, pow_pos m))
same_power (suc m) (suc n) e = ap suc (same_power m n (omega (arith, e, pow-suc 2 m, pow-suc 2 n)))

coding_fact : (q b : ℕ) → IsProp (Coding q b)
coding_fact q b x y =
    let e : x.d ≡ y.d = same_power x.d y.d (sym x.q_is ∙ y.q_is) in
    λ i. record {
      d = e i;
      q_is = is_prop→PathP (λ j. q ≡ 2 ^ e j) (λ j. Prim.hlevel props) x.q_is y.q_is i;
      d_high = is_prop→PathP (λ j. e j ≤ 16) (λ j. Prim.hlevel props) x.d_high y.d_high i;
      b_room = is_prop→PathP (λ j. b < e j) (λ j. Prim.hlevel props) x.b_room y.b_room i;
      b_low = is_prop→PathP (λ j. 1 ≤ b) (λ j. Prim.hlevel props) x.b_low y.b_low i;
      b_high = is_prop→PathP (λ j. b ≤ 4) (λ j. Prim.hlevel props) x.b_high y.b_high i;
    }

-- what the field of a coder says
pub coded : {q b : ℕ} → ∥ Coding q b ∥₁ → Coding q b
coded {q} {b} h = ∥∥₁_elim h (coding_fact q b) (λ k. k)
