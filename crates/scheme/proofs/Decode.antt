-- Decoding one group (`group_of` of crate message), whatever was added to its word: g groups, 2h apart, in a circle of q words. The law of each group, for one,
-- and the range in which the added noise does no harm.
-- Assumes nothing.
use mathlib.Core.Path.{◌≡◌, sym, ap, ◌∙◌}
use mathlib.Core.Logic.{◌↔◌}
use Prim.Native.Nat.{ℕ, suc, ◌+◌, ◌*◌, ◌-◌, ◌/◌, ◌%◌, ◌^◌, ◌≤◌, ◌<◌}
use native.Mathlib.Nat.{mod-lt, mod-eq_of_lt, mod_self, mul-pos, mul-add-div_right, div-lt_iff_lt-mul, le-div_iff_mul-le, div-eq_of_lt-le, pow-succ'}
use native.Mathlib.Decide.{dec_lt}
use native.Mathlib.Omega.{arith}
use lib.IntN.{ℤ, pos, sub_ℕ, ◌+ℤ◌}
use lib.Pow.{pow_pos}
use Rattle.algebra.specs.Congruence.{Same, minus}
use Rattle.algebra.specs.Whole.{floor_div, modulo, centred}
use Rattle.algebra.proofs.Congruences.{same_of, same_out, same_refl, same_eq, same_sym, same_trans, same_mod, same_add, same_cancel, same_below, minus_add, minus_lt}
use Rattle.algebra.proofs.Wholes.{sub_plus, plus_sub, floor_sub, modulo_sub, sub_ge_neg, sub_lt_pos}
use Rattle.message.specs.Message.{half, word_of, group_of}
use Rattle.message.specs.Coding.{Coding}
use Rattle.message.proofs.Steps.{whole, twice, half_pos}
use Rattle.scheme.specs.Noise.{InRange}

-- m and floor((e + h) / 2h), mod g, where e stands for its centred value
abbrev pub drifted : (q h g m e : ℕ) → ℕ
drifted q h g m e = modulo (pos m +ℤ floor_div (centred q e +ℤ pos h) (2 * h)) g

module _ (q h g c : ℕ) (hh : 0 < h) (hc : 0 < c) (hg : g ≡ 2 * c) (hq : q ≡ g * (2 * h)) where
  -- there are steps and groups
  step : 0 < 2 * h
  step = omega arith

  some : 0 < g
  some = omega arith

  -- half a turn is c steps
  half_q : q / 2 ≡ c * (2 * h)
  half_q = let e = ap (λ (x : ℕ). x * (2 * h)) hg in omega arith

  -- taking c off m + w, mod g, leaves m exactly where w is c
  half_turn : (m w : ℕ) → m < g → w ≤ g → (minus g (m + w) c ≡ m) ↔ (w ≡ c)
  half_turn m w hm hw = (there, back)
    where
      whole : Same g (minus g (m + w) c + c) (m + w)
      whole = minus_add g (m + w) c some

      there : minus g (m + w) c ≡ m → w ≡ c
      there e = go (dec_lt w g)
        where
          same : Same g c w
          same = same_cancel m (same_trans (same_eq g (omega arith)) (same_trans whole (same_eq g (omega arith))))

          go : Dec (w < g) → w ≡ c
          go (yes l) = sym (same_below (omega arith) l same)
          go (no l) =
              let full : w ≡ g = omega arith in
              omega (arith, same.eq, mod-eq_of_lt {n = c} {m = g} (omega arith), ap (λ (x : ℕ). x % g) full, mod_self g)

      back : w ≡ c → minus g (m + w) c ≡ m
      back e = same_below (minus_lt g (m + w) c some) hm (same_cancel c (same_trans whole (same_eq g (omega arith))))

  -- the step that is nearest to a word
  rounded : ℕ → ℕ
  rounded x = (x + h) / (2 * h)

  -- k steps further it is k more
  rounded_steps : (k x : ℕ) → rounded (k * (2 * h) + x) ≡ k + rounded x
  unfolding rounded
  rounded_steps k x = ap (λ (y : ℕ). y / (2 * h)) (omega arith) ∙ mul-add-div_right step k (x + h)

  -- words that agree mod q have nearest steps that agree mod g
  rounded_same : {x y : ℕ} → Same q x y → Same g (rounded x) (rounded y)
  rounded_same {x} {y} s =
      let turns : (k z : ℕ) → rounded (z + k * q) ≡ k * g + rounded z
      = λ k z. ap rounded (omega (arith, ap (λ (t : ℕ). k * t) hq)) ∙ rounded_steps (k * g) z in
      same_of (y / q) (x / q) (omega (arith, turns (y / q) x, turns (x / q) y, ap rounded (same_out s)))

  -- the word e, half a turn on
  turned : ℕ → ℕ
  turned e = (e + q / 2) % q

  -- there the nearest step is c further on
  rounded_turned : (e : ℕ) → Same g (rounded (turned e)) (c + rounded e)
  unfolding turned
  rounded_turned e =
      same_trans (rounded_same (same_trans (same_mod q (e + q / 2)) (same_eq q {b = c * (2 * h) + e} (omega (arith, half_q)))))
      (same_eq g (rounded_steps c e))

  -- and at most g
  rounded_le : (e : ℕ) → rounded (turned e) ≤ g
  unfolding rounded turned
  rounded_le e =
      let u : (e + q / 2) % q < q = mod-lt (e + q / 2) (omega (arith, mul-pos some hh)) in
      let l : ((e + q / 2) % q + h) / (2 * h) < suc g = (div-lt_iff_lt-mul step).1 (omega arith) in
      omega arith

  -- the drift, without signs
  drifted_is : (m e : ℕ) → drifted q h g m e ≡ minus g (m + rounded (turned e)) c
  unfolding rounded turned
  drifted_is m e =
      ap (λ (z : ℤ). modulo (pos m +ℤ floor_div z (2 * h)) g)
      (sub_plus ((e + q / 2) % q) (q / 2) h ∙ ap (λ (y : ℕ). sub_ℕ ((e + q / 2) % q + h) y) half_q)
      ∙ ap (λ (z : ℤ). modulo (pos m +ℤ z) g) (floor_sub ((e + q / 2) % q + h) c (2 * h) step)
      ∙ ap (λ (z : ℤ). modulo z g) (plus_sub m (((e + q / 2) % q + h) / (2 * h)) c)
      ∙ modulo_sub g (m + ((e + q / 2) % q + h) / (2 * h)) c some

  -- a word that is m steps and e, mod q, decodes to m and its drift
  decoded_drifts : (m e w : ℕ) → Same q w (m * (2 * h) + e) → rounded (w % q) % g ≡ drifted q h g m e
  decoded_drifts m e w s =
      same_below (mod-lt (rounded (w % q)) some) (minus_lt g (m + rounded (turned e)) c some)
      (same_cancel c
      (same_trans
      (same_add (same_trans (same_mod g (rounded (w % q))) (same_trans (rounded_same (same_trans (same_mod q w) s)) (same_eq g (rounded_steps m e)))) (same_refl g c))
      (same_sym
      (same_trans (minus_add g (m + rounded (turned e)) c some)
      (same_trans (same_add (same_refl g m) (rounded_turned e)) (same_eq g (omega arith)))))))
      ∙ sym (drifted_is m e)

  -- half a turn on, the nearest step is c exactly where the centred value is in range
  in_range_lem : (e : ℕ) → (rounded (turned e) ≡ c) ↔ InRange h (centred q e)
  unfolding rounded turned
  in_range_lem e =
      let u = (e + q / 2) % q in (
        λ t. record {
          low = (sub_ge_neg u (q / 2) h).1 (omega (arith, half_q, (le-div_iff_mul-le {x = c} {y = u + h} step).0 (omega arith)));
          high = (sub_lt_pos u (q / 2) h).1 (omega (arith, half_q, (div-lt_iff_lt-mul {x = u + h} {y = suc c} step).0 (omega arith)));
        },
        λ r. div-eq_of_lt-le (2 * h) (omega (arith, half_q, (sub_ge_neg u (q / 2) h).0 r.low)) (omega (arith, half_q, (sub_lt_pos u (q / 2) h).0 r.high)),
      )

  -- nothing is added exactly there
  drifts_not : (m e : ℕ) → m < g → (drifted q h g m e ≡ m) ↔ InRange h (centred q e)
  drifts_not m e l =
      let t = half_turn m (rounded (turned e)) l (rounded_le e) in
      let r = in_range_lem e in
      (λ d. r.0 (t.0 (sym (drifted_is m e) ∙ d)), λ d. drifted_is m e ∙ t.1 (r.1 d))

-- ---- the same in a set's q and b

module _ {q b : ℕ} (k : Coding q b) where
  -- the count of groups is even
  even : 2 ^ b ≡ 2 * 2 ^ (b - 1)
  even = ap (λ (x : ℕ). 2 ^ x) (omega (arith, k.b_low)) ∙ pow-succ' 2 (b - 1)

  -- q words are as many steps as there are groups
  steps : q ≡ 2 ^ b * (2 * half q b)
  steps = sym (whole k) ∙ ap (λ (x : ℕ). 2 ^ b * x) (sym (twice k))

  -- the law of each group, for one: its word with e added decodes to the group and floor((e + h) / 2h), mod 2^b
  pub group_drifts : (m e w : ℕ) → Same q w (word_of q b m + e) → group_of q b w ≡ drifted q (half q b) (2 ^ b) m e
  unfolding group_of word_of rounded
  group_drifts m e w s =
      decoded_drifts q (half q b) (2 ^ b) (2 ^ (b - 1)) (half_pos k) (pow_pos (b - 1)) even steps m e w
      (same_trans s (same_eq q (ap (λ (x : ℕ). m * x + e) (sym (twice k)))))

  -- it decodes to the group exactly where e is in range
  pub group_kept : (m e : ℕ) → m < 2 ^ b → (drifted q (half q b) (2 ^ b) m e ≡ m) ↔ InRange (half q b) (centred q e)
  group_kept m e l = drifts_not q (half q b) (2 ^ b) (2 ^ (b - 1)) (half_pos k) (pow_pos (b - 1)) even steps m e l
