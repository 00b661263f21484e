-- The laws of the margin (specs/Margin.antt): size and verdict as loops gather them and as code finds those of a word, and that the message comes back exactly
-- where the verdict is kept.
-- Assumes nothing.
use mathlib.Core.Path.{◌≡◌, refl, sym, ap, ap₂, ◌∙◌, subst}
use mathlib.Core.Logic.{inl, inr, ◌↔◌}
use mathlib.Core.Bool.{Bool, true, ◌&&◌, and-true}
use mathlib.Core.List.{List}
use Prim.Native.Nat.{ℕ, zero, suc, ◌+◌, ◌*◌, ◌-◌, ◌/◌, ◌%◌, ◌≤◌, ◌<◌, max}
use native.Mathlib.Nat.{mod-lt, mod-eq_of_lt, add-mod_right, not-suc-le-zero, le-suc_iff, suc_inj}
use native.Mathlib.Numerals.{add-one}
use native.Mathlib.Omega.{arith}
use lib.Dec.{T, leb, ltb, leb-zero, leb-suc-zero, leb-suc-suc}
use lib.IntN.{ℤ, pos, negsuc, neg_ℤ, nat_abs}
use lib.ListN.{length, get_or}
use lib.Signed.{le_z, lt_z}
use lib.Ieee.Bits.{is_true}
use Rattle.lists.specs.Lists.{Below}
use Rattle.lists.proofs.Tables.{both_true}
use Rattle.algebra.specs.Whole.{centred}
use Rattle.algebra.proofs.Tables.{length_table, get_d_table}
use Rattle.algebra.proofs.Wholes.{at_least, below, size_sub, sub_ge_neg, sub_lt_pos}
use Rattle.sets.specs.Sets.{Valid}
use Rattle.sets.specs.declared.Params.{Params}
use Rattle.message.specs.Message.{half}
use Rattle.scheme.specs.KeyGen.{public_key}
use Rattle.scheme.specs.Encaps.{shared_secret}
use Rattle.scheme.specs.Noise.{noise_at, centred_at, InRange, AllInRange}
use Rattle.scheme.specs.Margin.{largest, size_of, largest_size, in_range, every, kept_by, noise_table, margin_size, kept}
use Rattle.scheme.specs.Demand3.{recovered_message, recovered_secret}
use Rattle.scheme.proofs.Parts.{q_pos}
use Rattle.scheme.proofs.Demand3.{demand3}

-- ---- the largest of some numbers

-- one more, in the form of a loop's step
pub largest_next : (n : ℕ) (f : ℕ → ℕ) → largest (n + 1) f ≡ max (largest n f) (f n)
unfolding largest
largest_next n f = ap (λ (k : ℕ). largest k f) (add-one n)

-- each of them is at most as large
pub largest_le : (n : ℕ) (f : ℕ → ℕ) (k : ℕ) → k < n → f k ≤ largest n f
unfolding largest
largest_le zero f k l = absurd (not-suc-le-zero l)
largest_le (suc n) f k l =
    elim (le-suc_iff.0 l) [
      | inl h ↦ let before = largest_le n f k h in omega arith
      | inr e ↦ let last = ap f (suc_inj e) in omega arith
    ]

-- all of them are below what each is below
pub largest_below : (n b : ℕ) (f : ℕ → ℕ) → 0 < b → ((k : ℕ) → f k < b) → largest n f < b
unfolding largest
largest_below zero b f some h = some
largest_below (suc n) b f some h = let before = largest_below n b f some h in let last = h n in omega arith

-- and at most what each is at most
largest_most : (n m : ℕ) (f : ℕ → ℕ) → ((k : ℕ) → k < n → f k ≤ m) → largest n f ≤ m
unfolding largest
largest_most zero m f g = omega arith
largest_most (suc n) m f g = omega (arith, largest_most n m f (λ k l. g k (omega arith)), g n (omega arith))

-- ---- the centred value of a word

-- below half of q a word is its centred value
centred_low : (c x : ℕ) → x < c → centred (2 * c) x ≡ pos x
centred_low c x l =
    let half_q : 2 * c / 2 ≡ c = omega arith in
    let turned : (x + 2 * c / 2) % (2 * c) ≡ x + c = ap (λ (h : ℕ). (x + h) % (2 * c)) half_q ∙ mod-eq_of_lt (omega arith) in
    let value : (x + 2 * c / 2) % (2 * c) - 2 * c / 2 ≡ x = omega arith in
    at_least ((x + 2 * c / 2) % (2 * c)) (2 * c / 2) (omega arith) ∙ ap pos value

-- from there on that is the word less q
centred_high : (c x : ℕ) → c ≤ x → x < 2 * c → centred (2 * c) x ≡ negsuc (2 * c - suc x)
centred_high c x l h =
    let half_q : 2 * c / 2 ≡ c = omega arith in
    let once : x + 2 * c / 2 ≡ x - c + 2 * c = omega arith in
    let turned : (x + 2 * c / 2) % (2 * c) ≡ x - c = ap (λ (z : ℕ). z % (2 * c)) once ∙ add-mod_right (x - c) (2 * c) ∙ mod-eq_of_lt (omega arith) in
    let value : 2 * c / 2 - suc ((x + 2 * c / 2) % (2 * c)) ≡ 2 * c - suc x = omega arith in
    below ((x + 2 * c / 2) % (2 * c)) (2 * c / 2) (omega arith) ∙ ap negsuc value

-- ---- the size of a word

-- below half of q a word's size is the word itself
pub size_low : (c x : ℕ) → x < c → size_of (2 * c) x ≡ x
size_low c x l = ap nat_abs (centred_low c x l)

-- from there on it is what the word lacks to q
pub size_high : (c x : ℕ) → c ≤ x → x < 2 * c → size_of (2 * c) x ≡ 2 * c - x
size_high c x l h = ap nat_abs (centred_high c x l h) ∙ omega arith

-- the size of any word is below q
size_below : (q x : ℕ) → 0 < q → size_of q x < q
size_below q x some = omega (arith, size_sub ((x + q / 2) % q) (q / 2), mod-lt (x + q / 2) some)

-- a word whose size is below h is in range
size_in_range : (q h x : ℕ) → size_of q x < h → InRange h (centred q x)
size_in_range q h x l =
    let u = (x + q / 2) % q in
    record { low = (sub_ge_neg u (q / 2) h).1 (omega (arith, size_sub u (q / 2))); high = (sub_lt_pos u (q / 2) h).1 (omega (arith, size_sub u (q / 2))) }

-- and the size of a word in range is at most h
range_size : (q h x : ℕ) → InRange h (centred q x) → size_of q x ≤ h
range_size q h x r =
    let u = (x + q / 2) % q in
    omega (arith, size_sub u (q / 2), (sub_ge_neg u (q / 2) h).0 r.low, (sub_lt_pos u (q / 2) h).0 r.high)

-- ---- the verdict on a word

-- of a number that is not negative, the upper end decides
range_pos : (h n : ℕ) → in_range h (pos n) ≡ ltb n h
range_pos zero n = ap (λ (b : Bool). b && ltb n 0) (leb-zero n)
range_pos (suc h) n = refl

-- of a negative one, the lower end
range_neg : (h n : ℕ) → in_range h (negsuc n) ≡ leb (suc n) h
range_neg zero n = sym (leb-suc-zero n)
range_neg (suc h) n = and-true (leb n h) ∙ sym (leb-suc-suc n h)

-- below half of q a word is in range where it is below h
pub range_low : (c h x : ℕ) → x < c → in_range h (centred (2 * c) x) ≡ ltb x h
range_low c h x l = ap (in_range h) (centred_low c x l) ∙ range_pos h x

-- from there on where it lacks at most h to q
pub range_high : (c h x : ℕ) → c ≤ x → x < 2 * c → in_range h (centred (2 * c) x) ≡ leb (2 * c - x) h
range_high c h x l m =
    let lacks : suc (2 * c - suc x) ≡ 2 * c - x = omega arith in
    ap (in_range h) (centred_high c x l m) ∙ range_neg h (2 * c - suc x) ∙ ap (λ (k : ℕ). leb k h) lacks

-- ---- the test is the range

held : {b : Bool} → b ≡ true → T b
held e = subst T (sym e) tt

range_is : (h : ℕ) (z : ℤ) → (in_range h z ≡ true) ↔ InRange h z
range_is h z = (
  λ e. let ends = both_true (le_z (neg_ℤ (pos h)) z) (lt_z z (pos h)) e in record { low = record { le = held ends.0 }; high = record { lt = held ends.1 } },
  λ r. ap₂ (λ (a b : Bool). a && b) (is_true (le_z (neg_ℤ (pos h)) z) r.low.le) (is_true (lt_z z (pos h)) r.high.lt),
)

-- ---- all of some tests

-- one more, in the form of a loop's step
pub every_next : (n : ℕ) (f : ℕ → Bool) → every (n + 1) f ≡ (every n f && f n)
unfolding every
every_next n f = ap (λ (k : ℕ). every k f) (add-one n)

-- all hold where each does
every_is : (n : ℕ) (f : ℕ → Bool) → (every n f ≡ true) ↔ ((k : ℕ) → k < n → f k ≡ true)
unfolding every
every_is zero f = (λ e k l. absurd (not-suc-le-zero l), λ g. refl)
every_is (suc n) f = (
  λ e k l. elim (le-suc_iff.0 l) [
    | inl h ↦ (every_is n f).0 (both_true (every n f) (f n) e).0 k h
    | inr s ↦ ap f (suc_inj s) ∙ (both_true (every n f) (f n) e).1
  ],
  λ g. ap₂ (λ (a b : Bool). a && b) ((every_is n f).1 (λ k l. g k (omega arith))) (g n (omega arith)),
)

-- ---- the margin

module _ (p : Params) (seed msg salt : List ℕ) where
  -- the margin's size is below q
  pub margin_size_below : Valid p → margin_size p seed msg salt < p.q
  unfolding largest_size
  margin_size_below valid =
      let ws = noise_table p seed msg salt in
      largest_below (length ws) p.q (λ t. size_of p.q (get_or ws t 0)) (q_pos p valid) (λ t. size_below p.q (get_or ws t 0) (q_pos p valid))

  -- where the margin's size is below h every entry is in range
  pub margin_in_range : margin_size p seed msg salt < half p.q p.b → AllInRange p seed msg salt
  unfolding largest_size
  margin_in_range l i j hi hj =
      let ws = noise_table p seed msg salt in
      let at : get_or ws (i * 8 + j) 0 ≡ noise_at p seed msg salt i j = get_d_table 8 8 (noise_at p seed msg salt) i j hi hj in
      size_in_range p.q (half p.q p.b) (noise_at p seed msg salt i j)
      (omega (arith, ap (size_of p.q) at, largest_le (length ws) (λ t. size_of p.q (get_or ws t 0)) (i * 8 + j) (omega (arith, length_table 8 8 (noise_at p seed msg salt)))))

  -- the verdict is kept exactly where every entry is in range
  pub kept_is_range : (kept p seed msg salt ≡ true) ↔ AllInRange p seed msg salt
  unfolding kept_by
  kept_is_range =
      let ws = noise_table p seed msg salt in
      let h = half p.q p.b in
      let long : length ws ≡ 64 = length_table 8 8 (noise_at p seed msg salt) in
      let word : ℕ → Bool = λ t. in_range h (centred p.q (get_or ws t 0)) in
      let entry : (i j : ℕ) → i < 8 → j < 8 → word (i * 8 + j) ≡ in_range h (centred_at p seed msg salt i j) =
      λ i j hi hj. ap (λ (x : ℕ). in_range h (centred p.q x)) (get_d_table 8 8 (noise_at p seed msg salt) i j hi hj) in (
        λ e i j hi hj. (range_is h (centred_at p seed msg salt i j)).0 (sym (entry i j hi hj) ∙ (every_is (length ws) word).0 e (i * 8 + j) (omega (arith, long))),
        λ r. (every_is (length ws) word).1
            (λ k l.
            let hi : k / 8 < 8 = omega (arith, long) in
            let hj : k % 8 < 8 = omega arith in
            let place : k ≡ k / 8 * 8 + k % 8 = omega arith in
            ap word place ∙ entry (k / 8) (k % 8) hi hj ∙ (range_is h (centred_at p seed msg salt (k / 8) (k % 8))).1 (r (k / 8) (k % 8) hi hj)),
      )

  pub kept_in_range : kept p seed msg salt ≡ true → AllInRange p seed msg salt
  kept_in_range e = kept_is_range.0 e

  -- a size below h is kept
  pub size_kept : margin_size p seed msg salt < half p.q p.b → kept p seed msg salt ≡ true
  size_kept l = kept_is_range.1 (margin_in_range l)

  -- and what is kept has a size of at most h, and so a ratio of at most 1.0
  pub kept_size : kept p seed msg salt ≡ true → margin_size p seed msg salt ≤ half p.q p.b
  unfolding largest_size kept_by
  kept_size e =
      let ws = noise_table p seed msg salt in
      let h = half p.q p.b in
      largest_most (length ws) h (λ t. size_of p.q (get_or ws t 0))
      (λ k l. range_size p.q h (get_or ws k 0) ((range_is h (centred p.q (get_or ws k 0))).0 ((every_is (length ws) (λ t. in_range h (centred p.q (get_or ws t 0)))).0 e k l)))

  -- a kept margin: the message comes back, and both ends have one secret
  pub kept-back : Valid p → length seed ≡ p.seed → length msg ≡ p.secret → Below 256 msg → kept p seed msg salt ≡ true
      → (recovered_message p seed msg salt ≡ msg) × (recovered_secret p seed msg salt ≡ shared_secret p (public_key p seed) msg salt)
  kept-back valid enough len bytes e =
      let d = demand3 p valid seed msg salt enough len bytes in
      let back = d.message.1 (kept_in_range e) in
      (back, d.secret back)

  -- the margin is kept exactly where decapsulation gives the message back
  pub kept-exactly : Valid p → length seed ≡ p.seed → length msg ≡ p.secret → Below 256 msg → (kept p seed msg salt ≡ true) ↔ (recovered_message p seed msg salt ≡ msg)
  kept-exactly valid enough len bytes =
      (λ e. (kept-back valid enough len bytes e).0, λ back. kept_is_range.1 ((demand3 p valid seed msg salt enough len bytes).message.0 back))
