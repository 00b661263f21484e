-- Bytes added to the state in pieces: by bytes, by lanes, and by both. Assumes nothing.
use mathlib.Core.Path.{◌≡◌, refl, sym, ap, ap₂, ◌∙◌, subst}
use mathlib.Core.List.{List, [], ◌∷◌, ◌++◌}
use mathlib.Core.Logic.{◌⊎◌, inl, inr}
use Prim.Native.Nat.{ℕ, suc, ◌+◌, ◌-◌, ◌*◌, ◌/◌, ◌%◌, ◌≤◌, ◌<◌}
use native.Mathlib.Nat.{add-zero}
use native.Mathlib.Omega.{arith}
use lib.Bits.{bit_xor}
use lib.ListN.{length, get_or, set, take, drop}
use lib.Seq.{take-add, take-length, length-take-le, drop-cons}
use Rattle.std.specs.Simd.{first_chunks}
use Rattle.lists.specs.Lists.{Below}
use Rattle.lists.proofs.Tables.{below_take, below_drop}
use Rattle.lists.proofs.Spans.{length_mid}
use Rattle.bits.specs.Digits.{number}
use Rattle.shake.specs.Sponge.{xor_byte, xor_bytes, Whole}
use Rattle.shake.proofs.Eights.{eight_at}
use Rattle.shake.proofs.Lane.{add_lane}

-- one list after another
pub xor_append : (s : List ℕ) (k : ℕ) (xs ys : List ℕ) → xor_bytes s k (xs ++ ys) ≡ xor_bytes (xor_bytes s k xs) (k + length xs) ys
unfolding xor_bytes
xor_append s k [] ys = ap (λ (n : ℕ). xor_bytes s n ys) (sym (add-zero k))
xor_append s k (x ∷ xs) ys =
    let e : k + 1 + length xs ≡ k + suc (length xs) = omega arith in
    xor_append (xor_byte s k x) (k + 1) xs ys ∙ ap (λ (n : ℕ). xor_bytes (xor_bytes (xor_byte s k x) (k + 1) xs) n ys) e

-- ---- the loops' invariant: the first n of the bytes xs are added to s, from place k on

pub record Added (s : List ℕ) (k n : ℕ) (xs t : List ℕ) : Type 0 where
  pub is : t ≡ xor_bytes s k (take n xs)

-- none
pub added_none : (s : List ℕ) (k : ℕ) (xs : List ℕ) → Added s k 0 xs s
unfolding xor_bytes
added_none s k xs = record { is = refl }

-- m more
added_part : {s xs t u : List ℕ} {k n : ℕ} (m : ℕ) → Added s k n xs t → n ≤ length xs → u ≡ xor_bytes t (k + n) (take m (drop n xs)) → Added s k (n + m) xs u
added_part {s} {xs} {t} {u} {k} {n} m a l e = record {
  is = e ∙ ap₂ (λ (z : List ℕ) (j : ℕ). xor_bytes z (k + j) (take m (drop n xs))) a.is (sym (length-take-le n xs l)) ∙ sym (xor_append s k (take n xs) (take m (drop n xs))) ∙ ap (xor_bytes s k) (sym (take-add n m xs));
}

-- one more
pub added_byte : {s xs t u : List ℕ} {k n : ℕ} → Added s k n xs t → n < length xs → u ≡ xor_byte t (k + n) (get_or xs n 0) → Added s k (n + 1) xs u
unfolding xor_bytes
added_byte {s} {xs} {t} {u} {k} {n} a l e =
    added_part 1 a (omega arith) (e ∙ sym (ap (λ (z : List ℕ). xor_bytes t (k + n) (take 1 z)) (drop-cons xs n 0 l)))

-- a lane more
pub added_lane : {s xs t u : List ℕ} (l n : ℕ) {eights : List (List ℕ)} → Added s (8 * l) (8 * n) xs t → Below 256 xs → n < length xs / 8 → eights ≡ first_chunks 8 (length xs / 8) xs
    → u ≡ set t (l + n) (bit_xor (get_or t (l + n) 0) (number 256 (get_or eights n []))) → Added s (8 * l) (8 * (n + 1)) xs u
added_lane {s} {xs} {t} {u} l n a h r is e =
    let f : 8 * (l + n) ≡ 8 * l + 8 * n = omega arith in
    let g : 8 * n + 8 ≡ 8 * (n + 1) = omega arith in
    let p : List ℕ = take 8 (drop (8 * n) xs) in
    subst (λ (j : ℕ). Added s (8 * l) j xs u) g
    (added_part 8 a (omega arith)
    (e ∙ ap (λ (q : List ℕ). set t (l + n) (bit_xor (get_or t (l + n) 0) (number 256 q))) (ap (λ (es : List (List ℕ)). get_or es n []) is ∙ eight_at (length xs / 8) n xs r)
    ∙ sym (add_lane (l + n) t p (below_take 8 (drop (8 * n) xs) (below_drop (8 * n) xs h)) (length_mid (8 * n) 8 xs (omega arith)))
    ∙ ap (λ (j : ℕ). xor_bytes t j p) f))

-- all
pub added_all : {s xs t : List ℕ} {k n : ℕ} → Added s k n xs t → n ≡ length xs → t ≡ xor_bytes s k xs
added_all {s} {xs} {t} {k} {n} a e = a.is ∙ ap (xor_bytes s k) (ap (λ (j : ℕ). take j xs) e ∙ take-length xs)

-- ---- whole lanes, and what is left of them

-- r lanes and then the bytes behind them are all bytes from place k on
pub add_both : (s xs t u : List ℕ) (k r : ℕ) → Whole k (length xs) 8 r → t ≡ xor_bytes s (8 * (k / 8)) (take (8 * r - 0) xs)
    → u ≡ xor_bytes t (k + 8 * r) (take (length xs - 8 * r) (drop (8 * r) xs)) → u ≡ xor_bytes s k xs
unfolding xor_bytes
add_both s xs t u k r w et eu =
    let z : 8 * r - 0 ≡ 8 * r = omega arith in
    let l : 8 * r ≤ length xs = omega (arith, w.within) in
    let f : 8 * r + (length xs - 8 * r) ≡ length xs = omega arith in
    let a : Added s k (8 * r) xs t = record { is = et ∙ ap (λ (n : ℕ). xor_bytes s (8 * (k / 8)) (take n xs)) z ∙ start w.lane } in
    added_all (added_part (length xs - 8 * r) a l eu) f
  where
    none : (j n : ℕ) → n ≡ 0 → xor_bytes s j (take (8 * n) xs) ≡ s
    none j n e = ap (λ (m : ℕ). xor_bytes s j (take (8 * m) xs)) e

    start : (k % 8 ≡ 0) ⊎ (r ≡ 0) → xor_bytes s (8 * (k / 8)) (take (8 * r) xs) ≡ xor_bytes s k (take (8 * r) xs)
    start (inl e) = let d : 8 * (k / 8) ≡ k = omega arith in ap (λ (j : ℕ). xor_bytes s j (take (8 * r) xs)) d
    start (inr e) = none (8 * (k / 8)) r e ∙ sym (none k r e)
