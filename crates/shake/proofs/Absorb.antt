-- FIPS 202 (2015), the sponge construction, absorbing: bytes absorbed one at a time are absorbed block by block. Assumes nothing.
use mathlib.Core.Path.{◌≡◌, refl, sym, ap, ◌∙◌, subst}
use mathlib.Core.List.{List, [], ◌∷◌, ◌++◌}
use Prim.Native.Nat.{ℕ, zero, suc, ◌+◌, ◌*◌, ◌%◌, ◌≤◌, ◌<◌}
use native.Mathlib.Nat.{add-zero, zero-mul, suc-mul, mod-eq_of_lt}
use native.Mathlib.Omega.{arith}
use lib.ListN.{length, take, drop, length-drop, length-set, take-append-drop}
use lib.Seq.{length-take-le}
use Rattle.lists.specs.Lists.{Below}
use Rattle.lists.proofs.Tables.{below_take, below_drop}
use Rattle.keccak.specs.Keccak.{keccak_f}
use Rattle.shake.specs.Shake.{add_block, absorb_blocks}
use Rattle.shake.specs.Sponge.{made, xor_byte, xor_bytes, turned, absorb_byte, absorb_bytes, Ready}
use Rattle.shake.specs.declared.Sponge.{Sponge}
use Rattle.shake.proofs.Turn.{turn_full, turn_part, ready_turned, rate_turned, lanes_turned, place_turned, length_keccak_f}
use Rattle.shake.proofs.Lanes.{add_bytes}

-- one list after another
pub absorb_append : (p : Sponge) (xs ys : List ℕ) → absorb_bytes p (xs ++ ys) ≡ absorb_bytes (absorb_bytes p xs) ys
unfolding absorb_bytes
absorb_append p [] ys = refl
absorb_append p (x ∷ xs) ys = absorb_append (absorb_byte p x) xs ys

-- ---- what stays as bytes are absorbed

ready_byte : (p : Sponge) (b : ℕ) → Ready p → Ready (absorb_byte p b)
unfolding absorb_byte
ready_byte p b h = ready_turned (made (xor_byte p.lanes p.at b) (p.at + 1) p.rate) (record { small = h.small; some = omega (arith, h.within); within = omega (arith, h.within) })

-- a byte can be absorbed
pub ready_bytes : (p : Sponge) (xs : List ℕ) → Ready p → Ready (absorb_bytes p xs)
unfolding absorb_bytes
ready_bytes p [] h = h
ready_bytes p (x ∷ xs) h = ready_bytes (absorb_byte p x) xs (ready_byte p x h)

-- the rate
pub rate_bytes : (p : Sponge) (xs : List ℕ) → (absorb_bytes p xs).rate ≡ p.rate
unfolding absorb_bytes absorb_byte
rate_bytes p [] = refl
rate_bytes p (x ∷ xs) = rate_bytes (absorb_byte p x) xs ∙ rate_turned (made (xor_byte p.lanes p.at x) (p.at + 1) p.rate)

-- the 25 lanes
pub lanes_bytes : (p : Sponge) (xs : List ℕ) → length p.lanes ≡ 25 → length (absorb_bytes p xs).lanes ≡ 25
unfolding absorb_bytes absorb_byte xor_byte
lanes_bytes p [] h = h
lanes_bytes p (x ∷ xs) h =
    lanes_bytes (absorb_byte p x) xs (lanes_turned (made (xor_byte p.lanes p.at x) (p.at + 1) p.rate) (length-set p.lanes _ _ ∙ h))

-- the place goes on by as many bytes
pub place_bytes : (p : Sponge) (xs : List ℕ) → Ready p → (absorb_bytes p xs).at ≡ (p.at + length xs) % p.rate
unfolding absorb_bytes absorb_byte
place_bytes p [] h = sym (ap (λ (n : ℕ). n % p.rate) (add-zero p.at) ∙ mod-eq_of_lt h.within)
place_bytes p (x ∷ xs) h =
    let q : Sponge = made (xor_byte p.lanes p.at x) (p.at + 1) p.rate in
    let e : p.at + 1 + length xs ≡ p.at + suc (length xs) = omega arith in
    place_bytes (absorb_byte p x) xs (ready_byte p x h)
    ∙ ap (λ (r : ℕ). ((turned q).at + length xs) % r) (rate_turned q)
    ∙ place_turned q (length xs)
    ∙ ap (λ (n : ℕ). n % p.rate) e

-- ---- bytes that stay within a block

pub absorb_within : (s : List ℕ) (k r : ℕ) (p : List ℕ) → k < r → k + length p ≤ r → absorb_bytes (made s k r) p ≡ turned (made (xor_bytes s k p) (k + length p) r)
unfolding absorb_bytes absorb_byte xor_bytes
absorb_within s k r [] h l = sym (ap (λ (n : ℕ). turned (made s n r)) (add-zero k) ∙ turn_part (made s k r) (λ e. omega arith))
absorb_within s k r (b ∷ []) h l = refl
absorb_within s k r (b ∷ c ∷ p) h l =
    let e : k + 1 + suc (length p) ≡ k + suc (suc (length p)) = omega arith in
    ap (λ (q : Sponge). absorb_bytes q (c ∷ p)) (turn_part (made (xor_byte s k b) (k + 1) r) (λ z. omega arith))
    ∙ absorb_within (xor_byte s k b) (k + 1) r (c ∷ p) (omega arith) (omega arith)
    ∙ ap (λ (n : ℕ). turned (made (xor_bytes s k (b ∷ c ∷ p)) n r)) e

-- ---- the loop's invariant: p absorbs what is left of a list as p₀ absorbs all of it

pub record Left (p₀ : Sponge) (xs : List ℕ) (p : Sponge) (rest : List ℕ) : Type 0 where
  pub is : absorb_bytes p rest ≡ absorb_bytes p₀ xs
  pub ready : Ready p

-- a part is absorbed, as much as the block has room for at the most
pub left_behind : {p₀ q : Sponge} {s u xs rest : List ℕ} {k r : ℕ} (part behind : List ℕ) → Left p₀ xs (made s k r) rest → rest ≡ part ++ behind → k + length part ≤ r
    → u ≡ xor_bytes s k part → q ≡ turned (made u (k + length part) r) → Left p₀ xs q behind
left_behind {q = q} {s} {k = k} {r} part behind left e l eu eq =
    let here : q ≡ absorb_bytes (made s k r) part =
    eq ∙ ap (λ (v : List ℕ). turned (made v (k + length part) r)) eu ∙ sym (absorb_within s k r part left.ready.within l) in
    record {
      is = ap (λ (z : Sponge). absorb_bytes z behind) here ∙ sym (absorb_append (made s k r) part behind) ∙ ap (absorb_bytes (made s k r)) (sym e) ∙ left.is;
      ready = subst (λ (z : Sponge). Ready z) (sym here) (ready_bytes (made s k r) part left.ready);
    }

-- nothing is left
pub left_none : {p₀ p : Sponge} {xs rest : List ℕ} → Left p₀ xs p rest → length rest ≡ 0 → p ≡ absorb_bytes p₀ xs
unfolding absorb_bytes
left_none {rest = []} left e = left.is
left_none {rest = x ∷ rest} left e = absurd (omega arith)

-- ---- whole blocks

module _ (r : ℕ) (some : 0 < r) (small : r ≤ 200) where
  whole : (s p : List ℕ) → length s ≡ 25 → Below 256 p → length p ≡ r → absorb_bytes (made s 0 r) p ≡ made (keccak_f (add_block s p)) 0 r
  whole s p e h l =
      let z : 0 + length p ≡ r = omega arith in
      absorb_within s 0 r p some (omega arith)
      ∙ turn_full (made (xor_bytes s 0 p) (0 + length p) r) z
      ∙ ap (λ (t : List ℕ). made (keccak_f t) 0 r) (sym (add_bytes s p e h (omega arith)))

  -- n blocks
  pub blocks : (n : ℕ) (s m : List ℕ) → length s ≡ 25 → Below 256 m → length m ≡ n * r → absorb_bytes (made s 0 r) m ≡ made (absorb_blocks r n s m) 0 r
  unfolding absorb_blocks absorb_bytes
  blocks zero s [] e b k = refl
  blocks zero s (x ∷ m) e b k = absurd (none (k ∙ zero-mul r))
    where
      none : suc (length m) ≡ 0 → ⊥
      none z = omega arith
  blocks (suc n) s m e b k =
      let j : length m ≡ n * r + r = k ∙ suc-mul n r in
      let t : length (take r m) ≡ r = length-take-le r m (omega arith) in
      ap (absorb_bytes (made s 0 r)) (sym (take-append-drop r m))
      ∙ absorb_append (made s 0 r) (take r m) (drop r m)
      ∙ ap (λ (q : Sponge). absorb_bytes q (drop r m)) (whole s (take r m) e (below_take r m b) t)
      ∙ blocks n (keccak_f (add_block s (take r m))) (drop r m) (length_keccak_f _) (below_drop r m b) (length-drop r m ∙ omega arith)
