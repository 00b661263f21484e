-- FIPS 202 (2015), the sponge construction, absorbing: a block added to the lanes at once is its bytes added one after the other. Assumes nothing.
use mathlib.Core.Path.{◌≡◌, refl, sym, ap, ap₂, ◌∙◌, subst}
use mathlib.Core.Bool.{Bool, true, false}
use mathlib.Core.List.{List, [], ◌∷◌, ◌++◌, append-nil}
use mathlib.Core.Logic.{◌⊎◌, inl, inr}
use Prim.Native.Nat.{ℕ, suc, ◌+◌, ◌*◌, ◌/◌, ◌%◌, ◌^◌, ◌≤◌, ◌<◌}
use native.Mathlib.Omega.{arith}
use borrow.Author.Tests.{ltb-true, ltb-false, eqb-true, eqb-false}
use lib.Bits.{bit_xor, xor_zero_r}
use lib.Dec.{ltb, eqb}
use lib.ListN.{length, get_or, set, take, drop, length-append, length-drop, length-set, drop_of_length-le}
use lib.Pow.{shl_exact}
use lib.Seq.{drop-append-le, take-append-le, take_all, get_or-set_same, get_or-set_other, ext_get_or, append_snoc}
use Rattle.lists.specs.Lists.{tab, Below}
use Rattle.lists.proofs.Tables.{length_tab, get_d_tab, tab_cong, known}
use Rattle.bits.specs.Digits.{number}
use Rattle.bits.proofs.Xor.{xor_assoc, number_xor}
use Rattle.shake.specs.Shake.{add_block}
use Rattle.shake.specs.Sponge.{xor_byte, xor_bytes, add_byte}

-- i is below j, or is j, or is above
order : (i j : ℕ) → (i < j) ⊎ ((i ≡ j) ⊎ (j < i))
order i j = lt (ltb i j) refl
  where
    eq : j ≤ i → (t : Bool) → eqb i j ≡ t → (i < j) ⊎ ((i ≡ j) ⊎ (j < i))
    eq l true e = inr (inl (eqb-true _ _ e))
    eq l false e = let n : i ≡ j → ⊥ = eqb-false _ _ e in inr (inr (omega arith))

    lt : (t : Bool) → ltb i j ≡ t → (i < j) ⊎ ((i ≡ j) ⊎ (j < i))
    lt true e = inl (ltb-true _ _ e)
    lt false e = eq (ltb-false _ _ e) (eqb i j) refl

-- lane i of a block
abbrev lane_of : List ℕ → ℕ → ℕ
lane_of p i = number 256 (take 8 (drop (8 * i) p))

-- ---- a byte more of a block changes one lane of it

module _ (p : List ℕ) (b i : ℕ) where
  lane_below : i < length p / 8 → lane_of (p ++ (b ∷ [])) i ≡ lane_of p i
  lane_below h =
      let k : 8 * i ≤ length p = omega arith in
      let l : 8 ≤ length (drop (8 * i) p) = rw (length-drop (8 * i) p) (omega arith) in
      ap (number 256) (ap (take 8) (drop-append-le (8 * i) p (b ∷ []) k) ∙ take-append-le 8 (drop (8 * i) p) (b ∷ []) l)

  lane_above : length p / 8 < i → lane_of (p ++ (b ∷ [])) i ≡ lane_of p i
  lane_above h =
      let k : length p ≤ 8 * i = omega arith in
      let l : length (p ++ (b ∷ [])) ≤ 8 * i = rw (length-append p (b ∷ [])) (omega arith) in
      ap (λ (q : List ℕ). number 256 (take 8 q)) (drop_of_length-le (p ++ (b ∷ [])) l ∙ sym (drop_of_length-le p k))

  lane_here : b < 256 → i ≡ length p / 8 → lane_of (p ++ (b ∷ [])) i ≡ bit_xor (lane_of p i) (b * 2 ^ (8 * (length p % 8)))
  lane_here hb e =
      let q : List ℕ = drop (8 * i) p in
      let k : 8 * i ≤ length p = omega arith in
      let n : length q ≡ length p % 8 = length-drop (8 * i) p ∙ omega arith in
      let l : length q ≤ 8 = omega arith in
      let m : length (q ++ (b ∷ [])) ≤ 8 = rw (length-append q (b ∷ [])) (omega arith) in
      ap (number 256) (ap (take 8) (drop-append-le (8 * i) p (b ∷ []) k) ∙ take_all 8 (q ++ (b ∷ [])) m)
      ∙ number_xor q b hb
      ∙ ap₂ (λ (x y : ℕ). bit_xor x (b * 2 ^ (8 * y))) (ap (number 256) (sym (take_all 8 q l))) n

module _ (s p : List ℕ) (b : ℕ) (hb : b < 256) (room : length p < 200) where
  -- lane i before and after
  old : ℕ → ℕ
  old i = bit_xor (get_or s i 0) (lane_of p i)

  new : ℕ → ℕ
  new i = bit_xor (get_or s i 0) (lane_of (p ++ (b ∷ [])) i)

  lane : ℕ
  lane = add_byte (get_or (tab 25 old) (length p / 8) 0) (length p) b

  at : (i : ℕ) → i < 25 → (i < length p / 8) ⊎ ((i ≡ length p / 8) ⊎ (length p / 8 < i)) → new i ≡ get_or (set (tab 25 old) (length p / 8) lane) i 0
  unfolding old new lane
  at i h (inl l) =
      ap (bit_xor (get_or s i 0)) (lane_below p b i l) ∙ sym (get_d_tab 25 old i h) ∙ sym (get_or-set_other (tab 25 old) (length p / 8) i lane 0 (λ e. omega arith))
  at i h (inr (inr l)) =
      ap (bit_xor (get_or s i 0)) (lane_above p b i l) ∙ sym (get_d_tab 25 old i h) ∙ sym (get_or-set_other (tab 25 old) (length p / 8) i lane 0 (λ e. omega arith))
  at i h (inr (inl e)) =
      ap (bit_xor (get_or s i 0)) (lane_here p b i hb e) ∙ sym (xor_assoc (get_or s i 0) (lane_of p i) _)
      ∙ ap₂ bit_xor (sym (get_d_tab 25 old i h) ∙ ap (λ (k : ℕ). get_or (tab 25 old) k 0) e) (sym (shl_exact 8 (8 * (length p % 8)) 64 hb (omega arith)))
      ∙ sym (get_or-set_same (tab 25 old) (length p / 8) lane 0 (subst (λ (n : ℕ). length p / 8 < n) (sym (length_tab 25 old)) (omega arith)))
      ∙ ap (λ (k : ℕ). get_or (set (tab 25 old) (length p / 8) lane) k 0) (sym e)

  add_snoc : add_block s (p ++ (b ∷ [])) ≡ xor_byte (add_block s p) (length p) b
  unfolding add_block xor_byte old new lane
  add_snoc =
      ext_get_or 0 (tab 25 new) (set (tab 25 old) (length p / 8) lane)
      (length_tab 25 new ∙ sym (length-set (tab 25 old) (length p / 8) lane ∙ length_tab 25 old))
      (λ i h. let k : i < 25 = subst (λ (n : ℕ). i < n) (length_tab 25 new) h in get_d_tab 25 new i k ∙ at i k (order i (length p / 8)))

-- ---- bytes one after the other, from place k on

-- a block q, and bytes behind it
add_more : (s q p : List ℕ) → Below 256 p → length q + length p ≤ 200 → add_block s (q ++ p) ≡ xor_bytes (add_block s q) (length q) p
unfolding xor_bytes
add_more s q [] h l = ap (add_block s) (append-nil q)
add_more s q (b ∷ p) h l =
    let n : length (q ++ (b ∷ [])) ≡ length q + 1 = length-append q (b ∷ []) in
    ap (add_block s) (sym (append_snoc q b p))
    ∙ add_more s (q ++ (b ∷ [])) p (λ i. h (suc i)) (omega arith)
    ∙ ap₂ (λ (t : List ℕ) (k : ℕ). xor_bytes t k p) (add_snoc s q b (h 0) (omega arith)) n

-- nothing is added
add_none : (s : List ℕ) → length s ≡ 25 → add_block s [] ≡ s
unfolding add_block number
add_none s e =
    tab_cong 25 (λ i. bit_xor (get_or s i 0) (lane_of [] i)) (λ i. get_or s i 0)
    (λ i _. ap (λ (q : List ℕ). bit_xor (get_or s i 0) (number 256 (take 8 q))) (drop_of_length-le [] {i = 8 * i} (omega arith)) ∙ xor_zero_r (get_or s i 0))
    ∙ known 25 s e

-- a block is its bytes, from place 0 on
pub add_bytes : (s p : List ℕ) → length s ≡ 25 → Below 256 p → length p ≤ 200 → add_block s p ≡ xor_bytes s 0 p
add_bytes s p e h l = add_more s [] p h (omega arith) ∙ ap (λ (t : List ℕ). xor_bytes t 0 p) (add_none s e)
