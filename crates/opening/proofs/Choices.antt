-- The comparison and the choice without branches: gathered bits, a test as a number, one of two lists.
-- Assumes nothing.
use mathlib.Core.Path.{◌≡◌, refl, sym, ap, ap₂, ◌∙◌}
use mathlib.Core.Bool.{Bool, true, false, ◌&&◌, cond}
use mathlib.Core.List.{List, [], ◌∷◌}
use mathlib.Core.Logic.{◌⊎◌, inl, inr}
use Prim.Native.Nat.{ℕ, zero, suc, ◌*◌, ◌-◌, ◌≤◌, ◌<◌}
use native.Mathlib.Omega.{arith}
use lib.Bits.{bit_and, bit_or, bit_xor, and_le_l, and_le_r, or_add_and, xor_add_and, and_mask, and_zero_r, or_zero_l, or_zero_r, xor_self}
use lib.Dec.{eqb}
use lib.ListN.{length, get_or}
use native.Mathlib.Nat.{mod-eq_of_lt}
use borrow.Author.Tests.{eqb-true, eq-eqb}
use Rattle.lists.specs.Lists.{equal}
use Rattle.lists.proofs.Tables.{both_true}
use Rattle.lists.proofs.Loops.{Upto, copied_all}
use Rattle.opening.specs.Opening.{bit}

-- ---- a test and its number

-- two tests that hold together are the same
same_test : (s t : Bool) → (s ≡ true → t ≡ true) → (t ≡ true → s ≡ true) → s ≡ t
same_test true t f g = sym (f refl)
same_test false true f g = g refl
same_test false false f g = refl

-- a test's number tells the test
pub bit_test : (t : Bool) → eqb (bit t) 1 ≡ t
bit_test true = refl
bit_test false = refl

-- it is at most 1
pub bit_le : (t : Bool) → bit t ≤ 1
bit_le true = omega arith
bit_le false = omega arith

-- both of two tests, by their numbers
pub bit_and_lem : (s t : Bool) → bit_and (bit s) (bit t) ≡ bit (s && t)
bit_and_lem true true = refl
bit_and_lem true false = refl
bit_and_lem false true = refl
bit_and_lem false false = refl

-- ---- the comparison

-- words differ in no bit exactly where they are equal
xor_zero : (x y : ℕ) → bit_xor x y ≡ 0 → x ≡ y
xor_zero x y e = omega (arith, xor_add_and x y, and_le_l x y, and_le_r x y)

-- nothing more is gathered exactly where they are
pub gathers : (g x y : ℕ) → eqb (bit_or g (bit_xor x y)) 0 ≡ (eqb g 0 && eqb x y)
gathers g x y = same_test (eqb (bit_or g (bit_xor x y)) 0) (eqb g 0 && eqb x y) none equal_words
  where
    none : eqb (bit_or g (bit_xor x y)) 0 ≡ true → (eqb g 0 && eqb x y) ≡ true
    none t =
        let o : bit_or g (bit_xor x y) ≡ 0 = eqb-true _ 0 t in
        let z : g ≡ 0 = omega (arith, or_add_and g (bit_xor x y), and_le_l g (bit_xor x y), and_le_r g (bit_xor x y)) in
        let w : bit_xor x y ≡ 0 = omega (arith, or_add_and g (bit_xor x y), and_le_l g (bit_xor x y), and_le_r g (bit_xor x y)) in
        ap₂ ◌&&◌ (eq-eqb g 0 z) (eq-eqb x y (xor_zero x y w))

    equal_words : (eqb g 0 && eqb x y) ≡ true → eqb (bit_or g (bit_xor x y)) 0 ≡ true
    equal_words t =
        let b = both_true (eqb g 0) (eqb x y) t in
        eq-eqb (bit_or g (bit_xor x y)) 0
        (ap₂ bit_or (eqb-true g 0 b.0) (ap (bit_xor x) (sym (eqb-true x y b.1)) ∙ xor_self x) ∙ or_zero_l 0)

-- three tests, however they are joined
and_assoc : (r s t : Bool) → (r && (s && t)) ≡ ((r && s) && t)
and_assoc true s t = refl
and_assoc false s t = refl

-- a test that holds may be left out
and_true : (t : Bool) → (t && true) ≡ t
and_true true = refl
and_true false = refl

-- the next words are compared, and what is left of both lists
pub compared_next : (g r : ℕ) (t : Bool) (x y : ℕ) {a b a' b' : List ℕ} → a ≡ x ∷ a' → b ≡ y ∷ b' → eqb r 0 ≡ (eqb g 0 && eqb x y)
    → (length a ≡ length b) × (t ≡ (eqb g 0 && equal a b)) → (length a' ≡ length b') × (t ≡ (eqb r 0 && equal a' b'))
unfolding equal
compared_next g r t x y {a' = a'} {b'} ea eb er (long, is) = (
  omega (arith, ap length ea, ap length eb, long),
  is ∙ ap₂ (λ (l m : List ℕ). eqb g 0 && equal l m) ea eb ∙ and_assoc (eqb g 0) (eqb x y) (equal a' b') ∙ ap (λ (s : Bool). s && equal a' b') (sym er),
)

-- where nothing is left of one, nothing is of the other
pub compared_all : (g : ℕ) (t : Bool) (a b : List ℕ) → (a ≡ []) ⊎ (b ≡ []) → (length a ≡ length b) × (t ≡ (eqb g 0 && equal a b)) → eqb g 0 ≡ t
unfolding equal
compared_all g t [] [] none (long, is) = sym (is ∙ and_true (eqb g 0))
compared_all g t [] (y ∷ b) none (long, is) = absurd (omega (arith, long))
compared_all g t (x ∷ a) [] none (long, is) = absurd (omega (arith, long))
compared_all g t (x ∷ a) (y ∷ b) (inl e) (long, is) = absurd (omega (arith, ap length e))
compared_all g t (x ∷ a) (y ∷ b) (inr e) (long, is) = absurd (omega (arith, ap length e))

-- ---- the choice

-- a byte under a mask of all bits
all_bits : (x : ℕ) → x < 256 → bit_and x 255 ≡ x
all_bits x h = and_mask x 8 ∙ mod-eq_of_lt h

-- one of two bytes, by masks of all bits or none
pub selects : (choice x y : ℕ) → choice ≤ 1 → x < 256 → y < 256 → bit_or (bit_and x (255 * choice)) (bit_and y (255 - 255 * choice)) ≡ cond (eqb choice 1) x y
selects zero x y h hx hy = ap₂ bit_or (and_zero_r x) (all_bits y hy) ∙ or_zero_l y
selects (suc zero) x y h hx hy = ap₂ bit_or (all_bits x hx) (and_zero_r y) ∙ or_zero_r x
selects (suc (suc c)) x y h hx hy = absurd (omega arith)

-- one of two lists
pub chosen : (t : Bool) (a b : List ℕ) {n : ℕ} {d e : List ℕ} → Upto (λ k. cond t (get_or a k 0) (get_or b k 0)) n d e → n ≡ length d → length a ≡ length d → length b ≡ length d → e ≡ cond t a b
chosen true a b u end la lb = copied_all a u (end ∙ sym la) (sym la)
chosen false a b u end la lb = copied_all b u (end ∙ sym lb) (sym lb)
