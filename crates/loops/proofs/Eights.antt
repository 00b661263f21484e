-- Eight words that gather a row a times a matrix Y with n rows of 8, a term a turn: what `dots` and `fold` share.
-- Assumes nothing.
use mathlib.Core.Path.{◌≡◌, refl, ap, ap₂, ◌∙◌}
use mathlib.Core.List.{List}
use Prim.Native.Nat.{ℕ, ◌+◌, ◌*◌, ◌/◌, ◌%◌}
use native.Mathlib.Nat.{zero-mul, zero-add}
use native.Mathlib.Omega.{arith}
use lib.ListN.{length, get_or}
use Rattle.lists.specs.Lists.{tab, residues, Below}
use Rattle.lists.proofs.Tables.{tab_cong, get_d_tab, known}
use Rattle.algebra.specs.Matrix.{Matrix, mat, mul, ◌⊕◌, table}
use Rattle.algebra.proofs.Tables.{words_table, place}
use Rattle.algebra.proofs.Turns.{product_start, product_turn}

module _ (n : ℕ) (e a : List ℕ) (Y : Matrix) where
  -- the words with j terms taken in
  abbrev pub gathered : ℕ → List ℕ
  gathered j = residues 65536 (table 1 8 (mul j (mat n a) Y ⊕ mat 8 e))

  -- they begin as e
  pub gather_start : {t : List ℕ} → t ≡ tab 8 (λ i. get_or e (0 + i) 0) → length e ≡ 8 → Below 65536 e → t ≡ gathered 0
  gather_start q l b =
      q ∙ tab_cong 8 (λ i. get_or e (0 + i) 0) (λ i. get_or e i 0) (λ i _. ap (λ (x : ℕ). get_or e x 0) (zero-add i))
      ∙ known 8 e l ∙ product_start 65536 1 8 (mat n a) Y e l b

  -- a turn takes in row j of Y
  pub gather_turn : (j : ℕ) {t u y : List ℕ} → t ≡ gathered j → y ≡ tab 8 (Y j) → u ≡ tab 8 (λ i. (get_or t i 0 + get_or a j 0 * get_or y i 0) % 65536) → u ≡ gathered (j + 1)
  gather_turn j {t} {u} {y} p q r =
      r
      ∙ words_table 65536 1 8 (mat 8 t ⊕ (λ i c. mat n a i j * Y j c)) (λ i. (get_or t i 0 + get_or a j 0 * get_or y i 0) % 65536) {n = 8} refl
      (λ i l.
      let col : i ≡ i % 8 = omega arith in
      let row : i / 8 ≡ 0 = omega arith in
      let at : j ≡ i / 8 * n + j = omega (arith, ap (λ (x : ℕ). x * n) row, zero-mul n) in
      let word : get_or y i 0 ≡ Y j (i % 8) = ap (λ (l : List ℕ). get_or l i 0) q ∙ get_d_tab 8 (Y j) i l ∙ ap (Y j) col in
      ap₂ (λ (v w : ℕ). (v + w) % 65536) (place t 8 i) (ap₂ (λ (v w : ℕ). v * w) (ap (λ (x : ℕ). get_or a x 0) at) word))
      ∙ product_turn 65536 1 8 (mat n a) Y (mat 8 e) j p
