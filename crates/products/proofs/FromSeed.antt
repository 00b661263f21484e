-- A turn of a product from the seed: a row of A goes into its place behind 8n words of a scratch, and is taken into the product.
-- Assumes nothing.
use mathlib.Core.Path.{◌≡◌, refl, ap, ap₂, ◌∙◌}
use mathlib.Core.List.{List}
use Prim.Native.Nat.{ℕ, ◌+◌, ◌*◌, ◌-◌, ◌≤◌, ◌<◌}
use native.Mathlib.Omega.{arith}
use lib.ListN.{length, get_or, take, drop}
use borrow.Rule.Slice.PartMut.{put_mid}
use Rattle.lists.specs.Lists.{tab, residues}
use Rattle.lists.proofs.Spans.{put_length, put_before, put_at}
use Rattle.algebra.specs.Matrix.{mat, mat_t, mul, ◌⊕◌, table}
use Rattle.algebra.proofs.Turns.{product_turn, row_of, part, part_at, Top, top_kept, top_more}
use Rattle.sets.specs.declared.Params.{Params}
use Rattle.rows.specs.Row.{row, mat_a}
use Rattle.rows.proofs.Rows.{length_row}

-- xs with r in the place of the row
abbrev pub placed : (p : Params) (xs r : List ℕ) → List ℕ
placed p xs r = put_mid (8 * p.n) (9 * p.n - 8 * p.n) xs r

-- what stands there
abbrev pub place_of : (p : Params) (xs : List ℕ) → List ℕ
place_of p xs = take (9 * p.n - 8 * p.n) (drop (8 * p.n) xs)

module _ (p : Params) (seedA : List ℕ) (i : ℕ) (xs : List ℕ) {r : List ℕ} (fits : 9 * p.n ≤ length xs) (is_row : r ≡ row p seedA i) where
  -- the row fills its place
  sized : length r ≡ 9 * p.n - 8 * p.n
  sized = ap length is_row ∙ length_row p seedA i ∙ omega arith

  -- the place holds the row
  pub placed_row : place_of p (placed p xs r) ≡ row p seedA i
  placed_row = put_at (8 * p.n) (9 * p.n - 8 * p.n) xs r (omega arith) sized ∙ is_row

  -- the length stays
  pub placed_length : length (placed p xs r) ≡ length xs
  placed_length = put_length (8 * p.n) (9 * p.n - 8 * p.n) xs r (omega arith) sized

  -- the words in front of it stay
  pub placed_front : take (8 * p.n) (placed p xs r) ≡ take (8 * p.n) xs
  placed_front = put_before (8 * p.n) (9 * p.n - 8 * p.n) xs r (omega arith) sized (8 * p.n) (omega arith)

  -- ---- A S + E: row i of the result is written
  module _ (s e : List ℕ) (hi : i < p.n) {v st : List ℕ}
      (hv : v ≡ residues 65536 (table 1 8 (mul p.n (mat p.n (place_of p (placed p xs r))) (mat_t p.n s) ⊕ mat 8 (part 8 i e)))) (hs : st ≡ v)
    where
      -- the words that go there
      words : st ≡ residues 65536 (tab 8 ((mul p.n (mat_a p seedA) (mat_t p.n s) ⊕ mat 8 e) i))
      words =
          hs ∙ hv
          ∙ ap (λ (a : List ℕ). residues 65536 (table 1 8 (mul p.n (mat p.n a) (mat_t p.n s) ⊕ mat 8 (part 8 i e)))) placed_row
          ∙ ap (residues 65536) (row_of p.n 8 i (mat_a p seedA) (mat_t p.n s) (mat 8 e) (row p seedA i) (part 8 i e) (λ k _. refl) (part_at 8 i e))

      -- one row more stands
      pub as_turn : Top 65536 8 (mul p.n (mat_a p seedA) (mat_t p.n s) ⊕ mat 8 e) i xs
          → Top 65536 8 (mul p.n (mat_a p seedA) (mat_t p.n s) ⊕ mat 8 e) (i + 1) (put_mid (i * 8) (i * 8 + 8 - i * 8) (placed p xs r) st)
      as_turn t = top_more (top_kept (8 * p.n) (9 * p.n - 8 * p.n) r t (omega arith) (omega arith) sized) (omega (arith, placed_length)) words

      -- the length stays
      pub as_length : length (put_mid (i * 8) (i * 8 + 8 - i * 8) (placed p xs r) st) ≡ length xs
      as_length = put_length (i * 8) (i * 8 + 8 - i * 8) (placed p xs r) st (omega (arith, placed_length)) (ap length words ∙ omega arith) ∙ placed_length

  -- ---- S' A + E'

  -- row i of A is taken in
  pub sa_turn : (s e : List ℕ) {o o' : List ℕ} (w : ℕ) → w ≡ 8 * p.n → take (8 * p.n) xs ≡ s
      → o ≡ residues 65536 (table 8 p.n (mul i (mat p.n s) (mat_a p seedA) ⊕ mat p.n e))
      → o' ≡ residues 65536 (table 8 p.n (mat p.n o ⊕ (λ r' c. mat p.n (take w (placed p xs r)) r' i * get_or (place_of p (placed p xs r)) c 0)))
      → o' ≡ residues 65536 (table 8 p.n (mul (i + 1) (mat p.n s) (mat_a p seedA) ⊕ mat p.n e))
  sa_turn s e {o} w hw hs ho h =
      h
      ∙ ap₂ (λ (f a : List ℕ). residues 65536 (table 8 p.n (mat p.n o ⊕ (λ r' c. mat p.n f r' i * get_or a c 0))))
      (ap (λ (k : ℕ). take k (placed p xs r)) hw ∙ placed_front ∙ hs) placed_row
      ∙ product_turn 65536 8 p.n (mat p.n s) (mat_a p seedA) (mat p.n e) i ho
