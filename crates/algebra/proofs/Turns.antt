-- A product as a loop makes it: term by term (`mul k` is the first k terms of its sums), row by row (a part of the slice a turn), or entry by entry.
-- Assumes nothing.
use mathlib.Core.Path.{◌≡◌, refl, sym, ap, ap₂, ◌∙◌, subst}
use mathlib.Core.List.{List}
use Prim.Native.Nat.{ℕ, ◌+◌, ◌*◌, ◌-◌, ◌/◌, ◌%◌, ◌≤◌, ◌<◌}
use native.Mathlib.Nat.{add_comm, add-sub_cancel_left, div-eq_of_lt, mod-eq_of_lt, mod-add-mod, one-mul, zero-mul}
use native.Mathlib.Omega.{arith}
use lib.ListN.{length, get_or, take, drop}
use lib.Arith.{digits_div, digits_mod}
use lib.Seq.{get_or-take, get_or-drop}
use borrow.Rule.Slice.PartMut.{put_mid}
use Rattle.lists.specs.Lists.{tab, residues, Below}
use Rattle.lists.proofs.Tables.{tab_cong, map_of_tab, known}
use Rattle.lists.proofs.Loops.{Upto, none, moved, all}
use Rattle.lists.proofs.Spans.{upto_part, upto_held, Begun, begun_none, begun_kept, begun_more}
use Rattle.algebra.specs.Matrix.{Matrix, mat, mul, ◌⊕◌, table}
use Rattle.algebra.proofs.Sums.{sum_start, sum_next, sum_ext}
use Rattle.algebra.proofs.Tables.{is_table, words_table, words_cong, get_d_kept, place}

-- ---- term by term

module _ (m rows cols : ℕ) (X Y : Matrix) where
  -- before the first term stands what is added
  pub product_start : (e : List ℕ) → length e ≡ rows * cols → Below m e → e ≡ residues m (table rows cols (mul 0 X Y ⊕ mat cols e))
  product_start e q h =
      sym (known (rows * cols) e q)
      ∙ words_table m rows cols (mul 0 X Y ⊕ mat cols e) (λ t. get_or e t 0) {n = rows * cols} refl
      (λ t _.
      let none : ℕ = mul 0 X Y (t / cols) (t % cols) in
      sum_start m (get_or e t 0) (λ k. X (t / cols) k * Y k (t % cols)) (h t)
      ∙ ap (λ (x : ℕ). x % m) (add_comm (get_or e t 0) none ∙ ap (λ (x : ℕ). none + x) (place e cols t)))

  -- a turn adds the term k to every entry
  pub product_turn : (E : Matrix) (k : ℕ) {o : List ℕ} → o ≡ residues m (table rows cols (mul k X Y ⊕ E))
      → residues m (table rows cols (mat cols o ⊕ (λ i j. X i k * Y k j))) ≡ residues m (table rows cols (mul (k + 1) X Y ⊕ E))
  product_turn E k {o} q =
      words_cong m rows cols (mat cols o ⊕ (λ i j. X i k * Y k j)) (mul (k + 1) X Y ⊕ E)
      (λ i j hi hj.
      let one : mul k X Y i j + E i j + X i k * Y k j ≡ mul (k + 1) X Y i j + E i j = omega (arith, sum_next k (λ u. X i u * Y u j)) in
      ap (λ (l : List ℕ). (get_or l (i * cols + j) 0 + X i k * Y k j) % m) q
      ∙ ap (λ (x : ℕ). (x + X i k * Y k j) % m) (get_d_kept m rows cols (mul k X Y ⊕ E) i j hi hj)
      ∙ mod-add-mod (mul k X Y i j + E i j) m (X i k * Y k j)
      ∙ ap (λ (x : ℕ). x % m) one)

-- a row a times Y, with e added, is row i of X times Y, with E added, where a is row i of X and e is row i of E
pub row_of : (n cols i : ℕ) (X Y E : Matrix) (a e : List ℕ) → ((k : ℕ) → k < n → get_or a k 0 ≡ X i k) → ((j : ℕ) → j < cols → get_or e j 0 ≡ E i j)
    → table 1 cols (mul n (mat n a) Y ⊕ mat cols e) ≡ tab cols ((mul n X Y ⊕ E) i)
row_of n cols i X Y E a e ha he =
    sym (is_table 1 cols (mul n (mat n a) Y ⊕ mat cols e) ((mul n X Y ⊕ E) i) {n = cols} (sym (one-mul cols))
    (λ t l.
    let small : t < cols = omega (arith, one-mul cols) in
    let row : t / cols ≡ 0 = div-eq_of_lt small in
    let col : t % cols ≡ t = mod-eq_of_lt small in
    sym (ap₂ (λ (r c : ℕ). (mul n (mat n a) Y ⊕ mat cols e) r c) row col
    ∙ ap₂ (λ (x y : ℕ). x + y)
    (sum_ext n (λ k. mat n a 0 k * Y k t) (λ k. X i k * Y k t)
    (λ k o. let z : 0 * n + k ≡ k = omega (arith, zero-mul n) in ap (λ (x : ℕ). x * Y k t) (ap (λ (x : ℕ). get_or a x 0) z ∙ ha k o)))
    (let z : 0 * cols + t ≡ t = omega (arith, zero-mul cols) in ap (λ (x : ℕ). get_or e x 0) z ∙ he t small))))

-- ---- row by row

-- the word at place t of f mod m, in rows of cols
pub flat : (m cols : ℕ) (f : Matrix) → ℕ → ℕ
flat m cols f t = f (t / cols) (t % cols) % m

-- row i of a matrix, lent as a part
abbrev pub part : (cols i : ℕ) (l : List ℕ) → List ℕ
part cols i l = take (i * cols + cols - i * cols) (drop (i * cols) l)

-- its words
pub part_at : (cols i : ℕ) (l : List ℕ) (j : ℕ) → j < cols → get_or (part cols i l) j 0 ≡ mat cols l i j
part_at cols i l j h =
    get_or-take (i * cols + cols - i * cols) (drop (i * cols) l) j 0 (omega (arith, add-sub_cancel_left (i * cols) cols)) ∙ get_or-drop (i * cols) l j 0

module _ (m cols i : ℕ) (f : Matrix) where
  next : i * cols + cols ≡ (i + 1) * cols
  next = omega arith

  words : {ys : List ℕ} → ys ≡ residues m (tab cols (f i)) → ys ≡ tab cols (λ j. flat m cols f (i * cols + j))
  unfolding flat
  words q =
      q ∙ map_of_tab (λ x. x % m) cols (f i)
      ∙ tab_cong cols (λ j. f i j % m) (λ j. flat m cols f (i * cols + j)) (λ j l. sym (rw (digits_div i l, digits_mod i l)))

whole : (m rows cols : ℕ) (f : Matrix) {n : ℕ} → n ≡ rows * cols → tab n (flat m cols f) ≡ residues m (table rows cols f)
unfolding flat
whole m rows cols f q = words_table m rows cols f (flat m cols f) q (λ t _. refl)

-- e is d with its first i rows those of f mod m
pub record Rows (m cols : ℕ) (f : Matrix) (i : ℕ) (d e : List ℕ) : Type 0 where
  pub upto : Upto (flat m cols f) (i * cols) d e

-- none is written
pub rows_none : (m cols : ℕ) (f : Matrix) (d : List ℕ) → Rows m cols f 0 d d
rows_none m cols f d = record { upto = moved (none (flat m cols f) d) (sym (zero-mul cols)) }

-- the next row is written
pub rows_more : {m cols i : ℕ} {f : Matrix} {d e ys : List ℕ} → Rows m cols f i d e → i * cols + cols ≤ length d → ys ≡ residues m (tab cols (f i))
    → Rows m cols f (i + 1) d (put_mid (i * cols) (i * cols + cols - i * cols) e ys)
rows_more {m} {cols} {i} {f} {d} {e} {ys} r h q = record {
  upto = moved
      (subst (λ (w : ℕ). Upto (flat m cols f) (i * cols + cols) d (put_mid (i * cols) w e ys)) (sym (add-sub_cancel_left (i * cols) cols))
      (upto_part cols ys r.upto h (words m cols i f q)))
      (next m cols i f);
}

-- what the next row holds before it is written
pub rows_held : {m cols i : ℕ} {f : Matrix} {d e : List ℕ} → Rows m cols f i d e → (j : ℕ) → j < cols
    → get_or (part cols i e) j 0 ≡ mat cols d i j
rows_held {m} {cols} {i} r j h = upto_held r.upto (i * cols + cols - i * cols) j (omega (arith, add-sub_cancel_left (i * cols) cols))

-- all are written
pub rows_all : {m cols i : ℕ} {f : Matrix} {d e : List ℕ} (rows : ℕ) → Rows m cols f i d e → i ≡ rows → length d ≡ rows * cols → e ≡ residues m (table rows cols f)
rows_all {m} {cols} {i} {f} {d} {e} rows r q l =
    all r.upto (ap (λ (z : ℕ). z * cols) q ∙ sym l) ∙ whole m rows cols f l

-- the first i rows of e are those of f mod m, and what is behind them may change
pub record Top (m cols : ℕ) (f : Matrix) (i : ℕ) (e : List ℕ) : Type 0 where
  pub begun : Begun (flat m cols f) (i * cols) e

-- none is written
pub top_none : (m cols : ℕ) (f : Matrix) (e : List ℕ) → Top m cols f 0 e
top_none m cols f e = record { begun = subst (λ (t : ℕ). Begun (flat m cols f) t e) (sym (zero-mul cols)) (begun_none (flat m cols f) e) }

-- a part behind them is written
pub top_kept : {m cols i : ℕ} {f : Matrix} {e : List ℕ} (a k : ℕ) (ys : List ℕ) → Top m cols f i e → i * cols ≤ a → a + k ≤ length e → length ys ≡ k → Top m cols f i (put_mid a k e ys)
top_kept a k ys t l h q = record { begun = begun_kept a k ys t.begun l h q }

-- the next row is written
pub top_more : {m cols i : ℕ} {f : Matrix} {e ys : List ℕ} → Top m cols f i e → i * cols + cols ≤ length e → ys ≡ residues m (tab cols (f i))
    → Top m cols f (i + 1) (put_mid (i * cols) (i * cols + cols - i * cols) e ys)
top_more {m} {cols} {i} {f} {e} {ys} t h q =
    let put : List ℕ = put_mid (i * cols) (i * cols + cols - i * cols) e ys in
    let more : Begun (flat m cols f) (i * cols + cols) put =
    subst (λ (w : ℕ). Begun (flat m cols f) (i * cols + cols) (put_mid (i * cols) w e ys)) (sym (add-sub_cancel_left (i * cols) cols)) (begun_more cols ys t.begun h (words m cols i f q)) in
    record { begun = subst (λ (z : ℕ). Begun (flat m cols f) z put) (next m cols i f) more }

-- all are written
pub top_all : {m cols i : ℕ} {f : Matrix} {e : List ℕ} (rows : ℕ) → Top m cols f i e → i ≡ rows → take (rows * cols) e ≡ residues m (table rows cols f)
top_all {m} {cols} {i} {f} {e} rows t q =
    subst (λ (z : ℕ). take (z * cols) e ≡ tab (z * cols) (flat m cols f)) q t.begun.is
    ∙ whole m rows cols f refl

-- ---- entry by entry

-- each entry is h of two entries in its place
pub entries : (rows cols : ℕ) (h : ℕ → ℕ → ℕ) (x y : List ℕ) {t : ℕ} {d e : List ℕ} → Upto (λ k. h (get_or x k 0) (get_or y k 0)) t d e → t ≡ rows * cols → length d ≡ rows * cols
    → e ≡ table rows cols (λ i j. h (mat cols x i j) (mat cols y i j))
entries rows cols h x y u q l =
    all u (q ∙ sym l)
    ∙ is_table rows cols (λ i j. h (mat cols x i j) (mat cols y i j)) (λ k. h (get_or x k 0) (get_or y k 0)) l (λ k _. ap₂ h (place x cols k) (place y cols k))
