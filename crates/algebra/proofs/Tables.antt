-- The laws of a matrix laid out row by row (`table` of specs/Matrix.antt).
-- Assumes nothing.
use mathlib.Core.Path.{◌≡◌, sym, ap, ◌∙◌}
use mathlib.Core.List.{List, map}
use Prim.Native.Nat.{ℕ, zero, suc, ◌+◌, ◌*◌, ◌/◌, ◌%◌, ◌<◌}
use native.Mathlib.Nat.{div-add-mod', div-lt_iff_lt-mul, mod-lt, mod-mod, zero-mod, mul-zero}
use native.Mathlib.Omega.{arith}
use lib.ListN.{length, get_or, length-map}
use lib.Arith.{digits_lt, digits_div, digits_mod}
use Rattle.lists.specs.Lists.{tab, residues, Below}
use Rattle.lists.proofs.Tables.{length_tab, get_d_tab, tab_cong, map_of_tab, get_d_map0, below_tab}
use Rattle.algebra.specs.Congruence.{Same}
use Rattle.algebra.specs.Matrix.{Matrix, mat, table}

-- rows times cols entries
pub length_table : (rows cols : ℕ) (f : Matrix) → length (table rows cols f) ≡ rows * cols
unfolding table
length_table rows cols f = length_tab (rows * cols) (λ t. f (t / cols) (t % cols))

-- the entry at row i and column j
pub get_d_table : (rows cols : ℕ) (f : Matrix) (i j : ℕ) → i < rows → j < cols → get_or (table rows cols f) (i * cols + j) 0 ≡ f i j
unfolding table
get_d_table rows cols f i j hi hj =
    get_d_tab (rows * cols) (λ t. f (t / cols) (t % cols)) (i * cols + j) (digits_lt hi hj)
    ∙ rw (digits_div i hj, digits_mod i hj)

-- the entry at place t
pub get_d_flat : (rows cols : ℕ) (f : Matrix) (t : ℕ) → t < rows * cols → get_or (table rows cols f) t 0 ≡ f (t / cols) (t % cols)
unfolding table
get_d_flat rows cols f t h = get_d_tab (rows * cols) (λ t. f (t / cols) (t % cols)) t h

-- a function of each entry
pub map_table : (g : ℕ → ℕ) (rows cols : ℕ) (f : Matrix) → map g (table rows cols f) ≡ table rows cols (λ i j. g (f i j))
unfolding table
map_table g rows cols f = map_of_tab g (rows * cols) (λ t. f (t / cols) (t % cols))

-- an entry of a table that is kept mod q
pub same_entry : (q rows cols : ℕ) (f : Matrix) (i j : ℕ) → i < rows → j < cols → Same q (mat cols (residues q (table rows cols f)) i j) (f i j)
same_entry q rows cols f i j hi hj =
    record { eq = ap (λ (l : List ℕ). mat cols l i j % q) (map_table (λ w. w % q) rows cols f) ∙ ap (λ (z : ℕ). z % q) (get_d_table rows cols (λ i j. f i j % q) i j hi hj) ∙ mod-mod (f i j) q }

-- equal entries make equal tables
pub table_cong : (rows cols : ℕ) (f g : Matrix) → ((i j : ℕ) → i < rows → j < cols → f i j ≡ g i j) → table rows cols f ≡ table rows cols g
unfolding table
table_cong rows cols f g h =
    tab_cong (rows * cols) (λ t. f (t / cols) (t % cols)) (λ t. g (t / cols) (t % cols))
    (λ t l.
    let some : 0 < cols = positive rows cols l in
    h (t / cols) (t % cols) ((div-lt_iff_lt-mul some).1 l) (mod-lt t some))
  where
    positive : (rows cols : ℕ) {t : ℕ} → t < rows * cols → 0 < cols
    positive rows zero l = omega (arith, mul-zero rows)
    positive rows (suc cols) l = omega arith

-- the element at place t of a list, by its row and column
pub place : (l : List ℕ) (cols t : ℕ) → get_or l t 0 ≡ mat cols l (t / cols) (t % cols)
place l cols t = ap (λ (z : ℕ). get_or l z 0) (sym (div-add-mod' t cols))

-- a list given place by place is the table
pub is_table : (rows cols : ℕ) (f : Matrix) (g : ℕ → ℕ) {n : ℕ} → n ≡ rows * cols → ((t : ℕ) → t < rows * cols → g t ≡ f (t / cols) (t % cols))
    → tab n g ≡ table rows cols f
unfolding table
is_table rows cols f g {n} q h = ap (λ (z : ℕ). tab z g) q ∙ tab_cong (rows * cols) g (λ t. f (t / cols) (t % cols)) h

-- the same for entries that are kept mod m
pub words_table : (m rows cols : ℕ) (f : Matrix) (g : ℕ → ℕ) {n : ℕ} → n ≡ rows * cols → ((t : ℕ) → t < rows * cols → g t ≡ f (t / cols) (t % cols) % m)
    → tab n g ≡ residues m (table rows cols f)
words_table m rows cols f g {n} q h = is_table rows cols (λ i j. f i j % m) g q h ∙ sym (map_table (λ w. w % m) rows cols f)

-- entries kept mod m are equal where the entries are congruent
pub words_cong : (m rows cols : ℕ) (f g : Matrix) → ((i j : ℕ) → i < rows → j < cols → f i j % m ≡ g i j % m) → residues m (table rows cols f) ≡ residues m (table rows cols g)
words_cong m rows cols f g h =
    map_table (λ w. w % m) rows cols f ∙ table_cong rows cols (λ i j. f i j % m) (λ i j. g i j % m) h ∙ sym (map_table (λ w. w % m) rows cols g)

-- the entry at row i and column j, kept mod m
pub get_d_kept : (m rows cols : ℕ) (f : Matrix) (i j : ℕ) → i < rows → j < cols → get_or (residues m (table rows cols f)) (i * cols + j) 0 ≡ f i j % m
get_d_kept m rows cols f i j hi hj =
    get_d_map0 (λ w. w % m) (table rows cols f) (i * cols + j) (zero-mod m) ∙ ap (λ (x : ℕ). x % m) (get_d_table rows cols f i j hi hj)

-- how many there are
pub length_kept : (m rows cols : ℕ) (f : Matrix) → length (residues m (table rows cols f)) ≡ rows * cols
length_kept m rows cols f = length-map (table rows cols f) (λ w. w % m) ∙ length_table rows cols f

-- a table of entries below b
pub below_table : {b : ℕ} (rows cols : ℕ) (f : Matrix) → 0 < b → ((i j : ℕ) → f i j < b) → Below b (table rows cols f)
unfolding table
below_table rows cols f p h = below_tab (rows * cols) (λ t. f (t / cols) (t % cols)) p (λ t. h (t / cols) (t % cols))
