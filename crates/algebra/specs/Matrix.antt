-- Matrices of words, as functions of row and column. Products are whole numbers: they are reduced where words are stored, packed or decoded, and not here.
-- Assumes nothing.
use Rattle.std.specs.Prelude.{List, ℕ, ◌+◌, ◌*◌, ◌/◌, ◌%◌, get_or}
use Rattle.lists.specs.Lists.{tab}
use Rattle.algebra.specs.Sum.{sum}

abbrev pub Matrix : Type 0
Matrix = ℕ → ℕ → ℕ

-- the matrix whose rows of `cols` words stand one after the other in l
abbrev pub mat : (cols : ℕ) → List ℕ → Matrix
mat cols l i j = get_or l (i * cols + j) 0

-- the matrix whose columns of `rows` words stand one after the other in l, as S is stored
abbrev pub mat_t : (rows : ℕ) → List ℕ → Matrix
mat_t rows l i j = get_or l (j * rows + i) 0

-- the matrix of a rule for rows
abbrev pub of_rows : (ℕ → List ℕ) → Matrix
of_rows rows i j = get_or (rows i) j 0

infixl 60 ◌⊕◌
-- the sum, entry by entry
abbrev pub ◌⊕◌ : Matrix → Matrix → Matrix
(X ⊕ Y) i j = X i j + Y i j

-- the product, over n columns of X and n rows of Y
abbrev pub mul : ℕ → Matrix → Matrix → Matrix
mul n X Y i j = sum n (λ k. X i k * Y k j)

-- the entries of a matrix, row by row
unfoldable pub table : (rows cols : ℕ) → Matrix → List ℕ
table rows cols f = tab (rows * cols) (λ t. f (t / cols) (t % cols))
