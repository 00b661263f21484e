-- FrodoKEM standard proposal (2023), Frodo.Gen with SHAKE128; docs/RULES.md, 4.6.
-- All that is said of A above is said through `row`.
-- Assumes nothing.
use Rattle.std.specs.Prelude.{List, ◌∷◌, ℕ, ◌*◌, ◌/◌, ◌%◌}
use Rattle.lists.specs.Lists.{residues}
use Rattle.bits.specs.Little.{words_of}
use Rattle.algebra.specs.Matrix.{Matrix, of_rows}
use Rattle.shake.specs.Shake.{shake}
use Rattle.sets.specs.declared.Params.{Params}

-- the words of row i before they are taken mod q: 2n bytes of SHAKE128 over i as two little-endian bytes, then seedA
unfoldable pub row_words : (n : ℕ) (seedA : List ℕ) (i : ℕ) → List ℕ
row_words n seedA i = words_of (shake 168 (i % 256 ∷ i / 256 ∷ seedA) (2 * n))

-- row i of A
unfoldable pub row : (p : Params) (seedA : List ℕ) (i : ℕ) → List ℕ
row p seedA i = residues p.q (row_words p.n seedA i)

-- A, n by n
abbrev pub mat_a : (p : Params) (seedA : List ℕ) → Matrix
mat_a p seedA = of_rows (row p seedA)
