-- Laws of the results: words taken mod q, how many there are, and their bounds.
-- Assumes nothing.
use mathlib.Core.Path.{◌≡◌, sym, ap, ap₂, ◌∙◌}
use mathlib.Core.List.{List}
use Prim.Native.Nat.{ℕ, ◌*◌}
use native.Mathlib.Nat.{mul_comm}
use lib.ListN.{length}
use Rattle.lists.specs.Lists.{residues, Below}
use Rattle.lists.proofs.Tables.{below_residues}
use Rattle.algebra.specs.Congruence.{minus}
use Rattle.algebra.specs.Matrix.{Matrix, table}
use Rattle.algebra.proofs.Congruences.{words_mod, minus_lt}
use Rattle.algebra.proofs.Tables.{length_kept, below_table}
use Rattle.sets.specs.declared.Params.{Params}
use Rattle.sets.specs.Sets.{Valid}
use Rattle.rows.proofs.Rows.{q_pos, bits_le}

-- ---- for callers

-- A S + E, in n rows of 8, has 8n words, as S' A + E' has
pub length_as : (m n : ℕ) (f : Matrix) → length (residues m (table n 8 f)) ≡ 8 * n
length_as m n f = length_kept m n 8 f ∙ mul_comm n 8

module _ {p : Params} (v : Valid p) where
  -- words mod 2^16 taken mod q are the numbers mod q
  pub words_low : (l : List ℕ) → residues p.q (residues 65536 l) ≡ residues p.q l
  words_low l =
      ap (λ (q : ℕ). residues q (residues 65536 l)) v.q_is ∙ words_mod p.d l (bits_le v) ∙ ap (λ (q : ℕ). residues q l) (sym v.q_is)

  -- the same for words that are taken mod q by a modulus of the set
  pub masked : {q : ℕ} → q ≡ p.q → (l : List ℕ) {u w : List ℕ} → u ≡ residues 65536 l → w ≡ residues q u → w ≡ residues p.q l
  masked e l hu hw = hw ∙ ap₂ residues e hu ∙ words_low l

  -- words mod q are below q
  pub below_low : (l : List ℕ) → Below p.q (residues p.q l)
  below_low l = below_residues p.q l (q_pos v)

  -- and so are differences mod q
  pub below_sub : (f g : Matrix) → Below p.q (table 8 8 (λ i j. minus p.q (f i j) (g i j)))
  below_sub f g = below_table 8 8 (λ i j. minus p.q (f i j) (g i j)) (q_pos v) (λ i j. minus_lt p.q (f i j) (g i j) (q_pos v))
