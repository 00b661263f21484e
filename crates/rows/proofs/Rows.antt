-- A row of A has n words, each below q; and q - 1 is a mask of at most 16 bits.
-- Assumes nothing.
use mathlib.Core.Path.{◌≡◌, sym, ap, ◌∙◌, subst}
use mathlib.Core.Logic.{⊎_elim}
use mathlib.Core.List.{List}
use Prim.Native.Nat.{ℕ, ◌*◌, ◌-◌, ◌%◌, ◌^◌, ◌≤◌, ◌<◌}
use native.Mathlib.Omega.{arith}
use lib.Dec.{lit<}
use lib.ListN.{length, length-map}
use lib.Pow.{pow_pos}
use Rattle.lists.specs.Lists.{Below}
use Rattle.lists.proofs.Tables.{below_residues}
use Rattle.bits.proofs.Little.{length_words}
use Rattle.words.specs.Words.{Mask}
use Rattle.shake.proofs.Length.{length_shake}
use Rattle.sets.specs.declared.Params.{Params}
use Rattle.sets.specs.Sets.{Valid}
use Rattle.rows.specs.Row.{row_words, row}

module _ {p : Params} (v : Valid p) where
  -- q has at most 16 bits
  pub bits_le : p.d ≤ 16
  bits_le = ⊎_elim (λ h. omega arith) (λ h. omega arith) v.d_cases

  -- q is not 0
  pub q_pos : 0 < p.q
  q_pos = subst (λ (x : ℕ). 0 < x) (sym v.q_is) (pow_pos p.d)

  -- and at most 2^16
  pub q_le : p.q ≤ 65536
  q_le = ⊎_elim (λ h. omega (arith, v.q_is ∙ ap (λ (x : ℕ). 2 ^ x) h)) (λ h. omega (arith, v.q_is ∙ ap (λ (x : ℕ). 2 ^ x) h)) v.d_cases

  -- q - 1 is a mask
  pub mask_of : {m : ℕ} → m ≡ p.q - 1 → Mask m
  mask_of e = record { bits = p.d; is = e ∙ ap (λ (x : ℕ). x - 1) v.q_is; small = bits_le }

  -- every word of a row is below q
  pub below_row : (seedA : List ℕ) (i : ℕ) → Below p.q (row p seedA i)
  unfolding row
  below_row seedA i = below_residues p.q (row_words p.n seedA i) q_pos

-- a row has n words before they are taken mod q
pub length_row_words : (n : ℕ) (seedA : List ℕ) (i : ℕ) → length (row_words n seedA i) ≡ n
unfolding row_words
length_row_words n seedA i = length_words n _ (length_shake 168 _ (2 * n) (lit< tt))

-- and after
pub length_row : (p : Params) (seedA : List ℕ) (i : ℕ) → length (row p seedA i) ≡ p.n
unfolding row
length_row p seedA i = length-map (row_words p.n seedA i) (λ w. w % p.q) ∙ length_row_words p.n seedA i
