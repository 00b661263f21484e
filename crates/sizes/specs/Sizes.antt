-- How large noise can be where no sample is larger than s: an entry of S'E + E'' - E'S, and what a generated key shows of S and E (docs/RULES.md, 4.5.3).
-- proofs/Sizes.antt and proofs/Keys.antt prove it of every set.
-- Assumes nothing.
use Rattle.std.specs.Prelude.{List, ℕ, ◌+◌, ◌*◌, ◌≤◌, ◌<◌, nat_abs, get_or}
use Rattle.algebra.specs.Congruence.{minus}
use Rattle.algebra.specs.Matrix.{mat, mat_t, mul}
use Rattle.algebra.specs.Whole.{centred}
use Rattle.sets.specs.declared.Params.{Params}
use Rattle.rows.specs.Row.{mat_a}
use Rattle.scheme.specs.Encaps.{pk_seed_a, pk_b}
use Rattle.scheme.specs.Decaps.{sk_pk, sk_matrix_s}
use Rattle.sizes.specs.Signed.{signed_word}

-- the largest size of an entry: 2n products of two samples, and a sample
abbrev pub most_noise : (n s : ℕ) → ℕ
most_noise n s = 2 * n * (s * s) + s

-- a secret key's parts fit each other: no word of S is larger than s, nor any entry of B - A*S, mod q and centred
pub record KeyFits (p : Params) (s : ℕ) (sk : List ℕ) : Type 0 where
  pub S_small : (k : ℕ) → nat_abs (signed_word (get_or (sk_matrix_s p sk) k 0)) ≤ s
  pub E_small : (i j : ℕ) → i < p.n → j < 8
      → let pk : List ℕ = sk_pk p sk in
      nat_abs (centred p.q (minus p.q (mat 8 (pk_b p pk) i j) (mul p.n (mat_a p (pk_seed_a pk)) (mat_t p.n (sk_matrix_s p sk)) i j))) ≤ s
