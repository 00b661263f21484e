-- S, E and B (docs/RULES.md, 4.8): the noise that is drawn and the product of its parts are the scheme's.
-- Assumes nothing.
use mathlib.Core.Path.{◌≡◌, ap, ap₂, ◌∙◌}
use mathlib.Core.List.{List, ◌∷◌, ◌++◌}
use Prim.Native.Nat.{ℕ, ◌+◌, ◌*◌, ◌-◌}
use native.Mathlib.Omega.{arith}
use lib.ListN.{length, take, drop, length-drop}
use lib.Seq.{take_at, take-append-le, drop-append-le}
use Rattle.lists.specs.Lists.{residues}
use Rattle.lists.proofs.Spans.{drop_front}
use Rattle.algebra.specs.Matrix.{mat, mat_t, mul, ◌⊕◌, table}
use Rattle.sets.specs.Sets.{Valid}
use Rattle.sets.specs.declared.Params.{Params}
use Rattle.rows.specs.Row.{mat_a}
use Rattle.scheme.specs.Parts.{hash, noise_words}
use Rattle.scheme.specs.KeyGen.{key_seed_a, key_noise, key_s, key_e, key_b}
use Rattle.scheme.proofs.Keys.{length_key_noise}
use Rattle.keys.specs.Made.{MatrixSized, MatrixMade}
use Rattle.lists.proofs.Filled.{length_front}

module _ (p : Params) (valid : Valid p) (seed : List ℕ) where
  -- behind the key's noise anything may stand: S is in front
  pub front_is_S : {noise' : List ℕ} (rest : List ℕ) → noise' ≡ key_noise p seed ++ rest → take (8 * p.n - 0) noise' ≡ key_s p seed
  front_is_S rest e =
      let k : 8 * p.n - 0 ≡ 8 * p.n = omega arith in
      ap₂ take k e ∙ take-append-le (8 * p.n) (key_noise p seed) rest (omega (arith, length_key_noise p valid seed))

  -- and then E
  pub then_is_E : {noise' : List ℕ} (rest : List ℕ) → noise' ≡ key_noise p seed ++ rest → take (16 * p.n - 8 * p.n) (drop (8 * p.n) noise') ≡ key_e p seed
  then_is_E rest e =
      let n = p.n in
      ap (λ (l : List ℕ). take (16 * n - 8 * n) (drop (8 * n) l)) e
      ∙ ap (take (16 * n - 8 * n)) (drop-append-le (8 * n) (key_noise p seed) rest (omega (arith, length_key_noise p valid seed)))
      ∙ take_at (key_e p seed) rest (16 * n - 8 * n) (length-drop (8 * n) (key_noise p seed) ∙ omega (arith, length_key_noise p valid seed))

module _ (p : Params) (seed noise work : List ℕ) (sized : MatrixSized p (length seed) (length noise) (length work)) where
  -- what is drawn over 0x5F and seedSE is the key's noise
  drawn : {nz : List ℕ}
      → nz ≡ noise_words p (hash p (0x5F ∷ take (p.secret + p.seedse - p.secret) (drop p.secret seed)) (2 * length (take (16 * p.n - 0) noise)))
      → nz ≡ key_noise p seed
  unfolding key_noise
  drawn e =
      let k : p.secret + p.seedse - p.secret ≡ p.seedse = omega arith in
      e
      ∙ ap₂ (λ (x l : ℕ). noise_words p (hash p (0x5F ∷ take x (drop p.secret seed)) (2 * l))) k
      (length_front (16 * p.n) noise (omega (arith, sized.valid.noise_is, sized.scratch.noise_room)))

  -- and the product of its parts is B
  pub matrix_made : {a nz : List ℕ} (w : List ℕ) → a ≡ key_seed_a p seed
      → nz ≡ noise_words p (hash p (0x5F ∷ take (p.secret + p.seedse - p.secret) (drop p.secret seed)) (2 * length (take (16 * p.n - 0) noise)))
      → length w ≡ length (take (9 * p.n - 0) work)
      → (let noise' = nz ++ drop (16 * p.n - 0) noise in
      take (8 * p.n) w ≡ residues 65536 (table p.n 8 (mul p.n (mat_a p a) (mat_t p.n (take (8 * p.n - 0) noise')) ⊕ mat 8 (take (16 * p.n - 8 * p.n) (drop (8 * p.n) noise'))))
      → MatrixMade p seed noise work noise' (w ++ drop (9 * p.n - 0) work))
  unfolding key_b
  matrix_made {a} {nz} w ea en lw ew =
      let n = p.n in
      let k : 16 * n - 0 ≡ 16 * n = omega arith in
      let e : nz ++ drop (16 * n - 0) noise ≡ key_noise p seed ++ drop (16 * n) noise = ap₂ (λ (x : List ℕ) (j : ℕ). x ++ drop j noise) (drawn en) k in
      let l : length w ≡ 9 * n = lw ∙ length_front (9 * n) work (omega (arith, sized.valid.work_is, sized.scratch.work_room)) in
      let S = front_is_S p sized.valid seed _ e in
      let E = then_is_E p sized.valid seed _ e in
      record {
        noise_is = e;
        b_is = take-append-le (8 * n) w (drop (9 * n - 0) work) (omega arith) ∙ ew ∙ (λ i. residues 65536 (table n 8 (mul n (mat_a p (ea i)) (mat_t n (S i)) ⊕ mat 8 (E i))));
        rest_is = drop_front work w (9 * n - 0) (9 * n) (l ∙ omega arith) (omega arith);
      }
