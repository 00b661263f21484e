-- FrodoKEM standard proposal (2023), FrodoKEM.KeyGen; docs/RULES.md, 4.8: the keys of a seed, which is s, seedSE and z in a row.
-- Assumes nothing.
use Rattle.std.specs.Prelude.{List, ◌∷◌, ◌++◌, ℕ, ◌+◌, ◌*◌, take, drop}
use Rattle.bits.specs.Little.{bytes_of}
use Rattle.algebra.specs.Matrix.{mat, mat_t, ◌⊕◌, mul, table}
use Rattle.sets.specs.declared.Params.{Params}
use Rattle.codec.specs.Pack.{packed}
use Rattle.rows.specs.Row.{mat_a}
use Rattle.scheme.specs.Parts.{hash, pkh_of, noise_words}

-- s
abbrev pub seed_s : (p : Params) (seed : List ℕ) → List ℕ
seed_s p seed = take p.secret seed

-- seedSE
abbrev pub seed_se : (p : Params) (seed : List ℕ) → List ℕ
seed_se p seed = take p.seedse (drop p.secret seed)

-- z
abbrev pub seed_z : (p : Params) (seed : List ℕ) → List ℕ
seed_z p seed = drop (p.secret + p.seedse) seed

-- seedA: 16 bytes over z
unfoldable pub key_seed_a : (p : Params) (seed : List ℕ) → List ℕ
key_seed_a p seed = hash p (seed_z p seed) 16

-- 16n words over 0x5F and seedSE
unfoldable pub key_noise : (p : Params) (seed : List ℕ) → List ℕ
key_noise p seed = noise_words p (hash p (0x5F ∷ seed_se p seed) (2 * (16 * p.n)))

-- S transposed: 8 rows of n
abbrev pub key_s : (p : Params) (seed : List ℕ) → List ℕ
key_s p seed = take (8 * p.n) (key_noise p seed)

-- E: n rows of 8
abbrev pub key_e : (p : Params) (seed : List ℕ) → List ℕ
key_e p seed = drop (8 * p.n) (key_noise p seed)

-- B = A*S + E: n rows of 8, as whole numbers
unfoldable pub key_b : (p : Params) (seed : List ℕ) → List ℕ
key_b p seed = table p.n 8 (mul p.n (mat_a p (key_seed_a p seed)) (mat_t p.n (key_s p seed)) ⊕ mat 8 (key_e p seed))

-- seedA, then B packed
unfoldable pub public_key : (p : Params) (seed : List ℕ) → List ℕ
public_key p seed = key_seed_a p seed ++ packed p.d (key_b p seed)

-- s, the public key, S transposed in two bytes a word, pkh
unfoldable pub secret_key : (p : Params) (seed : List ℕ) → List ℕ
secret_key p seed = seed_s p seed ++ (public_key p seed ++ (bytes_of (key_s p seed) ++ pkh_of p (public_key p seed)))
