-- FrodoKEM standard proposal (2023), FrodoKEM.Encaps; docs/RULES.md, 4.9: what a message and a salt become under a public key. The parts take
-- pkh as it is given, since decapsulation redoes them with the pkh that it has stored.
-- Assumes nothing.
use Rattle.std.specs.Prelude.{List, ◌∷◌, ◌++◌, ℕ, ◌+◌, ◌*◌, take, drop}
use Rattle.algebra.specs.Matrix.{mat, ◌⊕◌, mul, table}
use Rattle.sets.specs.declared.Params.{Params}
use Rattle.codec.specs.Pack.{packed, unpacked}
use Rattle.message.specs.Message.{encoded}
use Rattle.rows.specs.Row.{mat_a}
use Rattle.scheme.specs.Parts.{hash, pkh_of, noise_words}

-- seedA of a public key
abbrev pub pk_seed_a : (pk : List ℕ) → List ℕ
pk_seed_a pk = take 16 pk

-- B of a public key: n rows of 8
abbrev pub pk_b : (p : Params) (pk : List ℕ) → List ℕ
pk_b p pk = unpacked p.d (drop 16 pk)

-- seedSE' and k in a row, over pkh, the message and the salt
unfoldable pub draw : (p : Params) (pkh msg salt : List ℕ) → List ℕ
draw p pkh msg salt = hash p (pkh ++ (msg ++ salt)) (p.seedse + p.secret)

-- seedSE'
abbrev pub enc_seed_se : (p : Params) (pkh msg salt : List ℕ) → List ℕ
enc_seed_se p pkh msg salt = take p.seedse (draw p pkh msg salt)

-- k
abbrev pub enc_k : (p : Params) (pkh msg salt : List ℕ) → List ℕ
enc_k p pkh msg salt = drop p.seedse (draw p pkh msg salt)

-- 16n + 64 words over 0x96 and seedSE'
unfoldable pub enc_noise : (p : Params) (pkh msg salt : List ℕ) → List ℕ
enc_noise p pkh msg salt = noise_words p (hash p (0x96 ∷ enc_seed_se p pkh msg salt) (2 * (16 * p.n + 64)))

-- S': 8 rows of n
abbrev pub enc_s : (p : Params) (pkh msg salt : List ℕ) → List ℕ
enc_s p pkh msg salt = take (8 * p.n) (enc_noise p pkh msg salt)

-- E': 8 rows of n
abbrev pub enc_e : (p : Params) (pkh msg salt : List ℕ) → List ℕ
enc_e p pkh msg salt = take (8 * p.n) (drop (8 * p.n) (enc_noise p pkh msg salt))

-- E'': 8 rows of 8
abbrev pub enc_e2 : (p : Params) (pkh msg salt : List ℕ) → List ℕ
enc_e2 p pkh msg salt = drop (16 * p.n) (enc_noise p pkh msg salt)

-- B' = S'*A + E': 8 rows of n, as whole numbers
unfoldable pub enc_b : (p : Params) (pk pkh msg salt : List ℕ) → List ℕ
enc_b p pk pkh msg salt = table 8 p.n (mul p.n (mat p.n (enc_s p pkh msg salt)) (mat_a p (pk_seed_a pk)) ⊕ mat p.n (enc_e p pkh msg salt))

-- C = S'*B + E'' + the encoded message: 8 rows of 8, as whole numbers
unfoldable pub enc_c : (p : Params) (pk pkh msg salt : List ℕ) → List ℕ
enc_c p pk pkh msg salt =
    table 8 8
    (mul p.n (mat p.n (enc_s p pkh msg salt)) (mat 8 (pk_b p pk)) ⊕ mat 8 (enc_e2 p pkh msg salt) ⊕ mat 8 (encoded p.q p.b msg))

-- c1, c2 and the salt: B' packed, C packed, the salt as it is
unfoldable pub ciphertext : (p : Params) (pk msg salt : List ℕ) → List ℕ
ciphertext p pk msg salt =
    packed p.d (enc_b p pk (pkh_of p pk) msg salt) ++ (packed p.d (enc_c p pk (pkh_of p pk) msg salt) ++ salt)

-- the secret, over the ciphertext and k
unfoldable pub shared_secret : (p : Params) (pk msg salt : List ℕ) → List ℕ
shared_secret p pk msg salt = hash p (ciphertext p pk msg salt ++ enc_k p (pkh_of p pk) msg salt) p.secret
