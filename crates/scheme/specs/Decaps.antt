-- FrodoKEM standard proposal (2023), FrodoKEM.Decaps; docs/RULES.md, 4.10: the message and the secret that any bytes of the right lengths open to.
-- The stored pkh is used as it stands.
-- Assumes nothing.
use Rattle.std.specs.Prelude.{Bool, ◌&&◌, cond, List, ◌++◌, ℕ, ◌+◌, ◌*◌, take, drop}
use Rattle.lists.specs.Lists.{residues, equal}
use Rattle.bits.specs.Little.{words_of}
use Rattle.algebra.specs.Congruence.{minus}
use Rattle.algebra.specs.Matrix.{mat, mat_t, mul, table}
use Rattle.sets.specs.declared.Params.{Params}
use Rattle.codec.specs.Pack.{unpacked}
use Rattle.message.specs.Message.{decoded}
use Rattle.scheme.specs.Parts.{hash}
use Rattle.scheme.specs.Encaps.{enc_k, enc_b, enc_c}

-- ---- the parts of a secret key

-- s
abbrev pub sk_random_s : (p : Params) (sk : List ℕ) → List ℕ
sk_random_s p sk = take p.secret sk

-- the public key
abbrev pub sk_pk : (p : Params) (sk : List ℕ) → List ℕ
sk_pk p sk = take p.pk (drop p.secret sk)

-- S transposed: 8 rows of n
abbrev pub sk_matrix_s : (p : Params) (sk : List ℕ) → List ℕ
sk_matrix_s p sk = words_of (take (16 * p.n) (drop (p.secret + p.pk) sk))

-- pkh
abbrev pub sk_pkh : (p : Params) (sk : List ℕ) → List ℕ
sk_pkh p sk = drop (p.secret + p.pk + 16 * p.n) sk

-- ---- the parts of a ciphertext

-- c1
abbrev pub ct_c1 : (p : Params) (ct : List ℕ) → List ℕ
ct_c1 p ct = take (p.d * p.n) ct

-- c2
abbrev pub ct_c2 : (p : Params) (ct : List ℕ) → List ℕ
ct_c2 p ct = take (p.d * 8) (drop (p.d * p.n) ct)

-- the salt
abbrev pub ct_salt : (p : Params) (ct : List ℕ) → List ℕ
ct_salt p ct = drop (p.d * p.n + p.d * 8) ct

-- B': 8 rows of n
abbrev pub ct_b : (p : Params) (ct : List ℕ) → List ℕ
ct_b p ct = unpacked p.d (ct_c1 p ct)

-- C: 8 rows of 8
abbrev pub ct_c : (p : Params) (ct : List ℕ) → List ℕ
ct_c p ct = unpacked p.d (ct_c2 p ct)

-- ---- the message

-- M = C - B'*S mod q: 8 rows of 8
unfoldable pub opened : (p : Params) (sk ct : List ℕ) → List ℕ
opened p sk ct =
    table 8 8 (λ i j. minus p.q (mat 8 (ct_c p ct) i j) (mul p.n (mat p.n (ct_b p ct)) (mat_t p.n (sk_matrix_s p sk)) i j))

-- the recovered message
unfoldable pub decaps_message : (p : Params) (sk ct : List ℕ) → List ℕ
decaps_message p sk ct = decoded p.q p.b (opened p sk ct)

-- ---- the secret

-- encapsulation redone with a message, the stored pkh and the ciphertext's salt gives both of the ciphertext's matrices mod q
unfoldable pub agrees : (p : Params) (sk ct msg : List ℕ) → Bool
agrees p sk ct msg =
    equal (residues p.q (enc_b p (sk_pk p sk) (sk_pkh p sk) msg (ct_salt p ct))) (ct_b p ct)
    && equal (residues p.q (enc_c p (sk_pk p sk) (sk_pkh p sk) msg (ct_salt p ct))) (ct_c p ct)

-- what is hashed behind the ciphertext: k of the message where the matrices agree, else s
unfoldable pub decaps_k : (p : Params) (sk ct msg : List ℕ) → List ℕ
decaps_k p sk ct msg = cond (agrees p sk ct msg) (enc_k p (sk_pkh p sk) msg (ct_salt p ct)) (sk_random_s p sk)

-- the secret, over the ciphertext and that
unfoldable pub decaps_secret : (p : Params) (sk ct : List ℕ) → List ℕ
decaps_secret p sk ct = hash p (ct ++ decaps_k p sk ct (decaps_message p sk ct)) p.secret
