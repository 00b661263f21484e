-- The two matrices of a ciphertext (FrodoKEM standard proposal (2023), FrodoKEM.Encaps; docs/RULES.md, 4.9 and 4.10), over what they are made of: the noise,
-- the parts of a public key and the message. Encapsulation makes them, and decapsulation makes them again.
-- Assumes nothing.
use Rattle.std.specs.Prelude.{◌≡◌, List, ◌∷◌, ℕ, ◌+◌, ◌*◌, take, drop}
use Rattle.lists.specs.Lists.{residues}
use Rattle.algebra.specs.Matrix.{mat, ◌⊕◌, mul, table}
use Rattle.sets.specs.declared.Params.{Params}
use Rattle.rows.specs.Row.{mat_a}
use Rattle.codec.specs.Pack.{unpacked}
use Rattle.message.specs.Message.{encoded}
use Rattle.scheme.specs.Parts.{hash, noise_words}

-- S', E' and E'' in a row: 16n + 64 words over 0x96 and seedSE'
unfoldable pub mask_noise : (p : Params) (seedse : List ℕ) → List ℕ
mask_noise p seedse = noise_words p (hash p (0x96 ∷ seedse) (2 * (16 * p.n + 64)))

-- S'*A + E' from seedA and that noise: 8 rows of n, as whole numbers
unfoldable pub mask_b : (p : Params) (seed noise : List ℕ) → List ℕ
mask_b p seed noise =
    table 8 p.n (mul p.n (mat p.n (take (8 * p.n) noise)) (mat_a p seed) ⊕ mat p.n (take (8 * p.n) (drop (8 * p.n) noise)))

-- S'*B + E'' + the encoded message from the packed B, the message, S' and E'': 8 rows of 8, as whole numbers
unfoldable pub mask_c : (p : Params) (b msg s e : List ℕ) → List ℕ
mask_c p b msg s e =
    table 8 8 (mul p.n (mat p.n s) (mat 8 (unpacked p.d b)) ⊕ mat 8 e ⊕ mat 8 (encoded p.q p.b msg))

-- S'*A + E' in words, and of the noise that it was made of S' and E'' still stand
pub record Masked (p : Params) (seed noise noise' work' : List ℕ) : Type 0 where
  pub b_is : work' ≡ residues 65536 (mask_b p seed noise)
  pub s_stays : take (8 * p.n) noise' ≡ take (8 * p.n) noise
  pub e_stays : drop (16 * p.n) noise' ≡ drop (16 * p.n) noise
