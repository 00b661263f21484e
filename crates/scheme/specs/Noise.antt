-- The noise that decapsulation meets, and the range in which it does no harm: docs/RULES.md, 1.3 and 4.11, over the matrices of
-- the FrodoKEM standard proposal (2023), FrodoKEM.KeyGen and FrodoKEM.Encaps.
-- Assumes nothing.
use Rattle.std.specs.Prelude.{List, ℕ, ◌<◌, ℤ, pos, neg_ℤ, ◌≤ℤ◌, ◌<ℤ◌}
use Rattle.algebra.specs.Congruence.{minus}
use Rattle.algebra.specs.Matrix.{Matrix, mat, mat_t, ◌⊕◌, mul}
use Rattle.algebra.specs.Whole.{centred}
use Rattle.sets.specs.declared.Params.{Params}
use Rattle.message.specs.Message.{half}
use Rattle.scheme.specs.Parts.{pkh_of}
use Rattle.scheme.specs.KeyGen.{key_s, key_e, public_key}
use Rattle.scheme.specs.Encaps.{enc_s, enc_e, enc_e2}

-- S'E + E'' - E'S mod q, of any five matrices
unfoldable pub noise_of : (q n : ℕ) (S E S' E' E'' : Matrix) → Matrix
noise_of q n S E S' E' E'' i j = minus q ((mul n S' E ⊕ E'') i j) (mul n E' S i j)

-- the same where the seed's key seals a message with a salt
unfoldable pub noise_at : (p : Params) (seed msg salt : List ℕ) → Matrix
noise_at p seed msg salt =
    let pkh = pkh_of p (public_key p seed) in
    noise_of p.q p.n
    (mat_t p.n (key_s p seed))
    (mat 8 (key_e p seed))
    (mat p.n (enc_s p pkh msg salt))
    (mat p.n (enc_e p pkh msg salt))
    (mat 8 (enc_e2 p pkh msg salt))

-- an entry of it, centred: at least -q/2 and less than q/2
abbrev pub centred_at : (p : Params) (seed msg salt : List ℕ) (i j : ℕ) → ℤ
centred_at p seed msg salt i j = centred p.q (noise_at p seed msg salt i j)

-- at least -h and less than h
pub record InRange (h : ℕ) (z : ℤ) : Type 0 where
  pub low : neg_ℤ (pos h) ≤ℤ z
  pub high : z <ℤ pos h

-- every entry of the noise, mod q and centred, is at least -q/2^(b+1) and less than q/2^(b+1)
abbrev pub AllInRange : (p : Params) (seed msg salt : List ℕ) → Type 0
AllInRange p seed msg salt = (i j : ℕ) → i < 8 → j < 8 → InRange (half p.q p.b) (centred_at p seed msg salt i j)
