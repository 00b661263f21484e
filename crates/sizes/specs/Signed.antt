-- The noise of the third demand (docs/RULES.md, 1.3) over the signed numbers that sampling answers (docs/RULES.md, 4.5.3), before anything is taken mod q, with the matrices
-- of the FrodoKEM standard proposal (2023), FrodoKEM.KeyGen and FrodoKEM.Encaps. proofs/Signed.antt proves that the noise is this mod q, and SignedDemand.
-- Assumes nothing.
use Rattle.std.specs.Prelude.{◌≡◌, ◌↔◌, List, ℕ, zero, suc, ◌<◌, ℤ, pos, ◌+ℤ◌, ◌-ℤ◌, ◌*ℤ◌, length, Some}
use Rattle.lists.specs.Lists.{Below}
use Rattle.algebra.specs.Matrix.{Matrix, mat, mat_t}
use Rattle.algebra.specs.Whole.{centred, modulo}
use Rattle.sets.specs.Sets.{chosen}
use Rattle.sets.specs.declared.Params.{Params}
use Rattle.message.specs.Message.{half}
use Rattle.scheme.specs.Parts.{pkh_of}
use Rattle.scheme.specs.KeyGen.{key_s, key_e, public_key}
use Rattle.scheme.specs.Encaps.{enc_s, enc_e, enc_e2}
use Rattle.scheme.specs.Noise.{InRange}
use Rattle.scheme.specs.Demand3.{recovered_message}

-- f 0 + f 1 + .. + f (n - 1), of signed numbers
unfoldable pub sumℤ : ℕ → (ℕ → ℤ) → ℤ
sumℤ zero f = pos 0
sumℤ (suc n) f = sumℤ n f +ℤ f n

-- the signed number that a stored word stands for, at least -2^15 and less than 2^15: of a word of noise, its sample
abbrev pub signed_word : ℕ → ℤ
signed_word w = centred 65536 w

-- S'E + E'' - E'S, of the signed numbers that the words of five matrices stand for
unfoldable pub signed_noise : (n : ℕ) (S E S' E' E'' : Matrix) (i j : ℕ) → ℤ
signed_noise n S E S' E' E'' i j =
    sumℤ n (λ k. signed_word (S' i k) *ℤ signed_word (E k j)) +ℤ signed_word (E'' i j) -ℤ sumℤ n (λ k. signed_word (E' i k) *ℤ signed_word (S k j))

-- the same where the seed's key seals a message with a salt
unfoldable pub signed_noise_at : (p : Params) (seed msg salt : List ℕ) (i j : ℕ) → ℤ
signed_noise_at p seed msg salt =
    let pkh = pkh_of p (public_key p seed) in
    signed_noise p.n
    (mat_t p.n (key_s p seed))
    (mat 8 (key_e p seed))
    (mat p.n (enc_s p pkh msg salt))
    (mat p.n (enc_e p pkh msg salt))
    (mat 8 (enc_e2 p pkh msg salt))

-- every entry, mod q and centred, is at least -q/2^(b+1) and less than q/2^(b+1)
abbrev pub SignedInRange : (p : Params) (seed msg salt : List ℕ) → Type 0
SignedInRange p seed msg salt = (i j : ℕ) → i < 8 → j < 8 → InRange (half p.q p.b) (centred p.q (modulo (signed_noise_at p seed msg salt i j) p.q))

-- the third demand of these numbers: the message comes back exactly where every entry is in range
abbrev pub SignedDemand : Type 0
SignedDemand = (set : ℕ) (p : Params) → chosen set ≡ Some p
    → (seed msg salt : List ℕ) → length seed ≡ p.seed → length msg ≡ p.secret → Below 256 msg
    → (recovered_message p seed msg salt ≡ msg) ↔ SignedInRange p seed msg salt
