-- The third demand (docs/RULES.md, 1.3) as a statement, with the law of each group from which it follows. A seed's key seals a message with a salt, and
-- the same key opens it again: what comes back, and when. proofs/Demand3.antt proves it.
-- Assumes nothing.
use Rattle.std.specs.Prelude.{◌≡◌, ◌↔◌, List, ℕ, ◌+◌, ◌*◌, ◌^◌, ◌<◌, pos, ◌+ℤ◌, length, get_or, Some}
use Rattle.lists.specs.Lists.{Below}
use Rattle.algebra.specs.Whole.{floor_div, modulo}
use Rattle.sets.specs.Sets.{chosen}
use Rattle.sets.specs.declared.Params.{Params}
use Rattle.message.specs.Message.{half, groups_of}
use Rattle.scheme.specs.KeyGen.{public_key, secret_key}
use Rattle.scheme.specs.Encaps.{ciphertext, shared_secret}
use Rattle.scheme.specs.Decaps.{decaps_message, decaps_secret}
use Rattle.scheme.specs.Noise.{centred_at, AllInRange}

-- the ciphertext of a message and a salt under the seed's public key
abbrev pub sealed : (p : Params) (seed msg salt : List ℕ) → List ℕ
sealed p seed msg salt = ciphertext p (public_key p seed) msg salt

-- the message and the secret that the seed's secret key opens it to
abbrev pub recovered_message : (p : Params) (seed msg salt : List ℕ) → List ℕ
recovered_message p seed msg salt = decaps_message p (secret_key p seed) (sealed p seed msg salt)

abbrev pub recovered_secret : (p : Params) (seed msg salt : List ℕ) → List ℕ
recovered_secret p seed msg salt = decaps_secret p (secret_key p seed) (sealed p seed msg salt)

pub record Demand3 (p : Params) (seed msg salt : List ℕ) : Type 0 where
  -- the law of each group: a recovered group is the sent one plus floor((e + h) / 2h), mod 2^b, where e is its own centred entry of the noise
  pub groupwise : (i j : ℕ) → i < 8 → j < 8
      → get_or (groups_of p.b (recovered_message p seed msg salt)) (i * 8 + j) 0
      ≡ modulo
      (pos (get_or (groups_of p.b msg) (i * 8 + j) 0) +ℤ floor_div (centred_at p seed msg salt i j +ℤ pos (half p.q p.b)) (2 * half p.q p.b))
      (2 ^ p.b)
  -- the message comes back exactly where every entry of the noise is in range
  pub message : (recovered_message p seed msg salt ≡ msg) ↔ AllInRange p seed msg salt
  -- and where it does, both ends have one secret
  pub secret : recovered_message p seed msg salt ≡ msg → recovered_secret p seed msg salt ≡ shared_secret p (public_key p seed) msg salt

-- for every set that has a number, every seed and every message of bytes of that set's lengths, and every salt
abbrev pub ThirdDemand : Type 0
ThirdDemand = (set : ℕ) (p : Params) → chosen set ≡ Some p
    → (seed msg salt : List ℕ) → length seed ≡ p.seed → length msg ≡ p.secret → Below 256 msg → Demand3 p seed msg salt
