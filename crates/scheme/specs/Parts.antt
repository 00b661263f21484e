-- FrodoKEM standard proposal (2023), what FrodoKEM.KeyGen, FrodoKEM.Encaps and FrodoKEM.Decaps share; docs/RULES.md, 4.5.3 and 4.8 to 4.10: the set's hash and its noise.
-- Assumes nothing.
use Rattle.std.specs.Prelude.{List, map, ℕ, ℤ}
use Rattle.algebra.specs.Whole.{modulo}
use Rattle.bits.specs.Little.{words_of}
use Rattle.shake.specs.Shake.{shake}
use Rattle.sets.specs.declared.Chi.{Chi}
use Rattle.sets.specs.declared.Params.{Params}
use Rattle.noise.specs.Noise.{sampled, table_of}

-- l bytes of the set's SHAKE over x
unfoldable pub hash : (p : Params) (x : List ℕ) (l : ℕ) → List ℕ
hash p x l = shake p.rate x l

-- pkh of a public key
abbrev pub pkh_of : (p : Params) (pk : List ℕ) → List ℕ
pkh_of p pk = hash p pk p.secret

-- Frodo.SampleMatrix, as a list: a signed number for each word of random bits, by a table
abbrev pub samples : (chi : Chi) (ws : List ℕ) → List ℤ
samples chi ws = map (sampled (table_of chi)) ws

-- a signed number mod 2^16, as it is stored
unfoldable pub stored : ℤ → ℕ
stored z = modulo z 65536

-- the samples as they are stored
abbrev pub stored_samples : (chi : Chi) (ws : List ℕ) → List ℕ
stored_samples chi ws = map stored (samples chi ws)

-- the set's noise: a word for each two bytes
abbrev pub noise_words : (p : Params) (bytes : List ℕ) → List ℕ
noise_words p bytes = stored_samples p.chi (words_of bytes)
