-- What decapsulation accepts (docs/RULES.md, 4.10), as a statement; proofs/Accepted.antt proves it.
-- Assumes nothing.
use Rattle.std.specs.Prelude.{◌≡◌, ◌↔◌, true, List, ◌++◌, ℕ, length}
use Rattle.lists.specs.Lists.{Below}
use Rattle.sets.specs.Sets.{Valid}
use Rattle.sets.specs.declared.Params.{Params}
use Rattle.scheme.specs.Parts.{hash, pkh_of}
use Rattle.scheme.specs.Encaps.{ciphertext, shared_secret}
use Rattle.scheme.specs.Decaps.{sk_random_s, sk_pk, sk_pkh, ct_salt, decaps_message, agrees, decaps_secret}

-- a secret key whose pkh is the hash of its own public key, as that of every generated key is
abbrev pub HoldsItsHash : (p : Params) (sk : List ℕ) → Type 0
HoldsItsHash p sk = sk_pkh p sk ≡ pkh_of p (sk_pk p sk)

-- the bytes are, every one of c1 and c2, what encapsulation makes of a message and the bytes' own salt
abbrev pub Remade : (p : Params) (sk ct msg : List ℕ) → Type 0
Remade p sk ct msg = ciphertext p (sk_pk p sk) msg (ct_salt p ct) ≡ ct

pub record Accepts (p : Params) (sk ct : List ℕ) : Type 0 where
  -- decapsulation takes the k of the message that the bytes open to exactly where they are made of that message
  pub exactly : (agrees p sk ct (decaps_message p sk ct) ≡ true) ↔ Remade p sk ct (decaps_message p sk ct)
  -- and then gives the secret that encapsulation gives with them
  pub taken : Remade p sk ct (decaps_message p sk ct) → decaps_secret p sk ct ≡ shared_secret p (sk_pk p sk) (decaps_message p sk ct) (ct_salt p ct)
  -- else the hash of the bytes and s
  pub refused : (Remade p sk ct (decaps_message p sk ct) → ⊥) → decaps_secret p sk ct ≡ hash p (ct ++ sk_random_s p sk) p.secret

-- for every valid set, every key that holds its own hash, and all bytes of a ciphertext's length
abbrev pub AcceptedExactly : Type 0
AcceptedExactly = (p : Params) → Valid p → (sk ct : List ℕ) → HoldsItsHash p sk → length ct ≡ p.ct → Below 256 ct → Accepts p sk ct
