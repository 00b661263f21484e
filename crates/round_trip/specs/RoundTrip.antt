-- The third demand (docs/RULES.md, 1.3) of the calls themselves. A key is generated, a message is sealed and opened, each call lent what those before it have left, whatever else it is lent:
-- what the message and the secret are then. proofs/RoundTrip.antt proves it.
-- Assumes nothing.
use Rattle.std.specs.Prelude.{◌≡◌, ◌↔◌, true, List, ℕ, ◌+◌, ◌*◌, ◌^◌, ◌<◌, pos, ◌+ℤ◌, length, get_or}
use Rattle.lists.specs.Lists.{Below}
use Rattle.algebra.specs.Whole.{floor_div, modulo}
use Rattle.sets.specs.Sets.{params_of}
use Rattle.sets.specs.declared.Params.{Params}
use Rattle.sets.specs.Answers.{Done}
use Rattle.lengths.specs.Sized.{Scratch}
use Rattle.message.specs.Message.{half, groups_of}
use Rattle.scheme.specs.Noise.{centred_at, AllInRange}
use Rattle.frodo.specs.Keypair.{KeypairLent, keypair_leaves}
use Rattle.frodo.specs.Encaps.{EncapsLent, encaps_leaves}
use Rattle.frodo.specs.Decaps.{DecapsLent, decaps_leaves, DecapsSecretLent, decaps_secret_leaves}
use Rattle.frodo.specs.Margin.{MarginLent, margin_leaves}

-- ---- what the calls are lent

-- two calls of one set that were done, the second lent the first's public key
pub record Sealed (k : KeypairLent) (e : EncapsLent) : Type 0 where
  pub sealed_set : e.set ≡ k.set
  pub public_key : e.pk ≡ (keypair_leaves k).pk
  pub keys_done : (keypair_leaves k).answer ≡ Done
  pub sealing_done : (encaps_leaves e).answer ≡ Done

-- an opening of that set is lent the first's secret key and the second's ciphertext, and room of its own: for a secret, and two scratches
pub record Opens (k : KeypairLent) (e : EncapsLent) (set : ℕ) (sk ct : List ℕ) (ss noise work : ℕ) : Type 0 where
  pub opened_set : set ≡ k.set
  pub secret_key : sk ≡ (keypair_leaves k).sk
  pub ciphertext : ct ≡ (encaps_leaves e).ct
  pub ss_long : ss ≡ (params_of k.set).secret
  pub scratch : Scratch (params_of k.set) noise work

-- decapsulation as the third call has room for the message besides
pub record Trip (k : KeypairLent) (e : EncapsLent) (d : DecapsLent) : Type 0 where
  pub sealed : Sealed k e
  pub opens : Opens k e d.set d.sk d.ct (length d.ss) (length d.noise) (length d.work)
  pub msg_long : length d.msg ≡ (params_of k.set).secret

-- and decapsulation without the message
pub record SecretTrip (k : KeypairLent) (e : EncapsLent) (d : DecapsSecretLent) : Type 0 where
  pub sealed : Sealed k e
  pub opens : Opens k e d.set d.sk d.ct (length d.ss) (length d.noise) (length d.work)

-- ---- what comes back

pub record ComesBack (k : KeypairLent) (e : EncapsLent) (d : DecapsLent) : Type 0 where
  -- decapsulation is done
  pub opened : (decaps_leaves d).answer ≡ Done
  -- each group of the message that it leaves is the sealed one plus floor((e + h) / 2h), mod 2^b, where e is its own centred entry of the noise
  pub groupwise : (i j : ℕ) → i < 8 → j < 8
      → let p : Params = params_of k.set in
      get_or (groups_of p.b (decaps_leaves d).msg) (i * 8 + j) 0
      ≡ modulo
      (pos (get_or (groups_of p.b e.msg) (i * 8 + j) 0) +ℤ floor_div (centred_at p k.seed e.msg e.salt i j +ℤ pos (half p.q p.b)) (2 * half p.q p.b))
      (2 ^ p.b)
  -- the message is the sealed one exactly where every entry of the noise is in range
  pub message : ((decaps_leaves d).msg ≡ e.msg) ↔ AllInRange (params_of k.set) k.seed e.msg e.salt
  -- and where it is, the secret is encapsulation's
  pub secret : (decaps_leaves d).msg ≡ e.msg → (decaps_leaves d).ss ≡ (encaps_leaves e).ss

-- for all that the calls may be lent, the message being bytes
abbrev pub RoundTrip : Type 0
RoundTrip = (k : KeypairLent) (e : EncapsLent) (d : DecapsLent) → Trip k e d → Below 256 e.msg → ComesBack k e d

-- without the message: decapsulation is done, and its secret is encapsulation's where every entry of the noise is in range
pub record SecretComesBack (k : KeypairLent) (e : EncapsLent) (d : DecapsSecretLent) : Type 0 where
  pub opened : (decaps_secret_leaves d).answer ≡ Done
  pub secret : AllInRange (params_of k.set) k.seed e.msg e.salt → (decaps_secret_leaves d).ss ≡ (encaps_leaves e).ss

abbrev pub SecretRoundTrip : Type 0
SecretRoundTrip = (k : KeypairLent) (e : EncapsLent) (d : DecapsSecretLent) → SecretTrip k e d → Below 256 e.msg → SecretComesBack k e d

-- ---- the margin

-- a margin that was asked for the same seed, message and salt
pub record Measured (k : KeypairLent) (e : EncapsLent) (m : MarginLent) : Type 0 where
  pub one_set : m.set ≡ k.set
  pub seed : m.seed ≡ k.seed
  pub msg : m.msg ≡ e.msg
  pub salt : m.salt ≡ e.salt
  pub done : (margin_leaves m).margin.answer ≡ Done

-- where it says kept, the message comes back, and the secret with it
abbrev pub KeptComesBack : Type 0
KeptComesBack = (k : KeypairLent) (e : EncapsLent) (d : DecapsLent) (m : MarginLent) → Trip k e d → Below 256 e.msg → Measured k e m
    → (margin_leaves m).margin.kept ≡ true → ((decaps_leaves d).msg ≡ e.msg) × ((decaps_leaves d).ss ≡ (encaps_leaves e).ss)

-- lent the same seed, message and salt, and two scratches of the set's lengths, it is done
abbrev pub MeasuredWhen : Type 0
MeasuredWhen = (k : KeypairLent) (e : EncapsLent) (m : MarginLent) → Sealed k e → m.set ≡ k.set → m.seed ≡ k.seed → m.msg ≡ e.msg → m.salt ≡ e.salt
    → Scratch (params_of k.set) (length m.noise) (length m.work) → Measured k e m

-- and it says kept exactly where the message that decapsulation leaves is the sealed one
abbrev pub KeptExactly : Type 0
KeptExactly = (k : KeypairLent) (e : EncapsLent) (d : DecapsLent) (m : MarginLent) → Trip k e d → Below 256 e.msg → Measured k e m
    → ((margin_leaves m).margin.kept ≡ true) ↔ ((decaps_leaves d).msg ≡ e.msg)
