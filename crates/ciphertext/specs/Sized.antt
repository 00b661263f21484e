-- What a view of a ciphertext asks (docs/RULES.md, 2.1): a set, and bytes of its ciphertexts' length.
-- Assumes nothing.
use Rattle.std.specs.Prelude.{◌≡◌, ℕ}
use Rattle.sets.specs.Sets.{Valid}
use Rattle.sets.specs.declared.Params.{Params}

pub record CiphertextSized (p : Params) (ct : ℕ) : Type 0 where
  pub valid : Valid p
  pub ct_long : ct ≡ p.ct
