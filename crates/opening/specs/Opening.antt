-- What opening a ciphertext asks of lengths besides the ciphertext's own (docs/RULES.md, 2.1), and a choice as a number.
-- Assumes nothing.
use Rattle.std.specs.Prelude.{◌≡◌, Bool, cond, ℕ, ◌+◌, ◌*◌}
use Rattle.sets.specs.declared.Params.{Params}

-- a secret key and a part of the noise scratch
pub record OpenSized (p : Params) (sk noise : ℕ) : Type 0 where
  pub sk_long : sk ≡ p.sk
  pub noise_long : noise ≡ 16 * p.n + 64

-- 1 where it holds, and 0 where not
abbrev pub bit : Bool → ℕ
bit t = cond t 1 0
