-- What packing asks of its lengths (docs/RULES.md, 4.3): eight words of d bits are d bytes, and d is 15 or 16.
-- A caller with `Valid p` of the crate sets gives its d-cases, n, w ≡ 8 * n and b ≡ d * n.
-- Assumes nothing.
use Rattle.std.specs.Prelude.{◌≡◌, ◌⊎◌, ℕ, ◌*◌}

-- w words of d bits and b bytes
pub record Packing (d w b : ℕ) : Type 0 where
  pub width : (d ≡ 15) ⊎ (d ≡ 16)
  pub count : ℕ
  pub words : w ≡ 8 * count
  pub bytes : b ≡ d * count
