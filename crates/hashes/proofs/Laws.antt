-- What the hashes share: the set's rate is one that the sponge takes. Assumes nothing.
use mathlib.Core.Path.{◌≡◌}
use mathlib.Core.Logic.{◌⊎◌, inl, inr}
use Prim.Native.Nat.{ℕ, ◌%◌, ◌<◌, ◌≤◌}
use native.Mathlib.Omega.{arith}
use Rattle.sets.specs.Sets.{Valid}
use Rattle.sets.specs.declared.Params.{Params}

-- the rates of SHAKE128 and SHAKE256 are at most 200 bytes, and even
rates : {r : ℕ} → (r ≡ 168) ⊎ (r ≡ 136) → (0 < r) × (r ≤ 200) × (r % 2 ≡ 0)
rates (inl e) = (omega arith, omega arith, omega arith)
rates (inr e) = (omega arith, omega arith, omega arith)

-- the sponge takes the set's rate, and can be squeezed two bytes at a time
pub rate_even : {p : Params} → Valid p → (0 < p.rate) × (p.rate ≤ 200) × (p.rate % 2 ≡ 0)
rate_even valid = rates valid.rate_cases

pub rate_taken : {p : Params} → Valid p → (0 < p.rate) × (p.rate ≤ 200)
rate_taken valid = ((rate_even valid).0, (rate_even valid).1)
