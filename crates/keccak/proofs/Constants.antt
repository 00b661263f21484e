-- FIPS 202 (2015), iota: the round constants that the register of rc(t) gives, as the list that the code has.
-- Assumes nothing.
use mathlib.Core.Path.{◌≡◌, refl, ap, ◌∙◌}
use mathlib.Core.List.{List, [], ◌∷◌}
use Prim.Native.Nat.{ℕ, ◌<◌}
use lib.ListN.{get_or}
use Rattle.lists.specs.Lists.{tab}
use Rattle.lists.proofs.Tables.{get_d_tab}
use Rattle.keccak.specs.Keccak.{round_constant}

abbrev pub constants : List ℕ
constants =
    0x0000000000000001 ∷ 0x0000000000008082 ∷ 0x800000000000808a ∷ 0x8000000080008000 ∷ 0x000000000000808b ∷ 0x0000000080000001 ∷ 0x8000000080008081 ∷ 0x8000000000008009 ∷ 0x000000000000008a ∷ 0x0000000000000088 ∷ 0x0000000080008009 ∷ 0x000000008000000a ∷ 0x000000008000808b ∷ 0x800000000000008b ∷ 0x8000000000008089 ∷ 0x8000000000008003 ∷ 0x8000000000008002 ∷ 0x8000000000000080 ∷ 0x000000000000800a ∷ 0x800000008000000a ∷ 0x8000000080008081 ∷ 0x8000000000008080 ∷ 0x0000000080000001 ∷ 0x8000000080008008 ∷ []

-- the register gives them
constants_are : constants ≡ tab 24 round_constant
unfolding round_constant
constants_are = refl

-- round i has element i
pub constant_at : (i : ℕ) → i < 24 → get_or constants i 0 ≡ round_constant i
constant_at i h = ap (λ (l : List ℕ). get_or l i 0) constants_are ∙ get_d_tab 24 round_constant i h
