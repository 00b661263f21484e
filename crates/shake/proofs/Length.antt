-- SHAKE gives as many bytes as it is asked for, and they are bytes.
-- Assumes nothing.
use mathlib.Core.Path.{◌≡◌, sym, ap₂, ◌∙◌, subst}
use mathlib.Core.List.{List}
use Prim.Native.Nat.{ℕ, zero, suc, ◌+◌, ◌*◌, ◌/◌, ◌%◌, ◌^◌, ◌≤◌, ◌<◌}
use native.Mathlib.Nat.{zero-mul, suc-mul, add-mul, one-mul, mod-lt, div-add-mod'}
use native.Mathlib.Omega.{arith}
use lib.Dec.{lit<}
use lib.ListN.{length, get_or, length-append}
use lib.Seq.{length-take-le}
use Rattle.lists.specs.Lists.{tab, Below}
use Rattle.lists.proofs.Tables.{length_tab, below_append, below_take, below_tab}
use Rattle.keccak.specs.Keccak.{keccak_f}
use Rattle.shake.specs.Shake.{shake, squeeze_blocks, byte_at}

-- n blocks are n r bytes
pub length_blocks : (r n : ℕ) (s : List ℕ) → length (squeeze_blocks r n s) ≡ n * r
unfolding squeeze_blocks
length_blocks r zero s = sym (zero-mul r)
length_blocks r (suc n) s =
    length-append (tab r (byte_at s)) (squeeze_blocks r n (keccak_f s))
    ∙ ap₂ (λ (x y : ℕ). x + y) (length_tab r (byte_at s)) (length_blocks r n (keccak_f s)) ∙ rw (suc-mul n r) (omega arith)

-- SHAKE gives d bytes
pub length_shake : (r : ℕ) (m : List ℕ) (d : ℕ) → 0 < r → length (shake r m d) ≡ d
unfolding shake
length_shake r m d h =
    length-take-le d (squeeze_blocks r (d / r + 1) _)
    (subst (λ (x : ℕ). d ≤ x) (sym (length_blocks r (d / r + 1) _))
    (omega (arith, div-add-mod' d r, mod-lt d h, add-mul (d / r) 1 r, one-mul r)))

below_blocks : (r n : ℕ) (s : List ℕ) → Below 256 (squeeze_blocks r n s)
unfolding squeeze_blocks
below_blocks r zero s = λ i. lit< tt
below_blocks r (suc n) s =
    below_append (tab r (byte_at s)) (squeeze_blocks r n (keccak_f s)) (below_tab r (byte_at s) (lit< tt) (λ k. mod-lt (get_or s (k / 8) 0 / 2 ^ (8 * (k % 8))) (lit< tt)))
    (below_blocks r n (keccak_f s))

-- each of them below 256
pub below_shake : (r : ℕ) (m : List ℕ) (d : ℕ) → Below 256 (shake r m d)
unfolding shake
below_shake r m d = below_take d _ (below_blocks r (d / r + 1) _)
