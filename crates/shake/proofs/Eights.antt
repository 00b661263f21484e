-- A list in pieces of eight, as `as_chunks` gives them. Assumes nothing.
use mathlib.Core.Path.{◌≡◌, refl, ap, ◌∙◌}
use mathlib.Core.List.{List, []}
use Prim.Native.Nat.{ℕ, zero, suc, ◌+◌, ◌*◌, ◌<◌}
use native.Mathlib.Nat.{not-suc-le-zero, le_of_suc-le-suc}
use native.Mathlib.Omega.{arith}
use lib.ListN.{get_or, take, drop}
use lib.Seq.{drop-drop}
use Rattle.std.specs.Simd.{first_chunks}

-- piece i of n
pub eight_at : (n i : ℕ) (xs : List ℕ) → i < n → get_or (first_chunks 8 n xs) i [] ≡ take 8 (drop (8 * i) xs)
eight_at zero i xs h = absurd (not-suc-le-zero h)
eight_at (suc n) zero xs h = refl
eight_at (suc n) (suc i) xs h =
    let e : 8 + 8 * i ≡ 8 * suc i = omega arith in
    eight_at n i (drop 8 xs) (le_of_suc-le-suc h) ∙ ap (take 8) (drop-drop (8 * i) 8 xs ∙ ap (λ (j : ℕ). drop j xs) e)
