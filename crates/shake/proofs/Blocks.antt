-- FIPS 202 (2015), the sponge construction, squeezing: bytes squeezed one at a time are those of the blocks. Assumes nothing.
use mathlib.Core.Path.{◌≡◌, refl, sym, ap, ap₂, ◌∙◌}
use mathlib.Core.List.{List, ◌++◌}
use Prim.Native.Nat.{ℕ, zero, suc, ◌+◌, ◌*◌, ◌/◌, ◌%◌, ◌≤◌, ◌<◌}
use native.Mathlib.Nat.{add_comm, zero-mul, suc-mul, add-mul, one-mul, mod-lt, div-add-mod', zero-div, zero-mod, div-eq_of_lt, mod-eq_of_lt, add-div_right, add-mod_right}
use native.Mathlib.Numerals.{add-one}
use native.Mathlib.Omega.{arith}
use lib.Arith.{digits_div, digits_mod}
use lib.ListN.{take}
use Rattle.lists.specs.Lists.{tab}
use Rattle.lists.proofs.Tables.{tab_cong, tab_add, take_tab}
use Rattle.keccak.specs.Keccak.{keccak_f}
use Rattle.shake.specs.Shake.{byte_at, squeeze_blocks}
use Rattle.shake.specs.Sponge.{made, turned, stepped, after, nth, squeezed}
use Rattle.shake.specs.declared.Sponge.{Sponge}
use Rattle.shake.proofs.Turn.{turn_part, by_turn}

-- n permutations
iter : ℕ → List ℕ → List ℕ
iter zero s = s
iter (suc n) s = iter n (keccak_f s)

iter_last : (n : ℕ) (s : List ℕ) → keccak_f (iter n s) ≡ iter (suc n) s
unfolding iter
iter_last zero s = refl
iter_last (suc n) s = iter_last n (keccak_f s)

module _ (r : ℕ) (some : 0 < r) where
  -- the byte at place k of all blocks in a row
  abbrev byte_of : List ℕ → ℕ → ℕ
  byte_of s k = byte_at (iter (k / r) s) (k % r)

  -- n blocks are a table of them
  blocks_table : (n : ℕ) (s : List ℕ) → squeeze_blocks r n s ≡ tab (n * r) (byte_of s)
  unfolding squeeze_blocks iter
  blocks_table zero s = sym (ap (λ (m : ℕ). tab m (byte_of s)) (zero-mul r))
  blocks_table (suc n) s =
      (λ i. tab_cong r (byte_at s) (byte_of s) (λ k l. ap₂ (λ (x y : ℕ). byte_at (iter x s) y) (sym (div-eq_of_lt l)) (sym (mod-eq_of_lt l))) i
      ++ (blocks_table n (keccak_f s)
      ∙ tab_cong (n * r) (byte_of (keccak_f s)) (λ k. byte_of s (r + k))
      (λ k _. ap₂ (λ (x y : ℕ). byte_at (iter x s) y)
      (sym (ap (λ (z : ℕ). z / r) (add_comm r k) ∙ add-div_right k some ∙ add-one (k / r)))
      (sym (ap (λ (z : ℕ). z % r) (add_comm r k) ∙ add-mod_right k r)))) i)
      ∙ sym (tab_add r (n * r) (byte_of s))
      ∙ ap (λ (m : ℕ). tab m (byte_of s)) (add_comm r (n * r) ∙ sym (suc-mul n r))

  -- where a sponge stands that gave k bytes
  turned_after : (s : List ℕ) (k : ℕ) → turned (after (made s 0 r) k) ≡ made (iter (k / r) s) (k % r) r
  unfolding after iter
  turned_after s zero = turn_part (made s 0 r) (λ e. omega arith) ∙ ap₂ (λ (n m : ℕ). made (iter n s) m r) (sym (zero-div r)) (sym (zero-mod r))
  turned_after s (suc k) =
      let d : k / r * r + k % r ≡ k = div-add-mod' k r in
      let l : k % r < r = mod-lt k some in
      ap (λ (q : Sponge). turned (stepped q)) (turned_after s k)
      ∙ by_turn (made (iter (k / r) s) (k % r + 1) r) (λ q. q ≡ made (iter (suc k / r) s) (suc k % r) r)
      (λ e. let w : (k / r + 1) * r + 0 ≡ suc k = rw (add-mul (k / r) 1 r, one-mul r) (omega arith) in
      ap₂ (λ (t : List ℕ) (n : ℕ). made t n r)
      (iter_last (k / r) s ∙ ap (λ (n : ℕ). iter n s) (sym (add-one (k / r)) ∙ sym (digits_div (k / r + 1) some) ∙ ap (λ (n : ℕ). n / r) w))
      (sym (digits_mod (k / r + 1) some) ∙ ap (λ (n : ℕ). n % r) w))
      (λ e. let b : k % r + 1 < r = omega arith in
      let w : k / r * r + (k % r + 1) ≡ suc k = omega arith in
      ap₂ (λ (n m : ℕ). made (iter n s) m r) (sym (digits_div (k / r) b) ∙ ap (λ (n : ℕ). n / r) w) (sym (digits_mod (k / r) b) ∙ ap (λ (n : ℕ). n % r) w))

  -- d bytes are the first d of the blocks
  pub squeezed_blocks : (s : List ℕ) (d : ℕ) → squeezed (made s 0 r) d ≡ take d (squeeze_blocks r (d / r + 1) s)
  unfolding squeezed
  squeezed_blocks s d =
      let e : d / r * r + d % r ≡ d = div-add-mod' d r in
      let m : d % r < r = mod-lt d some in
      let l : d ≤ (d / r + 1) * r = rw (add-mul (d / r) 1 r, one-mul r) (omega arith) in
      tab_cong d (nth (made s 0 r)) (byte_of s) (λ k _. ap (λ (q : Sponge). byte_at q.lanes q.at) (turned_after s k))
      ∙ sym (ap (take d) (blocks_table (d / r + 1) s) ∙ take_tab d ((d / r + 1) * r) (byte_of s) l)
