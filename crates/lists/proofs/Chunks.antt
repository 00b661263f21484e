-- A loop by parts (Parts.antt) that runs over the chunks of `chunks_exact`: what is done and what is left of the list.
-- Assumes nothing.
use mathlib.Core.Path.{◌≡◌, sym, ap, ◌∙◌}
use mathlib.Core.List.{List, ◌++◌}
use Prim.Native.Nat.{ℕ, suc, ◌+◌, ◌-◌, ◌*◌, ◌≤◌, ◌<◌}
use native.Mathlib.Nat.{mul-suc, lt_of_mul-lt-mul_left, add-sub_cancel_left}
use native.Mathlib.Numerals.{add-one}
use native.Mathlib.Omega.{arith}
use lib.ListN.{length, take, drop, length-append, length-drop}
use lib.Seq.{take_at, drop_at, drop-drop}
use borrow.Rule.Slice.PartMut.{put_mid}
use Rattle.lists.proofs.Parts.{Joins, Parts, turn}

-- k chunks of s are done, and rest is left
pub record Chunked (A k : ℕ) (s rest : List ℕ) : Type 0 where
  pub is : rest ≡ drop (A * k) s
  pub fits : A * k ≤ length s

-- the next chunk lies within s
pub chunk_fits : {A k : ℕ} {s rest : List ℕ} (x left : List ℕ) → Chunked A k s rest → rest ≡ x ++ left → length x ≡ A → A * k + A ≤ length s
chunk_fits {A} {k} {s} {rest} x left c e h = omega (arith, ap length (sym c.is ∙ e) ∙ length-append x left, length-drop (A * k) s, h, c.fits)

-- and is done
pub chunk_done : {A k : ℕ} {s rest : List ℕ} (x left : List ℕ) → Chunked A k s rest → rest ≡ x ++ left → length x ≡ A → Chunked A (k + 1) s left
chunk_done {A} {k} {s} {rest} x left c e h =
    let n : A * (k + 1) ≡ A * k + A = ap (λ (m : ℕ). A * m) (add-one k) ∙ mul-suc A k in
    record {
      is = sym (drop_at x left A h) ∙ ap (drop A) (sym e ∙ c.is) ∙ drop-drop A (A * k) s ∙ ap (λ (m : ℕ). drop m s) (sym n);
      fits = omega (arith, n, chunk_fits x left c e h);
    }

-- a turn puts F of the next chunk
pub chunk_turn : {F : List ℕ → List ℕ} {A B k : ℕ} {s d e v rest : List ℕ} (x left : List ℕ) → Joins F A B → Parts F A k s d e → Chunked A k s rest → rest ≡ x ++ left
    → length x ≡ A → v ≡ F x → B * k + B ≤ length d → Parts F A (k + 1) s d (put_mid (B * k) (B * k + B - B * k) e v)
chunk_turn {F} {A} {B} {k} {s} {d} {e} {v} {rest} x left j f c q h p l =
    let chunk : x ≡ take A (drop (A * k) s) = sym (ap (take A) (sym c.is ∙ q) ∙ take_at x left A h) in
    turn j f (chunk_fits x left c q h) l (p ∙ ap F (chunk ∙ ap (λ (n : ℕ). take n (drop (A * k) s)) (sym (add-sub_cancel_left (A * k) A))))

-- what is done and what is left
pub chunks_and_rest : {A k : ℕ} {s rest : List ℕ} → Chunked A k s rest → A * k + length rest ≡ length s
chunks_and_rest {A} {k} {s} c = omega (arith, c.fits, ap length c.is ∙ length-drop (A * k) s)

-- ---- of n chunks

-- there is a next one only before all are done
pub chunk_before : {A k : ℕ} {s rest : List ℕ} (n : ℕ) (x left : List ℕ) → Chunked A k s rest → rest ≡ x ++ left → length x ≡ A → 0 < A → length s ≡ A * n → k < n
chunk_before {A} {k} n x left c e h pos q = lt_of_mul-lt-mul_left A {m = k} {n = n} (omega (arith, chunk_fits x left c e h, q, pos))

-- and where less than one is left, all are done
pub chunks_all : {A k : ℕ} {s rest : List ℕ} (n : ℕ) → Chunked A k s rest → length rest < A → length s ≡ A * n → k ≡ n
chunks_all {A} {k} n c h q =
    let fewer : A * n < A * suc k = omega (arith, mul-suc A k, chunks_and_rest c, q, h) in
    let at_most : A * k < A * suc n = omega (arith, mul-suc A n, c.fits, q, h) in
    let up : n < suc k = lt_of_mul-lt-mul_left A {m = n} {n = suc k} fewer in
    let down : k < suc n = lt_of_mul-lt-mul_left A {m = k} {n = suc n} at_most in
    omega arith
