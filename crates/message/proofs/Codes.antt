-- Coding part by part, as the loops go: b bytes are one number, and its eight groups are eight words.
-- Assumes nothing.
use mathlib.Core.Path.{◌≡◌, sym, ap, ◌∙◌, subst}
use mathlib.Core.List.{List, map}
use Prim.Native.Nat.{ℕ, ◌*◌, ◌/◌, ◌^◌, ◌≤◌}
use native.Mathlib.Nat.{div_self, mul-one, pow-le-pow_right}
use native.Mathlib.Omega.{arith}
use lib.Dec.{lit<}
use lib.ListN.{length, length-map}
use lib.Pow.{pow_mono}
use Rattle.lists.specs.Lists.{tab}
use Rattle.lists.proofs.Parts.{Joins, joins_map, map_joins}
use Rattle.bits.specs.Digits.{number, digit, recoded}
use Rattle.bits.proofs.Digits.{pow_pow}
use Rattle.message.specs.Message.{groups_of, message_of, word_of, group_of, encoded, decoded}
use Rattle.message.specs.Coding.{Coding}
use Rattle.message.proofs.RoundTrip.{groups_join, message_joins}

-- eight groups of at most four bits fit 32 bits
pub groups_fit : (b : ℕ) {base n : ℕ} → b ≤ 4 → base ≡ 2 ^ b → n ≡ 8 → base ^ n ≤ 4294967296
groups_fit b {base} {n} h e l =
    subst (λ (z : ℕ). z ≤ 4294967296) (sym ((λ i. e i ^ l i) ∙ pow_pow 2 b 8)) (pow_mono {j = 32} (omega arith))

-- and so do at most four bytes
pub bytes_fit : (n : ℕ) → n ≤ 4 → 256 ^ n ≤ 4294967296
bytes_fit n h = pow-le-pow_right {n = 256} (lit< tt) h

module _ {q b : ℕ} (k : Coding q b) where
  -- b bytes at a time
  pub encodes : Joins (encoded q b) b 8
  unfolding encoded
  encodes = joins_map (word_of q b) (groups_join b k.b_low)

  -- eight words at a time
  pub decodes : Joins (decoded q b) 8 b
  unfolding decoded
  decodes = map_joins (group_of q b) (message_joins b k.b_low)

  -- what b bytes become
  pub encode_part : (m : List ℕ) {n : ℕ} → length m ≡ b → n ≡ number 256 m → map (word_of q b) (tab 8 (digit (2 ^ b) n)) ≡ encoded q b m
  unfolding encoded groups_of recoded
  encode_part m {n} l e =
      let c : 8 ≡ 8 * (length m / b) = sym (ap (λ (z : ℕ). 8 * (z / b)) l ∙ ap (λ (z : ℕ). 8 * z) (div_self k.b_low)) in
      λ i. map (word_of q b) (tab (c i) (digit (2 ^ b) (e i)))

  -- what eight words become
  pub decode_part : (w : List ℕ) {n c : ℕ} → length w ≡ 8 → c ≡ b → n ≡ number (2 ^ b) (map (group_of q b) w) → tab c (digit 256 n) ≡ decoded q b w
  unfolding decoded message_of recoded
  decode_part w {n} {c} l s e =
      let c' : c ≡ b * (length (map (group_of q b) w) / 8) = s ∙ sym (ap (λ (z : ℕ). b * (z / 8)) (length-map w (group_of q b) ∙ l) ∙ mul-one b) in
      λ i. tab (c' i) (digit 256 (e i))
