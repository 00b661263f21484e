-- Messages, groups of bits and words, over q and b: lengths, bounds, and that decoding an encoding gives the message (docs/RULES.md, 4.4).
-- b bytes are eight groups of b bits.
-- Assumes nothing.
use mathlib.Core.Path.{◌≡◌, refl, sym, ap, ◌∙◌, subst}
use mathlib.Core.List.{List, [], ◌∷◌, map}
use Prim.Native.Nat.{ℕ, suc, ◌+◌, ◌*◌, ◌/◌, ◌%◌, ◌^◌, ◌<◌}
use native.Mathlib.Nat.{mul_comm, mod-lt, mod-eq_of_lt, mul-lt-mul_of_pos_right, mul-add-div_right, div-eq_of_lt, add-zero}
use native.Mathlib.Omega.{arith}
use lib.Dec.{lit<}
use lib.ListN.{length, length-map}
use lib.Pow.{pow_pos}
use Rattle.lists.specs.Lists.{Below}
use Rattle.lists.proofs.Tables.{cons, residues_id, below_map}
use Rattle.lists.proofs.Parts.{Joins}
use Rattle.bits.proofs.Digits.{pow_pow, recodes, recode_back, below_recoded}
use Rattle.message.specs.Message.{half, groups_of, message_of, word_of, group_of, encoded, decoded}
use Rattle.message.specs.Coding.{Coding}
use Rattle.message.proofs.Steps.{whole, twice, half_pos}

-- eight groups have as many values as b bytes
same_size : (b : ℕ) → (2 ^ b) ^ 8 ≡ 256 ^ b
same_size b = pow_pow 2 b 8 ∙ ap (λ (k : ℕ). 2 ^ k) (mul_comm b 8) ∙ sym (pow_pow 2 8 b)

-- ---- a message and its groups

-- groups of b bits are below 2^b
pub below_groups : (b : ℕ) (msg : List ℕ) → Below (2 ^ b) (groups_of b msg)
unfolding groups_of
below_groups b msg = below_recoded 256 (2 ^ b) b 8 (pow_pos b) msg

-- a message's bytes are bytes
pub below_message : (b : ℕ) (gs : List ℕ) → Below 256 (message_of b gs)
unfolding message_of
below_message b gs = below_recoded (2 ^ b) 256 8 b (lit< tt) gs

module _ (b : ℕ) (pos : 0 < b) where
  -- b bytes at a time, and then the others
  pub groups_join : Joins (groups_of b) b 8
  unfolding groups_of
  groups_join = recodes 256 (2 ^ b) b 8 (lit< tt) (pow_pos b) pos (sym (same_size b))

  -- eight groups at a time, and then the others
  pub message_joins : Joins (message_of b) 8 b
  unfolding message_of
  message_joins = recodes (2 ^ b) 256 8 b (pow_pos b) (lit< tt) (lit< tt) (same_size b)

  -- kb bytes are 8k groups
  pub length_groups : (k : ℕ) (msg : List ℕ) → length msg ≡ k * b → length (groups_of b msg) ≡ 8 * k
  length_groups k msg q = groups_join.size k msg (q ∙ mul_comm k b)

  -- 8k groups are kb bytes
  pub length_message : (k : ℕ) (gs : List ℕ) → length gs ≡ 8 * k → length (message_of b gs) ≡ k * b
  length_message k gs q = message_joins.size k gs q ∙ mul_comm b k

  -- the message of a message's groups
  pub message_groups : (k : ℕ) (msg : List ℕ) → length msg ≡ k * b → Below 256 msg → message_of b (groups_of b msg) ≡ msg
  unfolding groups_of message_of
  message_groups k msg q h =
      recode_back 256 (2 ^ b) b 8 (lit< tt) (pow_pos b) pos (lit< tt) (sym (same_size b)) k msg (q ∙ mul_comm k b) ∙ residues_id 256 msg h

  -- the groups of the message of groups
  pub groups_message : (k : ℕ) (gs : List ℕ) → length gs ≡ 8 * k → Below (2 ^ b) gs → groups_of b (message_of b gs) ≡ gs
  unfolding groups_of message_of
  groups_message k gs q h =
      recode_back (2 ^ b) 256 8 b (pow_pos b) (lit< tt) (lit< tt) pos (same_size b) k gs q ∙ residues_id (2 ^ b) gs h

-- ---- groups and their words

-- a word's group is below 2^b
pub group_lt : (q b x : ℕ) → group_of q b x < 2 ^ b
unfolding group_of
group_lt q b x = mod-lt ((x % q + half q b) / (2 * half q b)) (pow_pos b)

-- the groups of a decoded message are the words' groups
pub groups_decoded : (q b : ℕ) → 0 < b → (k : ℕ) (ws : List ℕ) → length ws ≡ 8 * k → groups_of b (decoded q b ws) ≡ map (group_of q b) ws
unfolding decoded
groups_decoded q b pos k ws l =
    groups_message b pos k (map (group_of q b) ws) (length-map ws (group_of q b) ∙ l) (below_map (group_of q b) ws (pow_pos b) (group_lt q b))

module _ {q b : ℕ} (k : Coding q b) where
  -- a step is not 0
  step_pos : 0 < q / 2 ^ b
  step_pos = omega (arith, twice k, half_pos k)

  -- a group's word is below q
  pub word_lt : (m : ℕ) → m < 2 ^ b → word_of q b m < q
  unfolding word_of
  word_lt m h = subst (λ (z : ℕ). m * (q / 2 ^ b) < z) (whole k) (mul-lt-mul_of_pos_right h step_pos)

  -- a group's word is nearest to its group
  pub group_word : (m : ℕ) → m < 2 ^ b → group_of q b (word_of q b m) ≡ m
  unfolding group_of word_of
  group_word m h =
      let s : ℕ = q / 2 ^ b in
      let small : half q b < s = omega (arith, twice k, half_pos k) in
      (λ i. (mod-eq_of_lt (word_lt m h) i + half q b) / twice k i % 2 ^ b)
      ∙ ap (λ (z : ℕ). z % 2 ^ b) (mul-add-div_right step_pos m (half q b) ∙ ap (λ (z : ℕ). m + z) (div-eq_of_lt small) ∙ add-zero m) ∙ mod-eq_of_lt h

  -- the groups of groups' words
  groups_words : (gs : List ℕ) → Below (2 ^ b) gs → map (group_of q b) (map (word_of q b) gs) ≡ gs
  groups_words [] h = refl
  groups_words (m ∷ gs) h = cons (group_word m (h 0)) (groups_words gs (λ i. h (suc i)))

  -- decoding an encoding gives the message
  pub decode_encode : (n : ℕ) (msg : List ℕ) → length msg ≡ n * b → Below 256 msg → decoded q b (encoded q b msg) ≡ msg
  unfolding decoded encoded
  decode_encode n msg l h = ap (message_of b) (groups_words (groups_of b msg) (below_groups b msg)) ∙ message_groups b k.b_low n msg l h

  -- n b bytes are 8 n words
  pub length_encoded : (n : ℕ) (msg : List ℕ) → length msg ≡ n * b → length (encoded q b msg) ≡ 8 * n
  unfolding encoded
  length_encoded n msg l = length-map (groups_of b msg) (word_of q b) ∙ length_groups b k.b_low n msg l

  -- 8 n words are n b bytes
  pub length_decoded : (n : ℕ) (ws : List ℕ) → length ws ≡ 8 * n → length (decoded q b ws) ≡ n * b
  unfolding decoded
  length_decoded n ws l = length_message b k.b_low n (map (group_of q b) ws) (length-map ws (group_of q b) ∙ l)
