-- The table of lengths as the C interface answers it, in numbers of 32 bits (docs/RULES.md, 2.1).
-- Assumes nothing.
use Rattle.std.specs.Prelude.{◌≤◌}
use Rattle.frodo.specs.declared.SetLengths.{SetLengths}
use Rattle.frodo_c.specs.declared.FrodoLengths.{FrodoLengths}

-- struct frodo_lengths: the same nine lengths
abbrev pub lengths_in_c : SetLengths → FrodoLengths
lengths_in_c l = record {
  seed = l.seed;
  public_key = l.pk;
  secret_key = l.sk;
  ciphertext = l.ct;
  message = l.message;
  salt = l.salt;
  shared_secret = l.ss;
  noise_words = l.noise;
  work_words = l.work;
}

-- each length fits into 16 bits
pub record Fits (l : SetLengths) : Type 0 where
  pub seed : l.seed ≤ 65535
  pub pk : l.pk ≤ 65535
  pub sk : l.sk ≤ 65535
  pub ct : l.ct ≤ 65535
  pub message : l.message ≤ 65535
  pub salt : l.salt ≤ 65535
  pub ss : l.ss ≤ 65535
  pub noise : l.noise ≤ 65535
  pub work : l.work ≤ 65535
