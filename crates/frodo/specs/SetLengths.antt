-- The lengths of a set as the runtime asks for them (docs/RULES.md, 2.1): all 0 where the number is no set.
-- Assumes nothing.
use Rattle.std.specs.Prelude.{cond, ℕ}
use Rattle.sets.specs.Sets.{known, params_of}
use Rattle.sets.specs.declared.Params.{Params}
use Rattle.frodo.specs.declared.SetLengths.{SetLengths}

abbrev pub lengths_of : Params → SetLengths
lengths_of p = record {
  seed = p.seed;
  pk = p.pk;
  sk = p.sk;
  ct = p.ct;
  message = p.secret;
  salt = p.salt;
  ss = p.secret;
  noise = p.noise;
  work = p.work;
}

abbrev pub no_lengths : SetLengths
no_lengths = record { seed = 0; pk = 0; sk = 0; ct = 0; message = 0; salt = 0; ss = 0; noise = 0; work = 0 }

unfoldable pub lengths_for : ℕ → SetLengths
lengths_for set = cond (known set) (lengths_of (params_of set)) no_lengths
