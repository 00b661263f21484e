-- `replay_answers::Input::rows` meets its contract: after i turns there are i rows.
-- Assumes nothing.
use Rattle.std.proofs.Common.{◌≡◌, ◌*◌, vec_len}
use Rattle.replay_answers.proofs.Input.rows.Given as goal

abbrev pub invariant-loop-i : goal.invariant-loop-i
invariant-loop-i l = vec_len l.rows ≡ l.i-index * l.n
