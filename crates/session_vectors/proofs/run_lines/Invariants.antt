-- The loop of `session_vectors::run_lines` ends.
use Rattle.std.proofs.Common.{length, ◌-◌, ◌≡◌}
use Rattle.session_vectors.proofs.run_lines.Given as goal

abbrev pub invariant-loop-reader : goal.invariant-loop-reader
invariant-loop-reader l = l.reader.text.now ≡ l.text

abbrev pub decreases-loop-reader : goal.decreases-loop-reader
decreases-loop-reader l = length l.reader.text.now - l.reader.at
