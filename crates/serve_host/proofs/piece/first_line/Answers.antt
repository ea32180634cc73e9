-- A line ends with the first LF, or with the bytes.
use Rattle.std.proofs.Common.{sym}
use Rattle.serve_host.proofs.PieceLemmas.{line_all, line_at}
use Rattle.serve_host.proofs.piece.first_line.Goals as goal

pub returns-in-Some : goal.returns-in-Some
returns-in-Some c = sym (line_at c.args.bytes.now c.in-Some.at c.in-Some.ensures.0.high c.in-Some.ensures.1 c.in-Some.ensures.0.before)

pub returns-in-None : goal.returns-in-None
returns-in-None c = sym (line_all c.args.bytes.now c.in-None.ensures)
