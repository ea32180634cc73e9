-- The files are as they were.
use Rattle.std.proofs.Common.{◌≡◌}
use Rattle.serve_log.proofs.open_files.change_users_of_one.Given as goal

abbrev pub invariant-loop-file : goal.invariant-loop-file
invariant-loop-file g l = l.files ≡ l.fn.files
