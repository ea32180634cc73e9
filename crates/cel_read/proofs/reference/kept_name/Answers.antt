use Rattle.std.proofs.Common.{sym}
use Rattle.cel_read.proofs.Texts.{no_points}
use Rattle.cel_read.proofs.reference.kept_name.Goals as goal

pub returns-then-is_empty : goal.returns-then-is_empty
returns-then-is_empty c =
    sym (no_points c.args.name.now c.is_empty.result c.is_empty.ensures c.if-is_empty.true)
