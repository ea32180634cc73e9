use Rattle.std.proofs.Common.{rules}
use Rattle.http_front.proofs.Stopping.{ends_here, folds_here, goes_on, other_byte}
use Rattle.http_front.proofs.part.folds_at.Goals as goal

pub returns-then-byte-ne10-clause-later : goal.returns-then-byte-ne10-clause-later
returns-then-byte-ne10-clause-later c = other_byte c.args.byte c.args.next.now (search rules)

pub returns-then-begins_with_blank-clause-known : goal.returns-then-begins_with_blank-clause-known
returns-then-begins_with_blank-clause-known c =
    folds_here c.args.byte c.args.next.now (search rules) c.begins_with_blank.result c.begins_with_blank.ensures (search rules)

pub returns-then-begins_with_end-clause-known : goal.returns-then-begins_with_end-clause-known
returns-then-begins_with_end-clause-known c =
    ends_here c.args.byte c.args.next.now (search rules) c.begins_with_end.result c.begins_with_end.ensures (search rules)

pub returns-clause-later : goal.returns-clause-later
returns-clause-later c =
    goes_on c.args.byte c.args.next.now c.begins_with_blank.result c.begins_with_end.result c.begins_with_blank.ensures (search rules)
    c.begins_with_end.ensures (search rules)
