use Rattle.std.proofs.Common.{inl, inr}
use Rattle.rbac_match.specs.private.Leaves.{part_of}
use Rattle.rbac_match.proofs.NeedLemmas.{plain_begins}
use Rattle.rbac_match.proofs.pool.Pool.plain_start.Goals as goal

pub returns-in-Exact : goal.returns-in-Exact
returns-in-Exact c = λ bytes holds. rw c.part.ensures (plain_begins c.args.pattern (part_of c.args.span c.args.self.now) bytes (inl c.in-Exact.is) holds)

pub returns-in-Prefix : goal.returns-in-Prefix
returns-in-Prefix c = λ bytes holds. rw c.part-in-Prefix.ensures (plain_begins c.args.pattern (part_of c.args.span c.args.self.now) bytes (inr c.in-Prefix.is) holds)
