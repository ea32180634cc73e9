use Rattle.std.proofs.Common.{Some, sym}
use Rattle.rbac_match.specs.Message.{rule_keys}
use Rattle.rbac_match.proofs.Runs.{number_of_last}
use Rattle.rbac_match.proofs.member.last_member.Goals as goal

pub returns-in-Some-member_at-clause-found : goal.returns-in-Some-member_at-clause-found
returns-in-Some-member_at-clause-found c = (
  number_of_last (rule_keys c.args.side) c.args.fields.now c.requires (Some c.in-Some.last.now) c.in-Some.ensures.value,
  sym c.in-Some-member_at.ensures,
)

pub returns-in-None-clause-fault : goal.returns-in-None-clause-fault
returns-in-None-clause-fault c =
    rw (number_of_last (rule_keys c.args.side) c.args.fields.now c.requires (Some c.in-Some.last.now) c.in-Some.ensures.value)
    (sym c.in-None.ensures, (c.at-in-None.ensures.refusal, c.at-in-None.ensures.place))
