use Rattle.std.proofs.Common.{refl}
use Rattle.attributes.specs.Conn.{conn_view}
use Rattle.attributes.specs.Limits.{largest}
use Rattle.rbac_judge.proofs.JudgeLemmas.{under_found}
use Rattle.rbac_judge.specs.private.Reading.{IsFound}
use Rattle.rbac_judge.proofs.batch.report_of_head.Goals as goal

pub returns : goal.returns
returns c =
    let judged = rw (c.limits.ensures, c.requires) at c.in_ok-found.ensures.judged in
    let fault = rw (c.limits.ensures, c.requires) at c.in_ok-found.ensures.fault in
    let is : IsFound largest (conn_view c.args.conn) c.args.head.now c.in_ok-found.found = record { judged = judged; fault = fault; none = c.in_ok-found.ensures.unfinished } in
    let finding = c.in_ok-finding.ensures in
    rw (c.with_why.ensures, c.report.ensures) (record {
      json = refl;
      under = under_found _ _ c.args.head.now c.in_ok-found.found _ _ is finding.outcome finding.explanation;
      named = finding.name;
      given = finding.given;
    })
