use Rattle.serve_core.specs.Rules.{fields, path}
use Rattle.serve_core.proofs.rule.MappingRule.client_of.Goals as goal

pub returns-in-Err : goal.returns-in-Err
returns-in-Err c =
    let fault = rw c.in-Err.is at c.in_ok-client.ensures in
    fields c.in-Err.fault fault c.unjudged_fields.ensures.0 c.unjudged_fields.ensures.1

pub returns-in-Some : goal.returns-in-Some
returns-in-Some c =
    let mapped = rw c.in-Ok.is at c.in_ok-client.ensures in
    let odd = c.in-Some.ensures in
    path c.in-Ok.client c.in-Some.fault odd.0 mapped (rw c.as_str.ensures.value at odd.1)
    c.unjudged_path.ensures.0 c.unjudged_path.ensures.1
