use Rattle.std.proofs.Common.{◌≡◌}
use Rattle.serde_json.specs.View.{view}
use Rattle.proxy_replay.proofs.lines.facts_at.Goals as goal

pub returns-in-Err-Bad-clause-fault : goal.returns-in-Err-Bad-clause-fault
returns-in-Err-Bad-clause-fault c = λ bad facts reported.
    let same : reported.0 ≡ view c.in-Some.value.now = (let got = c.in-Some.ensures in let other = reported.1 in cc) in
    c.in-Err-Bad.ensures.fault c.in-Err-Bad.field-0-is facts (rw same at reported.2)
