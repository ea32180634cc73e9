use Rattle.std.proofs.Common.{◌∙◌, ◌++◌, ap₂, arith, refl}
use Rattle.program_jobs.proofs.fault_json.object_with.Goals as goal

pub returns : goal.returns
returns c =
    let is = rw (c.as_str.ensures.value, c.in_ok-words.ensures) at c.in_ok-value.ensures in
    let text = rw is at c.in_ok-line.ensures.text in
    c.in_ok-push.ensures.bytes ∙ ap₂ (λ a b. a ++ b) (text refl) (c.in_ok-push.ensures.ascii (omega arith))
