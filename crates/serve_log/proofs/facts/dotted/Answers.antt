use Rattle.std.proofs.Common.{◌∙◌, ap, slice_index}
use Rattle.std.proofs.lemmas.Result.{IfOk-weaker}
use Rattle.std.specs.Net.Text.{ipv4_text}
use Rattle.serve_log.proofs.IpGroups.{four_numbers}
use Rattle.serve_log.proofs.facts.dotted.Goals as goal

pub returns : goal.returns
returns c =
    let b = c.to_be_bytes.result in
    IfOk-weaker c.format.result _ _
    (λ text is. is ∙ four_numbers (slice_index b 0) (slice_index b 1) (slice_index b 2) (slice_index b 3) ∙ ap ipv4_text c.to_be_bytes.ensures)
    c.format.ensures.ok
