use Rattle.std.proofs.Common.{rules, tests, not}
use Rattle.std.proofs.lemmas.List.Elements.{filter_from_retain}
use Rattle.http_front.specs.Parts.{field_view as line_view}
use Rattle.check_request.specs.Lines.{is_pseudo}
use Rattle.check_request.proofs.Lists.{filter_view}
use Rattle.check_request.proofs.lines.without_pseudo.Goals as goal

pub returns : goal.returns
returns c =
    let kept = filter_from_retain _ (λ x. not (is_pseudo x.name.now)) (λ p x b q h. search (rules, tests)) _ _ _ c.retain.ensures.filtered in
    rw kept (filter_view line_view (λ l. not (is_pseudo l.0)) c.args.lines.items)
