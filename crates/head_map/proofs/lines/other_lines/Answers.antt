use Rattle.std.proofs.Common.{rules, tests, not}
use Rattle.std.specs.String.{string_bytes}
use Rattle.std.proofs.lemmas.Fn.{filter_same}
use Rattle.head_map.specs.Mapped.{is_named}
use Rattle.head_map.proofs.Values.{filter_view}
use Rattle.head_map.proofs.lines.other_lines.Goals as goal

pub returns : goal.returns
returns c =
    let kept = filter_same _ (λ x. not (is_named c.args.named.now (string_bytes x.0))) _ (λ x b f' k. search (rules, tests)) _ _ c.retain.ensures.filtered in
    rw kept (filter_view (λ l. not (is_named c.args.named.now l.0)) c.args.lines.items)
