use Rattle.std.proofs.Common.{rules, tests, codes, not}
use Rattle.std.specs.Str.{bytes_eq}
use Rattle.std.specs.String.{string_bytes}
use Rattle.std.proofs.lemmas.List.Elements.{filter_from_retain}
use Rattle.head_map.proofs.Values.{filter_view}
use Rattle.head_map.proofs.lines.without_host.Goals as goal

pub returns : goal.returns
returns c =
    let kept = filter_from_retain _ (λ x. not (bytes_eq (string_bytes x.0) (codes "host"))) (λ p x b q h. search (rules, tests)) _ _ _ c.retain.ensures.filtered in
    rw kept (filter_view (λ l. not (bytes_eq l.0 (codes "host"))) c.args.lines.items)
