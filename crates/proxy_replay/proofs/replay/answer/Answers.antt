use Rattle.std.proofs.Common.{◌∙◌, ◌++◌, ◌∷◌, [], ap, ap₂, append-nil, arith, refl, sym}
use Rattle.std.specs.Prelude.{option_map}
use Rattle.proxy_core.specs.Events.{event_view, output_view}
use Rattle.proxy_core.specs.Step.{answered, no_memory}
use Rattle.proxy_replay.specs.Lines.{line_view}
use Rattle.proxy_replay.specs.Replays.{answer_line}
use Rattle.proxy_replay.proofs.ReplayLemmas.{seen_one}
use Rattle.proxy_replay.proofs.replay.answer.Goals as goal

pub returns-in-Ok-clause-found : goal.returns-in-Ok-clause-found
returns-in-Ok-clause-found c =
    let call = answered (event_view c.event.result) (output_view c.in-Ok.output) in
    let seen = sym c.seen_by.ensures ∙ ap (option_map line_view) c.in-Some.is in
    record {
      calls = call ∷ [];
      reported = seen_one c.args.core.now.only c.args.line.now (line_view c.in_ok-event.event) _ call c.in_ok-event.ensures.found
          seen c.event.ensures;
      does = (_, c.in-Ok.ensures.found, refl);
      same = c.in_ok-push-in-Ok.ensures.bytes
          ∙ ap₂ (λ a b. a ++ b) c.in_ok-text-in-Ok.ensures (c.in_ok-push-in-Ok.ensures.ascii (omega arith))
          ∙ sym (append-nil (answer_line call));
    }

pub returns-clause-found : goal.returns-clause-found
returns-clause-found c =
    let call = no_memory (event_view c.event.result) in
    let seen = sym c.seen_by.ensures ∙ ap (option_map line_view) c.in-Some.is in
    record {
      calls = call ∷ [];
      reported = seen_one c.args.core.now.only c.args.line.now (line_view c.in_ok-event.event) _ call c.in_ok-event.ensures.found
          seen c.event.ensures;
      does = (_, c.in-Err.ensures.fault, refl);
      same = c.in_ok-from_str-in-Err.ensures.ok ∙ sym (append-nil (answer_line call));
    }
