-- By the core's step.
use Rattle.std.proofs.Common.{refl}
use Rattle.std.proofs.lemmas.Result.{MatchResult-weaker}
use Rattle.serve_loop.specs.Events.{event_view}
use Rattle.serve_core.specs.ClientRequests.{rule_view}
use Rattle.serve_core.specs.Fronts.{fronts_view}
use Rattle.serve_core.proofs.FrontRuns.{core_failed, core_turn}
use Rattle.serve_core.proofs.fronts.Fronts.pass.Goals as goal

pub returns-clause-found : goal.returns-clause-found
returns-clause-found c =
    let rule = rule_view c.args.self.now.rule in
    let old = fronts_view c.args.self.now in
    MatchResult-weaker c.step.result c.step.ensures.turn
    (λ outcome turn. core_turn rule old _ _ c.requires.none refl (event_view c.args.event.now) _ c.requires.own turn)
    (λ error turn. core_failed rule old _ _ c.requires.none refl (event_view c.args.event.now) c.requires.own turn)
