-- One turn more.
use Rattle.std.proofs.Common.{◌≡◌, ℕ, List, ◌∷◌, Some, ap, ◌∙◌}
use Rattle.std.proofs.Math.Logic.{∥∥₁_map}
use Rattle.rbac_serve.specs.Workers.{worker_view}
use Rattle.serve_loop.specs.Events.{event_view}
use Rattle.serve_loop.specs.History.{answered, no_memory, took}
use Rattle.serve_core.specs.ClientRequests.{rule_view}
use Rattle.serve_core.specs.Fronts.{added_in, fronts_view, kept_in}
use Rattle.serve_core.specs.Turns.{ServerTurn}
use Rattle.serve_core.proofs.FrontRuns.{matched_more, run_after, waits_after}
use Rattle.serve_core.proofs.Setups.{fronts_keep, same_setup}
use Rattle.serve_core.proofs.mapped_service.MappedServiceServiceConn.take.Goals as goal

pub happen-requires-clause-matched : goal.happen-requires-clause-matched
happen-requires-clause-matched c = c.args.self.now.matched

pub invariant_of-self : goal.invariant_of-self
invariant_of-self c =
    let old = c.args.self.now in
    let event = event_view c.args.event.now in
    let rule = rule_view old.fronts.rule in
    let before = fronts_view old.fronts in
    let new = fronts_view c.happen.new.self in
    let after = c.with_answer-self.result.turns in
    let answers = c.happen.new.self.answers.items in
    let turn : ServerTurn = took event (answered (added_in event (kept_in event before) new) c.in-Ok.outcome.closes) in
    let turns : after ≡ turn ∷ old.trace.turns = c.with_answer-self.ensures
    ∙ ap (λ (l : List ℕ). took event (answered l c.in-Ok.outcome.closes) ∷ old.trace.turns)
    (c.added-added.ensures ∙ ap (λ (n : ℕ). added_in event n new) c.waiting_before-before.ensures) in
    record {
      run = ∥∥₁_map old.run (λ run. run_after old.trace.turns after turn rule (rule_view c.happen.new.self.rule) before new answers
          turns c.happen.ensures.rule c.in-Ok.ensures.found run);
      waits = ∥∥₁_map old.waits (λ waits. waits_after old.trace.turns after turn rule before new answers turns waits
          c.in-Ok.ensures.found);
      matched = matched_more rule before new answers old.matched turn c.in-Ok.ensures.found;
    }

pub invariant_of-self-in-Err : goal.invariant_of-self-in-Err
invariant_of-self-in-Err c =
    let old = c.args.self.now in
    let rule = rule_view old.fronts.rule in
    let before = fronts_view old.fronts in
    let new = fronts_view c.happen.new.self in
    let answers = c.happen.new.self.answers.items in
    let turn : ServerTurn = took (event_view c.args.event.now) no_memory in
    record {
      run = ∥∥₁_map old.run (λ run. run_after old.trace.turns c.then-self.result.turns turn rule (rule_view c.happen.new.self.rule)
          before new answers c.then-self.ensures c.happen.ensures.rule c.in-Err.ensures.found run);
      waits = ∥∥₁_map old.waits (λ waits. waits_after old.trace.turns c.then-self.result.turns turn rule before new answers
          c.then-self.ensures waits c.in-Err.ensures.found);
      matched = matched_more rule before new answers old.matched turn c.in-Err.ensures.found;
    }

pub returns-in-Ok-clause-turns : goal.returns-in-Ok-clause-turns
returns-in-Ok-clause-turns c = (_, c.with_answer-self.ensures)

pub returns-in-Ok-clause-setup : goal.returns-in-Ok-clause-setup
returns-in-Ok-clause-setup c =
    let event = event_view c.args.event.now in
    let old = c.args.self.now.fronts in
    let new = c.happen.new.self in
    let out = added_in event (kept_in event (fronts_view old)) (fronts_view new) in
    let turn : ServerTurn = took event (answered out c.in-Ok.outcome.closes) in
    same_setup (worker_view old.core.worker) (worker_view new.core.worker) (Some (rule_view old.rule)) (Some (rule_view new.rule))
    (fronts_keep (rule_view old.rule) (fronts_view old) (fronts_view new) new.answers.items turn c.in-Ok.ensures.found)
    (ap Some c.happen.ensures.rule)

pub returns-in-Err-clause-turns : goal.returns-in-Err-clause-turns
returns-in-Err-clause-turns c = c.then-self.ensures

pub returns-in-Err-clause-setup : goal.returns-in-Err-clause-setup
returns-in-Err-clause-setup c =
    let old = c.args.self.now.fronts in
    let new = c.happen.new.self in
    let turn : ServerTurn = took (event_view c.args.event.now) no_memory in
    same_setup (worker_view old.core.worker) (worker_view new.core.worker) (Some (rule_view old.rule)) (Some (rule_view new.rule))
    (fronts_keep (rule_view old.rule) (fronts_view old) (fronts_view new) new.answers.items turn c.in-Err.ensures.found)
    (ap Some c.happen.ensures.rule)
