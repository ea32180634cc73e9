-- The first bytes of those that wait were sent.
use Rattle.std.proofs.Common.{◌≡◌, ℕ, List, [], ◌∷◌, Some, length, take, sym, ap, ◌∙◌}
use Rattle.std.proofs.Math.Logic.{∥∥₁_elim, ∥∥₁_map}
use Rattle.std.specs.Coded.{coded_list, coded_ℕ}
use base.Stored.{Coded-set}
use Rattle.rbac_serve.specs.Workers.{worker_view}
use Rattle.serve_loop.specs.History.{gave, waiting_at}
use Rattle.serve_core.specs.ClientRequests.{rule_view}
use Rattle.serve_core.specs.Fronts.{fronts_view, waits_in}
use Rattle.serve_core.specs.Turns.{ServerTurn}
use Rattle.serve_core.proofs.FrontRuns.{matched_more, run_after, waits_after}
use Rattle.serve_core.proofs.Setups.{fronts_keep, same_setup}
use Rattle.serve_core.proofs.mapped_service.MappedServiceServiceConn.sent.Goals as goal

pub sent-requires : goal.sent-requires
sent-requires c =
    let here : waiting_at c.args.stream c.args.self.now.trace.turns ≡ waits_in c.args.stream (fronts_view c.args.self.now.fronts) =
    ∥∥₁_elim c.args.self.now.waits (Coded-set (coded_list coded_ℕ) _ _) (λ waits. waits c.args.stream) in
    rw here at c.requires

pub invariant_of-self : goal.invariant_of-self
invariant_of-self c =
    let old = c.args.self.now in
    let rule = rule_view old.fronts.rule in
    let before = fronts_view old.fronts in
    let new = fronts_view c.sent.new.self in
    let turn : ServerTurn = gave c.args.stream (take c.args.count (waits_in c.args.stream before)) in
    let turns : c.then-self.result.turns ≡ turn ∷ old.trace.turns = c.then-self.ensures
    ∙ ap (λ (l : List ℕ). gave c.args.stream (take c.args.count l) ∷ old.trace.turns) c.unsent.ensures in
    record {
      run = ∥∥₁_map old.run (λ run. run_after old.trace.turns c.then-self.result.turns turn rule (rule_view c.sent.new.self.rule)
          before new [] turns c.sent.ensures.rule c.sent.ensures.found run);
      waits = ∥∥₁_map old.waits (λ waits. waits_after old.trace.turns c.then-self.result.turns turn rule before new [] turns waits
          c.sent.ensures.found);
      matched = matched_more rule before new [] old.matched turn c.sent.ensures.found;
    }

pub returns-clause-turns : goal.returns-clause-turns
returns-clause-turns c =
    let old = c.args.self.now in
    let here : waits_in c.args.stream (fronts_view old.fronts) ≡ waiting_at c.args.stream old.trace.turns =
    ∥∥₁_elim old.waits (Coded-set (coded_list coded_ℕ) _ _) (λ waits. sym (waits c.args.stream)) in
    c.then-self.ensures
    ∙ ap (λ (l : List ℕ). gave c.args.stream (take c.args.count l) ∷ old.trace.turns) (c.unsent.ensures ∙ here)

pub returns-clause-setup : goal.returns-clause-setup
returns-clause-setup c =
    let old = c.args.self.now.fronts in
    let new = c.sent.new.self in
    let turn : ServerTurn = gave c.args.stream (take c.args.count (waits_in c.args.stream (fronts_view old))) in
    same_setup (worker_view old.core.worker) (worker_view new.core.worker) (Some (rule_view old.rule)) (Some (rule_view new.rule))
    (fronts_keep (rule_view old.rule) (fronts_view old) (fronts_view new) [] turn c.sent.ensures.found)
    (ap Some c.sent.ensures.rule)
