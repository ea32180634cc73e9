-- The first bytes of those that wait are dropped.
use Rattle.std.proofs.Common.{refl, sym}
use Rattle.serve_core.specs.ClientRequests.{rule_view}
use Rattle.serve_core.specs.Fronts.{fronts_view}
use Rattle.serve_core.proofs.FrontSteps.{sends_none, sends_some}
use Rattle.serve_core.proofs.fronts.Fronts.sent_at.Goals as goal

pub drop_first-requires : goal.drop_first-requires
drop_first-requires c = rw (sym (rw c.in-Some.is at c.put.ensures.before)) at c.requires

pub returns-in-Some-clause-found : goal.returns-in-Some-clause-found
returns-in-Some-clause-found c =
    sends_some (rule_view c.args.self.now.rule) (fronts_view c.args.self.now) _ c.args.k c.args.count c.requires refl _ _
    (sym (rw c.in-Some.is at c.put.ensures.before)) refl c.drop_first.ensures
    (rw c.put.ensures.after at c.put-none.ensures.after)

pub returns-in_default-clause-found : goal.returns-in_default-clause-found
returns-in_default-clause-found c =
    sends_none (rule_view c.args.self.now.rule) (fronts_view c.args.self.now) _ c.args.k c.args.count c.requires refl
    (sym (rw c.in_default.is at c.put.ensures.before)) c.put.ensures.after
