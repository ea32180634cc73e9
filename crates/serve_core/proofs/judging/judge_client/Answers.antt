-- What the core was given is answered, and the connection is closed.
use Rattle.std.proofs.Common.{◌∙◌, refl, sym}
use Rattle.serve_core.specs.Cores.{core_view}
use Rattle.serve_core.proofs.Clients.{client_none, client_some, closed_only, only_then}
use Rattle.serve_core.proofs.judging.judge_client.Goals as goal

pub returns-in_err-answered_asks-clause-only : goal.returns-in_err-answered_asks-clause-only
returns-in_err-answered_asks-clause-only c =
    only_then c.args.k (core_view c.args.core.now) _ _ c.give_client-given.ensures.only
    (closed_only c.args.k _ _ c.step.result c.step.ensures.turn)

pub returns-in-Some-clause-found : goal.returns-in-Some-clause-found
returns-in-Some-clause-found c =
    client_some (core_view c.args.core.now) _ _ c.args.k _ c.args.is_http11 _ _ c.step.result refl
    (c.as_str.ensures.value ∙ c.in_ok-head.ensures) c.give_client-given.ensures.only c.step.ensures.turn _
    (rw c.in-Some.is at c.in_ok-answered_asks.ensures.found) (sym c.as_str.ensures.value) c.first_of.ensures

pub returns-in-Some-clause-only : goal.returns-in-Some-clause-only
returns-in-Some-clause-only c =
    only_then c.args.k (core_view c.args.core.now) _ _ c.give_client-given.ensures.only
    (closed_only c.args.k _ _ c.step.result c.step.ensures.turn)

pub returns-clause-found : goal.returns-clause-found
returns-clause-found c =
    client_none (core_view c.args.core.now) _ _ c.args.k _ c.args.is_http11 _ _ c.step.result refl
    (c.as_str.ensures.value ∙ c.in_ok-head.ensures) c.give_client-given.ensures.only c.step.ensures.turn
    (rw c.in-None.is at c.in_ok-answered_asks.ensures.found) c.new.ensures.bytes c.faulty.ensures

pub returns-clause-only : goal.returns-clause-only
returns-clause-only c =
    only_then c.args.k (core_view c.args.core.now) _ _ c.give_client-given.ensures.only
    (closed_only c.args.k _ _ c.step.result c.step.ensures.turn)
