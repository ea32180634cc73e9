-- The connection is open, and the head is answered.
use Rattle.std.proofs.Common.{refl, subst, sym}
use Rattle.std.proofs.lemmas.Bool.{eq-eqb}
use Rattle.serve_core.specs.ClientRequests.{OnlyAt}
use Rattle.serve_core.specs.Cores.{CoreValue, core_view}
use Rattle.serve_core.proofs.Clients.{given_none, given_some, only_one, only_then}
use Rattle.serve_core.proofs.judging.give_client.Goals as goal

pub returns-in_err-opened-clause-only : goal.returns-in_err-opened-clause-only
returns-in_err-opened-clause-only c = only_one c.args.k _ (core_view c.args.core.now) _ (eq-eqb c.args.k c.args.k refl) c.in_err-opened.ensures.turn

pub returns-then-opened-clause-found : goal.returns-then-opened-clause-found
returns-then-opened-clause-found c = given_none _ _ c.args.k c.args.conn.now c.args.head.now _ c.if-opened.true c.in_ok-opened.ensures.turn

pub returns-then-opened-clause-only : goal.returns-then-opened-clause-only
returns-then-opened-clause-only c = only_one c.args.k _ (core_view c.args.core.now) _ (eq-eqb c.args.k c.args.k refl) c.in_ok-opened.ensures.turn

pub returns-in_err-_given-clause-only : goal.returns-in_err-_given-clause-only
returns-in_err-_given-clause-only c =
    let here = eq-eqb c.args.k c.args.k refl in
    only_then c.args.k (core_view c.args.core.now) _ _
    (only_one c.args.k _ (core_view c.args.core.now) _ here c.in_ok-opened.ensures.turn)
    (only_one c.args.k _ _ _ here c.in_err-_given.ensures.turn)

pub returns-clause-found : goal.returns-clause-found
returns-clause-found c =
    given_some (core_view c.args.core.now) _ _ _ c.args.k c.args.conn.now c.args.head.now _ _ _ _ _ _ c.requires.place
    c.if-opened.false c.in_ok-opened.ensures.turn c.in_ok-_given.ensures.turn c.in_ok-_given.ensures.tells.asked
    c.as_bytes.ensures.value c.take_answered_asks.ensures.asks c.take_answered_asks.ensures.core

pub returns-clause-only : goal.returns-clause-only
returns-clause-only c =
    let here = eq-eqb c.args.k c.args.k refl in
    subst (λ (l : CoreValue). OnlyAt c.args.k (core_view c.args.core.now) l) (sym c.take_answered_asks.ensures.core)
    (only_then c.args.k (core_view c.args.core.now) _ _
    (only_one c.args.k _ (core_view c.args.core.now) _ here c.in_ok-opened.ensures.turn)
    (only_one c.args.k _ _ _ here c.in_ok-_given.ensures.turn))
