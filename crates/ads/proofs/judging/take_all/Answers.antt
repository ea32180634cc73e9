use Rattle.std.proofs.Common.{map, ◌∙◌}
use Rattle.std.proofs.lemmas.Result.{err_from_is_err_and}
use Rattle.xds_wire.specs.View.{extension_view}
use Rattle.ads.specs.Answer.{RefusesNothing}
use Rattle.ads.specs.private.Taking.{filter_of}
use Rattle.ads.proofs.TakingLemmas.{first_here, refuses_here, refuses_nothing, take_more}
use Rattle.ads.proofs.judging.take_all.Goals as goal

pub returns-in-Err-clause-fault : goal.returns-in-Err-clause-fault
returns-in-Err-clause-fault c =
    let steps = rw c.in-Some.is at c.next.ensures.steps in
    refuses_here c.args.limits.now (map extension_view c.args.extensions.now) c.loop-name.yielded
    c.loop-name.name-iterator c.next.new.self c.args.filters.now.entries c.in-Some.name c.in-Some.budget
    c.deref.result.now c.loop-name.invariant.0 steps c.deref.ensures c.loop-name.given.items c.len.result
    c.in-Err.refusing c.at.result c.loop-name.invariant.1 (c.len.ensures ∙ c.loop-name.given.ok.0)
    c.at.ensures.fault c.at.ensures.filter c.at.ensures.message (rw c.in-Err.is at c.take.ensures.fault)

pub returns-in_err-push-in-Ok-clause-fault : goal.returns-in_err-push-in-Ok-clause-fault
returns-in_err-push-in-Ok-clause-fault c =
    let steps = rw c.in-Some.is at c.next.ensures.steps in
    let left = err_from_is_err_and c.from_residual.result c.from_residual.ensures.1 in
    let xs = map extension_view c.args.extensions.now in
    rw (left.1, left.2) (first_here c.args.limits.now xs c.loop-name.yielded
    c.loop-name.name-iterator c.next.new.self c.args.filters.now.entries c.in-Some.name c.in-Some.budget
    c.deref.result.now c.loop-name.invariant.0 steps c.deref.ensures (RefusesNothing c.args.limits.now xs)
    c.loop-name.given.items c.loop-name.invariant.1
    (refuses_nothing c.args.limits.now xs (filter_of c.deref.result.now c.in-Some.budget.now) _
    (rw c.in-Ok.is at c.take.ensures.found)))

pub loop-name-preserved : goal.loop-name-preserved
loop-name-preserved c =
    let steps = rw c.in-Some.is at c.next.ensures.steps in
    take_more c.args.limits.now (map extension_view c.args.extensions.now) c.loop-name.yielded
    c.loop-name.name-iterator c.next.new.self c.args.filters.now.entries c.in-Some.name c.in-Some.budget
    c.deref.result.now c.loop-name.invariant.0 steps c.deref.ensures c.loop-name.given.items
    c.push.new.self.items c.in-Ok.policies c.loop-name.invariant.1 (rw c.in-Ok.is at c.take.ensures.found)
    c.in_ok-push-in-Ok.ensures.items
