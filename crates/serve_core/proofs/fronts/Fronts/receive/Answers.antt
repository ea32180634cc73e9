-- The connection reads the bytes, and is closed after out of memory.
use Rattle.std.proofs.Common.{◌<◌, length, refl, sym, ◌∙◌}
use Rattle.std.proofs.lemmas.Result.{err_from_is_err_and}
use Rattle.serve_core.specs.ClientRequests.{rule_view}
use Rattle.serve_core.specs.Fronts.{fronts_view}
use Rattle.serve_core.proofs.FrontRuns.{within_at}
use Rattle.serve_core.proofs.FrontSteps.{reads_failed, reads_nothing, reads_some}
use Rattle.serve_core.proofs.fronts.Fronts.receive.Goals as goal

pub receive-requires : goal.receive-requires
receive-requires c =
    let old = fronts_view c.args.self.now in
    rw (sym c.requires.matched) (within_at old.connections c.args.k _ (sym (rw c.in-Some.is at c.put.ensures.before)))

pub returns-in_default-clause-found : goal.returns-in_default-clause-found
returns-in_default-clause-found c =
    reads_nothing (rule_view c.args.self.now.rule) (fronts_view c.args.self.now) _ c.args.k _ c.args.bytes.now _
    (sym (rw c.in_default.is at c.put.ensures.before)) c.requires.none c.begun.ensures refl c.put.ensures.after

pub returns-in_err-receive-clause-found : goal.returns-in_err-receive-clause-found
returns-in_err-receive-clause-found c =
    let left = err_from_is_err_and c.from_residual.result c.from_residual.ensures.1 in
    rw left.1 (reads_failed (rule_view c.args.self.now.rule) (fronts_view c.args.self.now) _ c.args.k
    c.receive.new.answers.items c.args.bytes.now c.receive.ensures.only c.put.ensures.after)

pub returns-clause-found : goal.returns-clause-found
returns-clause-found c =
    let (more, out, pushed, reads) = c.in_ok-receive.ensures.found in
    reads_some (rule_view c.args.self.now.rule) (fronts_view c.args.self.now) _ c.args.k _ c.args.bytes.now out more _ _ _
    (sym (rw c.in-Some.is at c.put.ensures.before)) reads (rw c.requires.none at pushed) c.is_closed.ensures
    (rw c.put.ensures.after at c.put-none.ensures.after)
