use Rattle.std.proofs.Common.{◌++◌, ◌∷◌, ◌∙◌, [], arith, length-append, refl}
use Rattle.std.proofs.lemmas.Result.{err_from_is_err_and}
use Rattle.std.specs.IoError.{error_kind}
use Rattle.proxy_core.specs.Step.{new_proxy}
use Rattle.proxy_replay.proofs.ReplayLemmas.{replayed_end, replayed_more, replayed_none, stops_of, turn_stops}
use Rattle.program_texts.proofs.LineLemmas.{not_memory}
use Rattle.proxy_replay.proofs.replay.replay.Goals as goal

pub loop-number-init : goal.loop-number-init
loop-number-init g c = ([], [], replayed_none _ _ _ _ _ c.in_ok-proxy.ensures, refl, refl)

pub returns-in_err-proxy-clause-stopped : goal.returns-in_err-proxy-clause-stopped
returns-in_err-proxy-clause-stopped g c =
    let p = err_from_is_err_and c.from_residual.result c.from_residual.ensures.1 in
    rw (p.1, p.2) (record {
      lines = [];
      calls = [];
      after = new_proxy c.args.config;
      input_then = _;
      out_then = _;
      replayed = replayed_none c.args.config _ _ _ (new_proxy c.args.config) refl;
      stops = refl;
    })

pub returns-in_err-line-clause-stopped : goal.returns-in_err-line-clause-stopped
returns-in_err-line-clause-stopped g c =
    let p = err_from_is_err_and c.from_residual-in_err-line.result c.from_residual-in_err-line.ensures.1 in
    let (lines, calls, so_far, count, same) = c.loop-number.invariant in
    rw (p.1, p.2) (record {
      lines = lines;
      calls = calls;
      after = _;
      input_then = _;
      out_then = _;
      replayed = so_far;
      stops = turn_stops c.args.config c.args.only (g.R.Read.remaining c.args.input.now) (g.W.Write.contents c.args.out.now) _ lines _
          (g.R.Read.remaining c.loop-number.input) _ _ c.in_err-line.ensures.fault;
    })

pub returns-clause-stopped : goal.returns-clause-stopped
returns-clause-stopped g c =
    let (lines, calls, so_far, count, same) = c.loop-number.invariant in record {
      lines = lines;
      calls = calls;
      after = _;
      input_then = g.R.Read.remaining c.loop-number.input;
      out_then = _;
      replayed = so_far;
      stops = (not_memory (error_kind c.from.result) c.from.ensures, refl);
    }

pub returns-in_err-answer_line-in-Some-clause-stopped : goal.returns-in_err-answer_line-in-Some-clause-stopped
returns-in_err-answer_line-in-Some-clause-stopped g c =
    let p = err_from_is_err_and c.from_residual-in_err-answer_line-in-Some.result
    c.from_residual-in_err-answer_line-in-Some.ensures.1 in
    let (lines, calls, so_far, count, same) = c.loop-number.invariant in
    let reads = rw c.in-Some.is at c.in_ok-line.ensures.found in
    let fault = rw (c.deref.ensures.value, same) at c.in_err-answer_line-in-Some.ensures.fault in
    rw (p.1, p.2) (record {
      lines = lines;
      calls = calls;
      after = _;
      input_then = _;
      out_then = _;
      replayed = so_far;
      stops = stops_of c.args.config c.args.only (g.R.Read.remaining c.args.input.now) (g.W.Write.contents c.args.out.now)
          _ c.loop-number.number c.in-Some.line.items lines _ _ _ _ _ reads count fault;
    })

pub loop-number-preserved : goal.loop-number-preserved
loop-number-preserved g c =
    let (lines, calls, so_far, count, same) = c.loop-number.invariant in
    let reads = rw c.in-Some.is at c.in_ok-line.ensures.found in
    let prints = rw (c.deref.ensures.value, same) at c.in_ok-answer_line-in-Some.ensures.answered in (
      lines ++ c.in-Some.line.items ∷ [],
      calls ++ prints.calls,
      replayed_more _ _ _ _ lines calls _ _ _ _ _ _ _ prints.calls so_far reads prints.reported prints.does prints.printed,
      omega (arith, count, length-append lines (c.in-Some.line.items ∷ [])),
      c.in_ok-answer_line-in-Some.ensures.only ∙ same,
    )

pub returns-in-None-clause-replayed : goal.returns-in-None-clause-replayed
returns-in-None-clause-replayed g c =
    let (lines, calls, so_far, count, same) = c.loop-number.invariant in
    let end = rw c.in-None.is at c.in_ok-line.ensures.found in
    replayed_end _ _ _ _ lines calls _ _ _ _ so_far end
