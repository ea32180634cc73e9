use Rattle.std.proofs.Common.{inl, inr, refl}
use Rattle.std.proofs.KnownBytes.{Appends-nil}
use Rattle.proxy_core.specs.Events.{event_view, output_view}
use Rattle.proxy_core.specs.Step.{answered, no_memory}
use Rattle.stream_pumps.proofs.PumpLemmas.{stays_open}
use Rattle.stream_pumps.proofs.pumps.answer.Goals as goal

pub returns-in-Ok-write_whole : goal.returns-in-Ok-write_whole
returns-in-Ok-write_whole g c =
    let appends = rw c.deref.ensures.value at c.in-Ok-write_whole.ensures.whole in
    record {
      call = answered (event_view c.args.event) (output_view c.in-Ok.output);
      given = refl;
      does = c.in-Ok.ensures.found;
      written = inl appends;
      whole = λ goes. (stays_open _ _ _ c.result_of.ensures goes, appends);
    }

pub returns-in-Ok : goal.returns-in-Ok
returns-in-Ok g c =
    let part = rw c.deref.ensures.value at c.in-Err-write_whole.ensures.part in
    record {
      call = answered (event_view c.args.event) (output_view c.in-Ok.output);
      given = refl;
      does = c.in-Ok.ensures.found;
      written = inr part;
      whole = λ not. absurd (not refl);
    }

pub returns : goal.returns
returns g c = record {
  call = no_memory (event_view c.args.event);
  given = refl;
  does = c.in-Err.ensures.fault;
  written = inl (Appends-nil _);
  whole = λ not. absurd (not refl);
}
