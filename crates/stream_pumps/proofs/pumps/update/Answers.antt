use Rattle.std.proofs.Common.{inl, inr, refl}
use Rattle.std.proofs.KnownBytes.{Appends-nil}
use Rattle.proxy_core.specs.Events.{ads_bytes, output_view}
use Rattle.proxy_core.specs.Step.{answered, no_memory}
use Rattle.stream_pumps.proofs.PumpLemmas.{stays_open, turn_responds, turn_waits}
use Rattle.stream_pumps.proofs.pumps.update.Goals as goal

pub returns-in-Ok-write_whole : goal.returns-in-Ok-write_whole
returns-in-Ok-write_whole g c =
    let appends = rw c.deref.ensures.value at c.in-Ok-write_whole.ensures.whole in
    let turn = rw c.deref-in-Ok-write_whole.ensures.value at c.result_of.ensures in
    record {
      call = answered (ads_bytes c.args.bytes.now) (output_view c.in-Ok.output);
      given = refl;
      does = c.in-Ok.ensures.found;
      written = inl appends;
      whole = λ goes. (stays_open _ _ _ turn goes, appends);
      waits = turn_waits _ _ _ turn;
      responds = turn_responds _ _ _ turn;
    }

pub returns-in-Ok : goal.returns-in-Ok
returns-in-Ok g c =
    let part = rw c.deref.ensures.value at c.in-Err-write_whole.ensures.part in
    record {
      call = answered (ads_bytes c.args.bytes.now) (output_view c.in-Ok.output);
      given = refl;
      does = c.in-Ok.ensures.found;
      written = inr part;
      whole = λ not. absurd (not refl);
      waits = λ same. (let clash = same in cc);
      responds = λ same. (let clash = same in cc);
    }

pub returns : goal.returns
returns g c = record {
  call = no_memory (ads_bytes c.args.bytes.now);
  given = refl;
  does = c.in-Err.ensures.fault;
  written = inl (Appends-nil _);
  whole = λ not. absurd (not refl);
  waits = λ same. (let clash = same in cc);
  responds = λ same. (let clash = same in cc);
}
