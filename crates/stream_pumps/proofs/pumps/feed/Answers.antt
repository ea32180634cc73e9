use Rattle.std.proofs.Common.{inl, inr, refl}
use Rattle.std.specs.Prelude.{is_some}
use Rattle.std.proofs.KnownBytes.{Appends-nil}
use Rattle.std.proofs.lemmas.Bool.{false≢true}
use Rattle.stream_pumps.specs.ControlPump.{answered, no_memory}
use Rattle.stream_pumps.proofs.ControlPumpLemmas.{goes_on}
use Rattle.stream_pumps.proofs.pumps.feed.Goals as goal

pub returns-in-Ok-write_whole : goal.returns-in-Ok-write_whole
returns-in-Ok-write_whole g c =
    let (numbers, serves) = c.in-Ok.ensures.found in
    let appends = rw c.deref.ensures.value at c.in-Ok-write_whole.ensures.whole in
    record {
      call = answered c.args.bytes.now c.in-Ok.fed.replies.items numbers (is_some c.in-Ok.fed.ended);
      given = refl;
      does = serves;
      written = inl appends;
      on = goes_on c.in-Ok.fed.ended c.is_none.result c.is_none.ensures;
      whole = λ _. appends;
    }

pub returns-in-Ok : goal.returns-in-Ok
returns-in-Ok g c =
    let (numbers, serves) = c.in-Ok.ensures.found in
    let part = rw c.deref.ensures.value at c.in-Err-write_whole.ensures.part in
    record {
      call = answered c.args.bytes.now c.in-Ok.fed.replies.items numbers (is_some c.in-Ok.fed.ended);
      given = refl;
      does = serves;
      written = inr part;
      on = λ bad. absurd (false≢true bad);
      whole = λ bad. absurd (false≢true bad);
    }

pub returns : goal.returns
returns g c = record {
  call = no_memory c.args.bytes.now;
  given = refl;
  does = c.in-Err.ensures.fault;
  written = inl (Appends-nil _);
  on = λ bad. absurd (false≢true bad);
  whole = λ bad. absurd (false≢true bad);
}
