-- One chunk more was given to the core.
use Rattle.std.proofs.Common.{◌++◌, ◌∷◌, [], ap, arith, map, refl, take}
use Rattle.std.proofs.KnownBytes.{Appends-nil, Consumes-nil, Consumes-trans}
use Rattle.std.proofs.lemmas.List.{map-append}
use Rattle.attributes.specs.Conn.{conn_view}
use Rattle.proxy_core.specs.Events.{http_bytes, http_open}
use Rattle.stream_pumps.specs.Pumps.{StaysOpen, http_of, joined}
use Rattle.stream_pumps.proofs.ControlPumpLemmas.{read_none}
use Rattle.stream_pumps.proofs.PumpLemmas.{all_but_last, all_more, but_last_more, calls_more, events_more, received_opening, in_turn_more, joined_more, whole_in_turn, whole_more}
use Rattle.stream_pumps.proofs.pumps.receive_connection.Goals as goal

pub returns-in-Ended : goal.returns-in-Ended
returns-in-Ended g c =
    let a = c.answer.ensures in
    received_opening _ _ _ _ _ _ _ a.call a.given a.does refl a.written

pub loop-init : goal.loop-init
loop-init g c =
    let a = c.answer.ensures in
    let (stays, appends) = a.whole c.in_default.not-Ended in (
      [],
      a.call ∷ [],
      (_, a.does, refl),
      ap (λ e. e ∷ []) a.given,
      (stays, tt),
      Consumes-nil _,
      (_, appends, Appends-nil _),
    )

pub loop-preserved : goal.loop-preserved
loop-preserved g c =
    let (chunks, calls, done, events, all, read, whole) = c.loop.invariant in
    let a = c.answer-in-loop.ensures in
    let (stays, appends) = a.whole c.in_default-answer.not-Ended in
    let chunk = take c.count_of-count.result c.count_of-count.new.room in (
      chunks ++ chunk ∷ [],
      calls ++ a.call ∷ [],
      calls_more _ _ _ calls a.call done a.does,
      events_more (http_bytes 0) (http_open 0 (conn_view c.args.conn.now) ∷ []) calls chunks a.call chunk events a.given,
      all_more StaysOpen calls a.call all stays,
      rw (joined_more chunks chunk) (Consumes-trans _ _ _ (joined chunks) chunk read c.count_of-count.ensures.read),
      rw (map-append http_of calls (a.call ∷ [])) (whole_more _ _ _ (map http_of calls) (http_of a.call) whole appends),
    )

pub returns-in-Ended-answer : goal.returns-in-Ended-answer
returns-in-Ended-answer g c =
    let (chunks, calls, done, events, all, read, whole) = c.loop.invariant in
    let a = c.answer-in-loop.ensures in
    let chunk = take c.count_of-count.result c.count_of-count.new.room in
    record {
      chunks = chunks ++ chunk ∷ [];
      calls = calls ++ a.call ∷ [];
      done = calls_more _ _ _ calls a.call done a.does;
      events =
          events_more (http_bytes 0) (http_open 0 (conn_view c.args.conn.now) ∷ []) calls chunks a.call chunk events a.given;
      is_open = but_last_more StaysOpen calls a.call all;
      read = rw (joined_more chunks chunk) (Consumes-trans _ _ _ (joined chunks) chunk read c.count_of-count.ensures.read);
      written =
          rw (map-append http_of calls (a.call ∷ [])) (in_turn_more _ _ _ (map http_of calls) (http_of a.call) whole a.written);
    }

pub returns-then-count-eq0 : goal.returns-then-count-eq0
returns-then-count-eq0 g c =
    let (chunks, calls, done, events, all, read, whole) = c.loop.invariant in
    record {
      chunks = chunks;
      calls = calls;
      done = done;
      events = events;
      is_open = all_but_last StaysOpen calls all;
      read = read_none _ _ _ (joined chunks) c.count_of-count.new.room c.count_of-count.result (omega arith) read
          c.count_of-count.ensures.read;
      written = whole_in_turn _ _ (map http_of calls) whole;
    }

pub returns : goal.returns
returns g c =
    let (chunks, calls, done, events, all, read, whole) = c.loop.invariant in
    record {
      chunks = chunks;
      calls = calls;
      done = done;
      events = events;
      is_open = all_but_last StaysOpen calls all;
      read = read;
      written = whole_in_turn _ _ (map http_of calls) whole;
    }
