-- One chunk more was given to the core.
use Rattle.std.proofs.Common.{◌++◌, ◌∷◌, [], arith, map, refl, take}
use Rattle.std.proofs.KnownBytes.{Appends-nil, Consumes-nil, Consumes-trans}
use Rattle.std.proofs.lemmas.Bool.{false≢true}
use Rattle.std.proofs.lemmas.List.{map-append}
use Rattle.proxy_core.specs.Events.{ads_bytes}
use Rattle.stream_pumps.specs.Pumps.{Responds, Waits, ads_of, joined}
use Rattle.stream_pumps.proofs.ControlPumpLemmas.{read_none}
use Rattle.stream_pumps.proofs.PumpLemmas.{all_but_last, all_more, but_last_more, calls_more, events_more, in_turn_more, joined_more, last_more, whole_in_turn, whole_joined, whole_more}
use Rattle.stream_pumps.proofs.pumps.receive.Goals as goal

pub loop-init : goal.loop-init
loop-init g c = ([], [], refl, refl, tt, Consumes-nil _, Appends-nil _)

pub loop-preserved : goal.loop-preserved
loop-preserved g c =
    let (chunks, calls, done, events, waits, read, whole) = c.loop.invariant in
    let u = c.in-Waits.ensures in
    let chunk = take c.count_of-count.result c.count_of-count.new.room in (
      chunks ++ chunk ∷ [],
      calls ++ u.call ∷ [],
      calls_more _ _ _ calls u.call done u.does,
      events_more ads_bytes [] calls chunks u.call chunk events u.given,
      all_more Waits calls u.call waits (u.waits refl),
      rw (joined_more chunks chunk) (Consumes-trans _ _ _ (joined chunks) chunk read c.count_of-count.ensures.read),
      rw (map-append ads_of calls (u.call ∷ []))
          (whole_more _ _ _ (map ads_of calls) (ads_of u.call) whole (u.whole (λ same. (let clash = same in cc))).1),
    )

pub returns-in-Answered : goal.returns-in-Answered
returns-in-Answered g c =
    let (chunks, calls, done, events, waits, read, whole) = c.loop.invariant in
    let u = c.in-Answered.ensures in
    let chunk = take c.count_of-count.result c.count_of-count.new.room in
    let all = whole_more _ _ _ (map ads_of calls) (ads_of u.call) whole (u.whole (λ same. (let clash = same in cc))).1 in
    record {
      chunks = chunks ++ chunk ∷ [];
      calls = calls ++ u.call ∷ [];
      done = calls_more _ _ _ calls u.call done u.does;
      events = events_more ads_bytes [] calls chunks u.call chunk events u.given;
      waits = but_last_more Waits calls u.call waits;
      read = rw (joined_more chunks chunk) (Consumes-trans _ _ _ (joined chunks) chunk read c.count_of-count.ensures.read);
      written = rw (map-append ads_of calls (u.call ∷ [])) (whole_in_turn _ _ (map ads_of calls ++ ads_of u.call ∷ []) all);
      responds = λ _. last_more Responds calls u.call (u.responds refl);
      whole = λ _. rw (map-append ads_of calls (u.call ∷ [])) (whole_joined _ _ (map ads_of calls ++ ads_of u.call ∷ []) all);
    }

pub returns-in-Ended : goal.returns-in-Ended
returns-in-Ended g c =
    let (chunks, calls, done, events, waits, read, whole) = c.loop.invariant in
    let u = c.in-Ended.ensures in
    let chunk = take c.count_of-count.result c.count_of-count.new.room in
    record {
      chunks = chunks ++ chunk ∷ [];
      calls = calls ++ u.call ∷ [];
      done = calls_more _ _ _ calls u.call done u.does;
      events = events_more ads_bytes [] calls chunks u.call chunk events u.given;
      waits = but_last_more Waits calls u.call waits;
      read = rw (joined_more chunks chunk) (Consumes-trans _ _ _ (joined chunks) chunk read c.count_of-count.ensures.read);
      written =
          rw (map-append ads_of calls (u.call ∷ [])) (in_turn_more _ _ _ (map ads_of calls) (ads_of u.call) whole u.written);
      responds = λ bad. absurd (false≢true bad);
      whole = λ bad. absurd (false≢true bad);
    }

pub returns-then-count-eq0 : goal.returns-then-count-eq0
returns-then-count-eq0 g c =
    let (chunks, calls, done, events, waits, read, whole) = c.loop.invariant in
    record {
      chunks = chunks;
      calls = calls;
      done = done;
      events = events;
      waits = all_but_last Waits calls waits;
      read = read_none _ _ _ (joined chunks) c.count_of-count.new.room c.count_of-count.result (omega arith) read
          c.count_of-count.ensures.read;
      written = whole_in_turn _ _ (map ads_of calls) whole;
      responds = λ bad. absurd (false≢true bad);
      whole = λ bad. absurd (false≢true bad);
    }

pub returns : goal.returns
returns g c =
    let (chunks, calls, done, events, waits, read, whole) = c.loop.invariant in
    record {
      chunks = chunks;
      calls = calls;
      done = done;
      events = events;
      waits = all_but_last Waits calls waits;
      read = read;
      written = whole_in_turn _ _ (map ads_of calls) whole;
      responds = λ bad. absurd (false≢true bad);
      whole = λ bad. absurd (false≢true bad);
    }
