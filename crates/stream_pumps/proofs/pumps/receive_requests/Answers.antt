-- One piece more was given to the control plane.
use Rattle.std.proofs.Common.{◌++◌, ◌∷◌, [], arith, map, refl, take}
use Rattle.std.proofs.KnownBytes.{Appends-nil, Consumes-nil, Consumes-trans}
use Rattle.std.proofs.lemmas.List.{map-append}
use Rattle.stream_pumps.specs.ControlPump.{GoesOn, bytes_of, replies_of}
use Rattle.stream_pumps.specs.Pumps.{joined}
use Rattle.stream_pumps.proofs.PumpLemmas.{all_but_last, all_more, but_last_more, in_turn_more, joined_of_more, whole_in_turn, whole_more}
use Rattle.stream_pumps.proofs.ControlPumpLemmas.{feeds_more, read_none}
use Rattle.stream_pumps.proofs.pumps.receive_requests.Goals as goal

pub loop-init : goal.loop-init
loop-init g c = ([], refl, tt, Consumes-nil _, Appends-nil _)

pub loop-preserved : goal.loop-preserved
loop-preserved g c =
    let (calls, done, all, read, whole) = c.loop.invariant in
    let f = c.in-true.ensures in
    let chunk = take c.count_of-count.result c.count_of-count.new.room in (
      calls ++ f.call ∷ [],
      feeds_more _ _ _ calls f.call done f.does,
      all_more GoesOn calls f.call all (f.on refl),
      rw (joined_of_more bytes_of calls f.call, f.given)
          (Consumes-trans _ _ _ (joined (map bytes_of calls)) chunk read c.count_of-count.ensures.read),
      rw (map-append replies_of calls (f.call ∷ []))
          (whole_more _ _ _ (map replies_of calls) (replies_of f.call) whole (f.whole refl)),
    )

pub returns-in-false : goal.returns-in-false
returns-in-false g c =
    let (calls, done, all, read, whole) = c.loop.invariant in
    let f = c.feed.ensures in
    let chunk = take c.count_of-count.result c.count_of-count.new.room in
    record {
      calls = calls ++ f.call ∷ [];
      done = feeds_more _ _ _ calls f.call done f.does;
      on = but_last_more GoesOn calls f.call all;
      read = rw (joined_of_more bytes_of calls f.call, f.given)
          (Consumes-trans _ _ _ (joined (map bytes_of calls)) chunk read c.count_of-count.ensures.read);
      written = rw (map-append replies_of calls (f.call ∷ []))
          (in_turn_more _ _ _ (map replies_of calls) (replies_of f.call) whole f.written);
    }

pub returns-then-count-eq0 : goal.returns-then-count-eq0
returns-then-count-eq0 g c =
    let (calls, done, all, read, whole) = c.loop.invariant in
    record {
      calls = calls;
      done = done;
      on = all_but_last GoesOn calls all;
      read = read_none _ _ _ (joined (map bytes_of calls)) c.count_of-count.new.room c.count_of-count.result (omega arith) read
          c.count_of-count.ensures.read;
      written = whole_in_turn _ _ (map replies_of calls) whole;
    }

pub returns : goal.returns
returns g c =
    let (calls, done, all, read, whole) = c.loop.invariant in
    record {
      calls = calls;
      done = done;
      on = all_but_last GoesOn calls all;
      read = read;
      written = whole_in_turn _ _ (map replies_of calls) whole;
    }
