use Rattle.std.proofs.Common.{◌≡◌, ℕ, ◌<◌, List, [], ◌++◌, length, vec_len, append-nil, ap, sym, arith, length-append}
use Rattle.xds_wire.specs.Frames.{head_of, IsLength, Cut, unfinished}
use Rattle.xds_wire.proofs.CutLemmas.{cut_more_data}
use Rattle.xds_wire.proofs.state.resume.Goals as goal

pub returns-in_ok-append-in-Data-clause-found : goal.returns-in_ok-append-in-Data-clause-found
returns-in_ok-append-in-Data-clause-found c =
    let state = rw c.in-Data.is at c.requires in
    let n = c.in-Data.kept.length in
    let part : List ℕ = c.in-Data.kept.bytes.items in
    let kept = c.append.new.self in
    let now : List ℕ = kept.bytes.items in
    let same : kept.length ≡ n = c.in_ok-append-in-Data.ensures.length in
    let items : now ≡ part ++ c.args.bytes.now = c.in_ok-append-in-Data.ensures.found in
    let short : length now < n = omega (arith, ap length items, length-append part c.args.bytes.now) in
    let cut = cut_more_data c.args.max n part c.args.bytes.now now state.1 items short in
    let cut_now : Cut (head_of n ++ part ++ c.args.bytes.now) c.args.max [] (unfinished (head_of kept.length ++ now)) = rw same cut in
    let allowed : IsLength c.args.max kept.length = rw same state.1 in
    let shorter : vec_len kept.bytes < kept.length = omega (arith, same, short) in
    ([], rw c.in-Data.is cut_now, sym (append-nil _), (shorter, allowed))
