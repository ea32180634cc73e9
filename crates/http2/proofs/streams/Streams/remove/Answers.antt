use Rattle.std.proofs.Common.{◌≡◌, List, Some, ap, sym, map, ◌∙◌}
use Rattle.http2.specs.Streams.{StreamValue, find, others}
use Rattle.http2.specs.StreamViews.{stream_view}
use Rattle.http2.specs.declared.stream.Stream.{Stream}
use Rattle.http2.proofs.Finding.{removed, stay}
use Rattle.http2.proofs.streams.Streams.remove.Goals as goal

pub returns-in-Some-clause-found : goal.returns-in-Some-clause-found
returns-in-Some-clause-found c =
    let found = rw c.deref.ensures.value at c.in-Some.ensures.found in
    let same : c.remove.result ≡ found.2 =
    removed _ found.0 found.1 found.2 c.remove.result c.in-Some.place found.3 found.4 c.remove.ensures.value in
    ap (λ (s : Stream). Some (stream_view s)) same ∙ sym found.5
    ∙ ap (λ (ss : List StreamValue). find c.args.number ss) c.self.view_is

pub returns-in-Some-clause-others : goal.returns-in-Some-clause-others
returns-in-Some-clause-others c =
    let found = rw c.deref.ensures.value at c.in-Some.ensures.found in
    ap (λ (ss : List Stream). map stream_view ss)
    (stay _ _ found.0 found.1 found.2 c.in-Some.place found.3 found.4 c.remove.ensures.by_index.2) ∙ sym found.6
    ∙ ap (λ (ss : List StreamValue). others c.args.number ss) c.self.view_is
