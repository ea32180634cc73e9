-- What was read is what is given, and what is kept.
use Rattle.std.proofs.Common.{List, ℕ, ◌++◌, ◌-◌, take, drop, ap, append-nil, ◌∙◌}
use Rattle.serve_host.proofs.Requests.{one_piece, received}
use Rattle.serve_host.proofs.request_reader.RequestReader.receive.Goals as goal

pub returns-in-Ok-clause-bytes : goal.returns-in-Ok-clause-bytes
returns-in-Ok-clause-bytes g c =
    let count = c.in_ok-count.count in
    let n = c.piece-length.result in
    let buf = c.read.new.buf in
    received (g.S.Read.remaining c.args.self.now.stream) (g.S.Read.remaining c.read.new.self) buf count n c.put.new.self.waiting
    c.in_ok-count.ensures.bound.0 c.piece-length.ensures.value c.piece-length.ensures.within
    (c.in-Ok.ensures.whole ∙ append-nil _ ∙ ap (λ (l : List ℕ). l ++ take (count - n) (drop n buf)) c.requires)
    c.in_ok-count.ensures.bytes.0 c.in_ok-count.ensures.bytes.1

pub returns-in-Ok-clause-one : goal.returns-in-Ok-clause-one
returns-in-Ok-clause-one g c =
    let count = c.in_ok-count.count in
    let n = c.piece-length.result in
    let buf = c.read.new.buf in
    one_piece (g.S.Read.remaining c.args.self.now.stream) (g.S.Read.remaining c.read.new.self) buf count n c.put.new.self.waiting
    c.in_ok-count.ensures.bound.0 c.piece-length.ensures.value c.piece-length.ensures.within
    (c.in-Ok.ensures.whole ∙ append-nil _ ∙ ap (λ (l : List ℕ). l ++ take (count - n) (drop n buf)) c.requires)
