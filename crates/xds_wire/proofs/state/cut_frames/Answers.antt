use Rattle.std.proofs.Common.{◌≡◌, ◌<◌, ◌++◌, ℕ, List, length, vec_len, ap, ap₂, ◌∙◌, sym, arith}
use Rattle.std.proofs.lemmas.List.{length-take}
use Rattle.xds_wire.specs.Frames.{head_of, unfinished, part_of_message}
use Rattle.xds_wire.specs.private.Pieces.{head_view}
use Rattle.xds_wire.proofs.CutLemmas.{cut_of, rest_shorter}
use Rattle.xds_wire.proofs.state.cut_frames.Goals as goal

pub returns-in-Part-clause-found : goal.returns-in-Part-clause-found
returns-in-Part-clause-found c =
    let so_far = c.loop-head.invariant in
    let piece = c.in-Part.ensures in
    let n = c.in-Part.length in
    let bytes = head_view c.loop-head.head ++ c.loop-head.rest.now in
    let kept = c.in_ok-kept-in-Part.kept in
    let items : kept.bytes.items ≡ c.in-Part.part.now = c.in_ok-kept-in-Part.ensures.bytes in
    let long : kept.length ≡ n = c.in_ok-kept-in-Part.ensures.length in
    let same : head_of kept.length ++ kept.bytes.items ≡ bytes =
    ap₂ (λ (k : ℕ) (t : List ℕ). head_of k ++ t) long items ∙ sym piece.1 in
    let begins = part_of_message n c.in-Part.part.now piece.0 piece.1 piece.2 in
    let short : vec_len kept.bytes < kept.length = omega (arith, long, ap length items, piece.2) in
    let tail = unfinished (head_of kept.length ++ kept.bytes.items) in
    (so_far.0, cut_of _ c.args.max so_far.0 bytes tail so_far.1 (same, begins), so_far.2, (short, rw long piece.0))

pub loop-head-smaller : goal.loop-head-smaller
loop-head-smaller c =
    let head = c.loop-head.head in
    let few : length (head_view head) < 5 = omega (arith, length-take head.count head.bytes) in
    rest_shorter (head_view head) c.loop-head.rest.now c.in-Whole.message.now c.in-Whole.behind.now few c.in-Whole.ensures.1
