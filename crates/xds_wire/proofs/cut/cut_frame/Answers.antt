use Rattle.std.proofs.Common.{ℕ, ◌≡◌, ◌<◌, ◌^◌, ◌++◌, inl, inr, length, get_or, append-nil, rules, arith, refl, ap, ◌∙◌, sym}
use Rattle.xds_wire.specs.Frames.{too_long}
use Rattle.xds_wire.specs.private.Pieces.{head_view}
use Rattle.xds_wire.proofs.HeadLemmas.{breaks_compressed, begins_head, whole_head}
use Rattle.xds_wire.proofs.cut.cut_frame.Goals as goal

pub returns-then-flag-ne0 : goal.returns-then-flag-ne0
returns-then-flag-ne0 c =
    let head = c.fill.result.0 in
    breaks_compressed c.args.max head.bytes head.count c.fill.result.1.now _
    c.if-head-gt0.true (search rules) c.if-flag-ne0.true c.fill.ensures.same

pub returns-then-head-lt-HEAD : goal.returns-then-head-lt-HEAD
returns-then-head-lt-HEAD c =
    let head = c.fill.result.0 in
    let five : length head.bytes ≡ 5 = search rules in
    let flag : 0 < head.count → get_or head.bytes 0 0 ≡ 0 =
    λ some. elim c.else-head-gt0.either [ inl found ↦ found.1 | inr none ↦ absurd (omega arith) ] in
    let none = c.fill.ensures.all c.if-head-lt-HEAD.true in
    let whole : head_view head ≡ head_view c.args.head ++ c.args.bytes.now =
    sym (ap (λ t. head_view head ++ t) none ∙ append-nil (head_view head)) ∙ c.fill.ensures.same in
    (c.if-head-lt-HEAD.true, whole, begins_head c.args.max head.bytes head.count _ five c.if-head-lt-HEAD.true flag whole)

pub returns-then-length-max : goal.returns-then-length-max
returns-then-length-max c =
    let head = c.fill.result.0 in
    let small : (i : ℕ) → get_or head.bytes i 0 < 256 = search rules in
    let five : length head.bytes ≡ 5 = search rules in
    let flag : get_or head.bytes 0 0 ≡ 0 =
    elim c.else-head-gt0.either [ inl found ↦ found.1 | inr none ↦ absurd (omega arith) ] in
    let n = c.from_be_bytes-length.result in
    let is = whole_head head.bytes head.count n five c.if-head-lt-HEAD.false flag small c.from_be_bytes-length.ensures in
    let rest = c.fill.result.1.now in
    let fits : n < 2 ^ 32 = search rules in
    too_long n rest (sym c.fill.ensures.same ∙ ap (λ t. t ++ rest) is) fits c.if-length-max.true refl
