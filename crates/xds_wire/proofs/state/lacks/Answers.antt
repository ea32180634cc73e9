use Rattle.std.proofs.Common.{◌≡◌, ℕ, ◌≤◌, List, length, arith, rules}
use Rattle.xds_wire.specs.private.Pieces.{head_view}
use Rattle.xds_wire.proofs.Partial.{one_of_data, one_of_head, take_at_most}
use Rattle.xds_wire.proofs.state.lacks.Goals as goal

pub returns-in-Head-clause-one : goal.returns-in-Head-clause-one
returns-in-Head-clause-one c = λ max bytes is few messages after cut.
    let short = rw c.in-Head.is at is in
    let known : length (head_view c.in-Head.head) ≤ c.in-Head.head.count =
    take_at_most c.in-Head.head.count c.in-Head.head.bytes in
    one_of_head max (head_view c.in-Head.head) bytes messages after (omega (arith, known, few, short))
    (rw c.in-Head.is at cut)

pub returns-in-Data-clause-one : goal.returns-in-Data-clause-one
returns-in-Data-clause-one c = λ max bytes is few messages after cut.
    let state = rw c.in-Data.is at is in
    let part : List ℕ = c.in-Data.kept.bytes.items in
    let long : length part ≡ c.len.result = search rules in
    one_of_data max c.in-Data.kept.length part bytes messages after state.1 (omega (arith, long, state.0, few))
    (rw c.in-Data.is at cut)
