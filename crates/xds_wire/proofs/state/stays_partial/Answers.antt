use Rattle.std.proofs.Common.{◌≡◌, ℕ, ◌<◌, List, length, rules}
use Rattle.xds_wire.specs.Frames.{part_of_message}
use Rattle.xds_wire.proofs.Partial.{less_than_lacks}
use Rattle.xds_wire.proofs.state.stays_partial.Goals as goal

pub returns-in-Head-cut_frame : goal.returns-in-Head-cut_frame
returns-in-Head-cut_frame c = rw c.in-Head.is c.in-Head-cut_frame.ensures.2

pub returns-in-Part : goal.returns-in-Part
returns-in-Part c =
    let piece = c.in-Part.ensures in
    rw c.in-Head.is (part_of_message c.in-Part.field-0 c.in-Part.field-1.now piece.0 piece.1 piece.2)

pub returns-in-Data : goal.returns-in-Data
returns-in-Data c =
    let state = rw c.in-Data.is at c.requires in
    let n = c.in-Data.kept.length in
    let part : List ℕ = c.in-Data.kept.bytes.items in
    let short : length part < n = search rules in
    let long : length part ≡ c.len.result = search rules in
    rw (c.in-Data.is, ← long) (less_than_lacks c.args.max n part c.args.bytes.now state.1 short)
