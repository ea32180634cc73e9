use Rattle.std.proofs.Common.{◌≡◌, ◌∙◌, sym, false}
use Rattle.std.specs.Prelude.{is_some, not, slice_get}
use Rattle.proto_wire.specs.Places.{is_cut_short, named_field, path_of}
use Rattle.cel_check.proofs.PlaceLaws.{no_step, whole}
use Rattle.cel_check.proofs.checker.naming.is_whole.Goals as goal

pub returns : goal.returns
returns c =
    let p = path_of c.args.place.now in
    let empty : is_some c.step.result ≡ false = sym c.is_some.ensures ∙ c.if-is_some.false in
    let first : is_some (slice_get p.steps 0) ≡ false = rw c.step.ensures at empty in
    let cut : is_cut_short p.end ≡ false = sym c.is_cut_short.ensures ∙ c.if-is_cut_short.false in
    let is : is_some (named_field p.end) ≡ not c.is_none.result = rw c.field.ensures at c.is_none.ensures in
    whole p c.is_none.result (no_step (slice_get p.steps 0) first) cut is
