use Rattle.std.proofs.Common.{◌≡◌, take}
use Rattle.attributes.specs.Headers.{headers_view}
use Rattle.attributes.specs.private.Parts.{entries_in}
use Rattle.attributes.proofs.lookup.copy_fields.Given as goal

abbrev pub invariant-loop-field : goal.invariant-loop-field
invariant-loop-field l =
    headers_view l.pairs.items ≡ entries_in l.text (take l.field-index l.fields)
