use Rattle.std.proofs.Common.{◌≡◌, map, take}
use Rattle.attributes.specs.Draft.{with_entries}
use Rattle.attributes.specs.Headers.{line_entry}
use Rattle.httparse.specs.Spans.{header_bytes}
use Rattle.http_front.specs.Rules.{lowered}
use Rattle.http_front.proofs.fields.add_fields.Given as goal

abbrev pub invariant-loop-field : goal.invariant-loop-field
invariant-loop-field l =
    l.draft ≡ with_entries l.fn.draft
    (map line_entry (map lowered (map (header_bytes l.bytes) (take l.field-index l.fields))))
