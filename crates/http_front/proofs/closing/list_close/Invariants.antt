use Rattle.std.proofs.Common.{◌≡◌, map, drop}
use Rattle.std.specs.List.{list_any}
use Rattle.httparse.specs.Spans.{header_bytes}
use Rattle.http_front.specs.Closing.{lists_close}
use Rattle.http_front.specs.Rules.{lowered}
use Rattle.http_front.proofs.closing.list_close.Given as goal

abbrev pub invariant-loop-field : goal.invariant-loop-field
invariant-loop-field l =
    list_any lists_close (map lowered (map (header_bytes l.bytes) l.fields))
    ≡ list_any lists_close (map lowered (map (header_bytes l.bytes) (drop l.field-index l.fields)))
