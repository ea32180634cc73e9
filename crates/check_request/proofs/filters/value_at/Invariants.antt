use Rattle.std.proofs.Common.{◌≡◌, take}
use Rattle.std.specs.Prelude.{None}
use Rattle.std.specs.Map.{lookup}
use Rattle.std.specs.Str.{bytes_eq}
use Rattle.proto_wire.specs.Maps.{entries_view, text}
use Rattle.check_request.proofs.filters.value_at.Given as goal

abbrev pub invariant-loop-entry : goal.invariant-loop-entry
invariant-loop-entry l =
    lookup (λ other. bytes_eq other l.key) (entries_view text (λ k. k.now) (take l.entry-index l.entries)) ≡ None
