use Rattle.std.proofs.Common.{◌≡◌, List}
use Rattle.std.specs.FinMap.{entries}
use Rattle.proto_wire.specs.Maps.{AreEntries, Entry, SomeEntryFault, entries_view, map_of, text}
use Rattle.proto_wire.specs.Merge.{parts_view}
use Rattle.check_request.proofs.Exits.{placed_found, placed_or}
use Rattle.check_request.proofs.fields.entries_in.Goals as goal

pub returns-clause-found : goal.returns-clause-found
returns-clause-found c =
    placed_found (λ v. (es : List (Entry text)) × AreEntries text (parts_view c.args.parts.now) es
    × (entries_view text (λ key. key.now) v.items ≡ entries (map_of text es)))
    c.args.part c.read_entries.result c.at.result c.at.ensures c.read_entries.ensures.found

pub returns-clause-fault : goal.returns-clause-fault
returns-clause-fault c =
    placed_or (SomeEntryFault text (parts_view c.args.parts.now)) c.args.part c.read_entries.result c.at.result
    c.at.ensures c.read_entries.ensures.fault
