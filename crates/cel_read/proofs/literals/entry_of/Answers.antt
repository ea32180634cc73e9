use Rattle.std.proofs.Common.{List, map}
use Rattle.proto_wire.specs.Fields.{Wire, field_view}
use Rattle.cel_tree.specs.Nodes.{EntryLacks, EntryWrong}
use Rattle.proto_wire.specs.private.Values.{ValuesFault}
use Rattle.cel_read.proofs.Entries.{key_bad}
use Rattle.proto_wire.proofs.Readers.{exit_fault}
use Rattle.cel_read.proofs.literals.entry_of.Goals as goal

pub returns-in_err-require_map_key-clause-fault : goal.returns-in_err-require_map_key-clause-fault
returns-in_err-require_map_key-clause-fault c =
    let fs : List Wire = map field_view c.args.fields.now in
    exit_fault (ValuesFault EntryLacks EntryWrong fs) c.from_residual-in_err-require_map_key.result _
    c.from_residual-in_err-require_map_key.ensures.1 (key_bad fs _ c.in_err-require_map_key.ensures.fault)
