use Rattle.std.proofs.Common.{ℕ, List, map, inr}
use Rattle.std.specs.Prelude.{Contains}
use Rattle.proto_wire.specs.Fields.{Wire, field_view}
use Rattle.proto_wire.specs.Values.{payloads}
use Rattle.cel_tree.specs.Nodes.{MapEntryFault, struct_field, StructWrong, in_entry}
use Rattle.proto_wire.specs.Reading.{Never}
use Rattle.proto_wire.specs.private.Values.{ValuesFault}
use Rattle.proto_wire.proofs.Readers.{exit_memory_or}
use Rattle.cel_read.proofs.literals.struct_of.Goals as goal

pub returns-in_err-entries_of-clause-fault : goal.returns-in_err-entries_of-clause-fault
returns-in_err-entries_of-clause-fault c =
    let fs : List Wire = map field_view c.args.fields.now in
    exit_memory_or (λ e. (p : List ℕ) × Contains (payloads struct_field.entries fs) p × MapEntryFault p e)
    (ValuesFault Never StructWrong fs)
    c.from_residual-in_err-entries_of.result _ c.from_residual-in_err-entries_of.ensures.1
    c.in_err-entries_of.ensures.fault (λ e bad. inr (in_entry bad.0 bad.1 bad.2))
