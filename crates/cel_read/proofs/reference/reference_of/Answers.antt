use Rattle.std.proofs.Common.{ℕ, List, map, inr}
use Rattle.std.specs.Prelude.{Contains}
use Rattle.proto_wire.specs.Fields.{Wire, field_view}
use Rattle.proto_wire.specs.Values.{payloads, Utf8Fault}
use Rattle.proto_wire.specs.Reading.{Never, OptionalFault}
use Rattle.proto_wire.specs.private.Values.{ValuesFault}
use Rattle.cel_tree.specs.Constants.{ConstantFault}
use Rattle.cel_tree.specs.References.{ReferenceWrong, bad_id, in_value, reference_field}
use Rattle.proto_wire.proofs.Readers.{exit_memory_or}
use Rattle.cel_read.proofs.reference.reference_of.Goals as goal

pub returns-in_err-require_ids-clause-fault : goal.returns-in_err-require_ids-clause-fault
returns-in_err-require_ids-clause-fault c =
    let fs : List Wire = map field_view c.args.fields.now in
    exit_memory_or (λ e. (text : List ℕ) × Contains (payloads reference_field.overload_id fs) text × Utf8Fault text e)
    (ValuesFault Never ReferenceWrong fs)
    c.from_residual-in_err-require_ids.result _ c.from_residual-in_err-require_ids.ensures.1
    c.in_err-require_ids.ensures.fault (λ e bad. inr (bad_id bad.0 bad.1 bad.2))

pub returns-in_err-value-clause-fault : goal.returns-in_err-value-clause-fault
returns-in_err-value-clause-fault c =
    let fs : List Wire = map field_view c.args.fields.now in
    exit_memory_or (OptionalFault ConstantFault reference_field.value fs) (ValuesFault Never ReferenceWrong fs)
    c.from_residual-in_err-value.result _ c.from_residual-in_err-value.ensures.1
    c.in_err-value.ensures.fault (λ e bad. inr (in_value bad))
