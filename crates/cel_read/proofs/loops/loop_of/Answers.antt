use Rattle.std.proofs.Common.{List, map, inl}
use Rattle.proto_wire.specs.Fields.{Wire, field_view}
use Rattle.cel_tree.specs.Nodes.{LoopLacks, LoopWrong}
use Rattle.proto_wire.specs.private.Values.{ValuesFault}
use Rattle.proto_wire.proofs.Readers.{exit_fault}
use Rattle.cel_read.proofs.loops.loop_of.Goals as goal

pub returns-in_err-require_parts-clause-fault : goal.returns-in_err-require_parts-clause-fault
returns-in_err-require_parts-clause-fault c =
    let fs : List Wire = map field_view c.args.fields.now in
    let names = c.in_ok-require_names.ensures.found in
    let lacks = c.in_err-require_parts.ensures.fault in
    exit_fault (ValuesFault LoopLacks LoopWrong fs) c.from_residual-in_err-require_parts.result _
    c.from_residual-in_err-require_parts.ensures.1
    (inl ((names, lacks.0), lacks.1))
