-- What is said of a connection.
use Rattle.std.specs.Prelude.{◌⊎◌, List}
use Rattle.proto_wire.specs.Fields.{Wire}
use Rattle.proto_wire.specs.declared.refusal.Refusal.{Refusal}
use Rattle.check_request.specs.Faults.{ContextFault, HttpFault}
use Rattle.check_request.specs.declared.part.CheckPart.{CheckPart}

-- a fault of the context, or of its HttpRequest
abbrev pub KnownFault : (context http : List Wire) → CheckPart → Refusal → Type 0
KnownFault context http part e = HttpFault http part e ⊎ ContextFault context part e
