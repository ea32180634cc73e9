use Rattle.std.proofs.Common.{List, map}
use Rattle.proto_wire.specs.Fields.{Wire, field_view}
use Rattle.proto_wire.specs.Values.{payloads}
use Rattle.proto_wire.specs.declared.refusal.Refusal.{Refusal}
use Rattle.check_request.specs.Faults.{LinesFault, bad_header, bad_header_map}
use Rattle.check_request.specs.Numbers.{http_field}
use Rattle.check_request.specs.declared.part.CheckPart.{CheckPart}
use Rattle.check_request.specs.private.Headers.{MapFault, bad_map, bad_value}
use Rattle.check_request.proofs.Exits.{last_or}
use Rattle.check_request.proofs.lines.read_sent.Goals as goal

-- a fault of the HeaderMap is one of the field lines
map_fault : (http : List Wire) (p : CheckPart) (e : Refusal)
    → MapFault (payloads http_field.header_map http) p e → LinesFault http p e
map_fault http p e (bad_map is bad) = bad_header_map is bad
map_fault http p e (bad_value fs merges (i, header, there, is, bad)) = bad_header fs i header merges there is bad

pub returns-then-not-is_empty-clause-fault : goal.returns-then-not-is_empty-clause-fault
returns-then-not-is_empty-clause-fault c =
    let http : List Wire = map field_view c.args.http.now in
    last_or (MapFault (payloads http_field.header_map http)) (LinesFault http) (map_fault http)
    c.read_header_map.result (rw (c.deref.ensures, c.in_ok-raw.ensures) at c.read_header_map.ensures.fault)
