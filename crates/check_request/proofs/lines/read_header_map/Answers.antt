use Rattle.std.proofs.Common.{◌≡◌, List, map}
use Rattle.std.specs.List.{AllZip}
use Rattle.std.proofs.lemmas.Result.{IfOk-weaker}
use Rattle.http_front.specs.Parts.{field_view as line_view}
use Rattle.proto_wire.specs.Fields.{Wire, field_view}
use Rattle.proto_wire.specs.Merge.{parts_view}
use Rattle.proto_wire.specs.Messages.{PartsFault}
use Rattle.proto_wire.specs.Values.{payloads}
use Rattle.check_request.specs.Lines.{AreHeaders, IsHeader}
use Rattle.check_request.specs.Numbers.{map_field}
use Rattle.check_request.specs.declared.part.CheckPart.TheVariants.{HeaderMap}
use Rattle.check_request.specs.private.Headers.{HeadersFault, MapFault, bad_map, bad_value}
use Rattle.check_request.proofs.Exits.{exit_or, last_or}
use Rattle.check_request.proofs.lines.read_header_map.Goals as goal

pub returns-in_err-fields-clause-fault : goal.returns-in_err-fields-clause-fault
returns-in_err-fields-clause-fault c =
    let parts = parts_view c.args.parts.now in
    exit_or (λ p e. (p ≡ HeaderMap) × PartsFault parts e) (MapFault parts) (λ p d bad. bad_map bad.0 bad.1)
    c.from_residual.result _ c.from_residual.ensures.1 c.in_err-fields.ensures.fault

pub returns-clause-found : goal.returns-clause-found
returns-clause-found c =
    let parts = parts_view c.args.parts.now in
    let fs : List Wire = map field_view c.in_ok-fields.fields.items in
    IfOk-weaker c.read_each.result (λ v. AllZip IsHeader (payloads map_field.headers fs) (map line_view v.items))
    (λ v. AreHeaders parts (map line_view v.items)) (λ v all. (fs, c.in_ok-fields.ensures.found, all))
    (rw (c.deref-2.ensures, c.in_ok-headers.ensures, c.deref.ensures) at c.read_each.ensures.found)

pub returns-clause-fault : goal.returns-clause-fault
returns-clause-fault c =
    let parts = parts_view c.args.parts.now in
    let fs : List Wire = map field_view c.in_ok-fields.fields.items in
    last_or (HeadersFault (payloads map_field.headers fs)) (MapFault parts)
    (λ p d bad. bad_value fs c.in_ok-fields.ensures.found bad) c.read_each.result
    (rw (c.deref-2.ensures, c.in_ok-headers.ensures, c.deref.ensures) at c.read_each.ensures.fault)
