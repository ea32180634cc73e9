use Rattle.std.proofs.Common.{◌≡◌, List, Some, None, map, sym}
use Rattle.std.proofs.lemmas.Result.{MatchResult-weaker}
use Rattle.std.specs.Map.{keys_of}
use Rattle.proto_wire.specs.declared.refusal.Refusal.TheVariants.{Unsupported}
use Rattle.proto_wire.specs.Reading.{OneofFault, IsUnsupported}
use Rattle.proto_wire.proofs.Readers.{oneof_bad}
use Rattle.proto_wire.specs.Fields.{Wire, field_view}
use Rattle.proto_wire.specs.Oneof.{member_run, last_number, member_in}
use Rattle.rbac_match.specs.Header.{specifiers, HeaderMemberFault, says_member}
use Rattle.rbac_match.specs.declared.header.HeaderMember.{HeaderMember}
use Rattle.rbac_match.proofs.Exits.{exit_known, at_found, at_fault, placed_found, placed_fault}
use Rattle.rbac_match.proofs.header.read_specifier.Goals as goal

pub returns-clause-found : goal.returns-clause-found
returns-clause-found c =
    let fs : List Wire = map field_view c.args.fields.now in
    let last : last_number (keys_of specifiers) fs ≡ Some c.in-Some.number =
    sym c.in-Some.ensures in
    let run : map field_view c.deref.result.now ≡ member_run (keys_of specifiers) fs =
    rw c.deref.ensures c.in_ok-run.ensures in
    let member = at_found (λ (m : HeaderMember). member_in specifiers c.in-Some.number ≡ Some m) c.header_member.result _
    c.in_ok-member.ensures.same c.header_member.ensures.found in
    placed_found _ c.in-Some.number 0 c.read_header_member.result c.inside_field.result c.inside_field.ensures
    (MatchResult-weaker c.read_header_member.result c.read_header_member.ensures.found
    (λ s says. says_member c.in-Some.number c.in_ok-member.member last member (rw run at says))
    (λ _ _. tt))

pub returns-clause-fault : goal.returns-clause-fault
returns-clause-fault c =
    let fs : List Wire = map field_view c.args.fields.now in
    let last : last_number (keys_of specifiers) fs ≡ Some c.in-Some.number =
    sym c.in-Some.ensures in
    let run : map field_view c.deref.result.now ≡ member_run (keys_of specifiers) fs =
    rw c.deref.ensures c.in_ok-run.ensures in
    let member = at_found (λ (m : HeaderMember). member_in specifiers c.in-Some.number ≡ Some m) c.header_member.result _
    c.in_ok-member.ensures.same c.header_member.ensures.found in
    placed_fault (HeaderMemberFault c.in_ok-member.member c.in-Some.number (member_run (keys_of specifiers) fs))
    (OneofFault specifiers IsUnsupported HeaderMemberFault fs)
    c.in-Some.number 0 c.read_header_member.result c.inside_field.result c.inside_field.ensures (rw run at c.read_header_member.ensures.fault)
    (λ e bad. oneof_bad specifiers fs IsUnsupported HeaderMemberFault c.in-Some.number c.in_ok-member.member last member e bad)

pub returns-in_err-member-clause-fault : goal.returns-in_err-member-clause-fault
returns-in_err-member-clause-fault c =
    let fs : List Wire = map field_view c.args.fields.now in
    let last : last_number (keys_of specifiers) fs ≡ Some c.in-Some.number =
    sym c.in-Some.ensures in
    let bad = at_fault (λ e. (member_in specifiers c.in-Some.number ≡ None) × (e ≡ Unsupported)) c.header_member.result _
    c.in_err-member.ensures.same c.header_member.ensures.fault in
    exit_known (OneofFault specifiers IsUnsupported HeaderMemberFault fs) c.from_residual.result _
    c.from_residual.ensures.1 (rw (last, bad.0) bad.1)
