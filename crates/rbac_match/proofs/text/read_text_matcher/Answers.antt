use Rattle.std.proofs.Common.{ℕ, List, map}
use Rattle.rbac_match.proofs.Exits.{exit_memory_or, exit_known}
use Rattle.proto_wire.specs.Reading.{in_fields}
use Rattle.proto_wire.specs.Fields.{Wire, field_view}
use Rattle.proto_wire.specs.Merge.{parts_view}
use Rattle.proto_wire.specs.Messages.{IsMessage, MessageFault}
use Rattle.rbac_match.specs.Text.{string_keys, TextFault}
use Rattle.rbac_match.proofs.TextMessages.{text_found, pattern_fault}
use Rattle.rbac_match.proofs.text.read_text_matcher.Goals as goal

pub returns-in_err-fields-clause-fault : goal.returns-in_err-fields-clause-fault
returns-in_err-fields-clause-fault c =
    let parts : List (List ℕ) = parts_view c.args.parts.now in
    exit_memory_or (MessageFault string_keys parts) (TextFault parts) c.from_residual.result _
    c.from_residual.ensures.1 c.in_err-fields.ensures.fault
    (λ e bad. in_fields bad)

pub returns-in_err-pattern-clause-fault : goal.returns-in_err-pattern-clause-fault
returns-in_err-pattern-clause-fault c =
    let parts : List (List ℕ) = parts_view c.args.parts.now in
    let fs : List Wire = map field_view c.in_ok-fields.fields.items in
    let message : IsMessage string_keys parts fs = c.in_ok-fields.ensures.found in
    exit_known (TextFault parts) c.from_residual-in_err-pattern.result _
    c.from_residual-in_err-pattern.ensures.1
    (pattern_fault parts fs message _ (rw c.deref.ensures at c.in_err-pattern.ensures.fault))

pub returns-clause-found : goal.returns-clause-found
returns-clause-found c =
    let parts : List (List ℕ) = parts_view c.args.parts.now in
    let fs : List Wire = map field_view c.in_ok-fields.fields.items in
    let message : IsMessage string_keys parts fs = c.in_ok-fields.ensures.found in
    let found = rw (c.deref.ensures, ← c.in_ok-pattern.pattern-is, ← c.in_ok-pattern.sought-is) at c.in_ok-pattern.ensures.found in
    rw c.new.ensures
    (text_found parts fs message _ found (rw c.deref-2.ensures at c.bool_at-ignore_case.ensures))
