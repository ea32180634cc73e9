use Rattle.std.proofs.Common.{◌≡◌, ℕ, List, map, inr, subst, ap, ◌∙◌}
use Rattle.std.proofs.lemmas.Result.{MatchResult-weaker}
use Rattle.std.specs.List.{AllByRecursion}
use Rattle.std.specs.Prelude.{OnOk, IfErr, Contains}
use Rattle.std.specs.Str.{IsUtf8}
use Rattle.proto_wire.specs.Fields.{Wire, field_view}
use Rattle.proto_wire.specs.Merge.{parts_view}
use Rattle.proto_wire.specs.Values.{payloads, Utf8Fault}
use Rattle.cel_tree.specs.References.{reference_field}
use Rattle.cel_read.proofs.reference.require_ids.Goals as goal

pub returns-clause-found : goal.returns-clause-found
returns-clause-found c =
    let fs : List Wire = map field_view c.args.fields.now in
    let ids : parts_view c.deref.result.now ≡ payloads reference_field.overload_id fs = ap parts_view c.deref.ensures ∙ c.in_ok-ids.ensures in
    let P : List (List ℕ) → Type 0 = λ ps. OnOk c.require_texts.result (AllByRecursion IsUtf8 ps) in
    subst P ids c.require_texts.ensures.found

pub returns-clause-fault : goal.returns-clause-fault
returns-clause-fault c =
    let fs : List Wire = map field_view c.args.fields.now in
    let ids : parts_view c.deref.result.now ≡ payloads reference_field.overload_id fs = ap parts_view c.deref.ensures ∙ c.in_ok-ids.ensures in
    let P : List (List ℕ) → Type 0 = λ ps. IfErr c.require_texts.result (λ e. (t : List ℕ) × Contains ps t × Utf8Fault t e) in
    MatchResult-weaker c.require_texts.result (subst P ids c.require_texts.ensures.fault) (λ _ _. tt) (λ e bad. inr bad)
