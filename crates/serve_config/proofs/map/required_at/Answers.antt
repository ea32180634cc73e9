use Rattle.std.proofs.Common.{◌≡◌, ◌∙◌, Some, ap, codes, map, rules, sym}
use Rattle.std.proofs.lemmas.Result.{IfOk-weaker}
use Rattle.serde_json.specs.Data.{array}
use Rattle.serde_json.specs.View.{items_of, view}
use Rattle.serde_json.specs.declared.value.Value.{Array, the_lemmas}
use Rattle.serve_config.specs.Members.{data_of, member_of}
use Rattle.serve_config.proofs.Present.{required_names}
use Rattle.serve_config.proofs.map.required_at.Goals as goal

pub returns-in-Some-Array : goal.returns-in-Some-Array
returns-in-Some-Array c =
    let items = c.in-Some-Array.items.items in
    let seen : c.as_slice.result.now ≡ items = c.as_slice.ensures.value ∙ ap (λ v. v.items) c.in-Some-Array.items-is in
    let shown : view (Array c.in-Some-Array.items) ≡ array (items_of (map view items)) = search (rules, the_lemmas) in
    let there : member_of (codes "require") (data_of c.args.whole) ≡ Some (array (items_of (map view items))) =
    sym c.in-Some-Array.ensures ∙ ap (λ v. Some (view v)) c.in-Some-Array.field-0-is ∙ ap Some shown in
    IfOk-weaker c.names_of.result _ _
    (λ names is. required_names (member_of (codes "require") (data_of c.args.whole)) items names.items there (rw seen at is))
    c.names_of.ensures
