-- The sort keeps the values of each name, so what is joined after it is joined of all fields.
use Rattle.std.proofs.Common.{◌≡◌, ◌∙◌, ℕ, List, ap}
use Rattle.std.specs.FinMap.{entries}
use Rattle.attributes.specs.Headers.{headers_of, values_of}
use Rattle.attributes.specs.private.Parts.{entries_in}
use Rattle.attributes.proofs.HeaderMaps.{is_sorted_entries}
use Rattle.attributes.proofs.Joining.{headers_of_same}
use Rattle.attributes.proofs.Requests.{text_fields}
use Rattle.attributes.proofs.request.sorted_headers.Goals as goal

pub join_sorted-requires-clause-parts : goal.join_sorted-requires-clause-parts
join_sorted-requires-clause-parts c =
    (rw c.as_slice.ensures.value at c.in_ok-sort_by_name.ensures.parts) c.requires

pub new-requires : goal.new-requires
new-requires c = record {
  parts = c.in_ok-joined.ensures.parts;
  ascending = rw c.in_ok-joined.ensures.joined (is_sorted_entries _);
}

pub returns-clause-joined : goal.returns-clause-joined
returns-clause-joined c =
    let t = c.args.text.items in
    let fs = c.args.fields.items in
    let gs = c.sort_by_name.new.fields.items in
    let joined : entries_in c.join_sorted.new.text.items c.in_ok-joined.joined.items
    ≡ entries (headers_of (entries_in t gs)) =
    c.in_ok-joined.ensures.joined in
    let same : (name : List ℕ) → values_of name (entries_in t gs) ≡ values_of name (entries_in t fs) =
    λ name. rw c.as_slice.ensures.value at c.in_ok-sort_by_name.ensures.stable name in
    c.new.ensures ∙ joined ∙ ap entries (headers_of_same (entries_in t fs) (entries_in t gs) same)

pub returns-clause-texts : goal.returns-clause-texts
returns-clause-texts c =
    rw c.new.ensures
    (text_fields c.join_sorted.new.text.items c.in_ok-joined.joined.items
    c.in_ok-joined.ensures.parts)
