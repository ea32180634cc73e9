use Rattle.std.proofs.Common.{◌≡◌, [], ◌∷◌, ◌++◌, List, arith, refl, sym, ap, ◌∙◌}
use Rattle.std.proofs.lemmas.List.{append-nil, append_assoc}
use Rattle.std.proofs.lemmas.Result.{MatchResult-weaker}
use Rattle.std.proofs.lemmas.Grind.{common_steps}
use Rattle.std.specs.FinMap.{entries}
use Rattle.std.specs.FinMap.Entries.{put}
use Rattle.std.specs.Vec.Iter.{into_iter_items}
use Rattle.proto_wire.specs.Merge.{parts_view}
use Rattle.proto_wire.specs.Maps.{Entry, key_cmp, map_of, entries_view}
use Rattle.proto_wire.proofs.MapLemmas.{entries_view_push, map_of_none, map_of_push}
use Rattle.proto_wire.proofs.maps.last_of_each.Goals as goal

pub loop-entry-init : goal.loop-entry-init
loop-entry-init g c =
    let kind = g.K.KeyOrder.kind in
    let view = entries_view kind g.K.KeyOrder.key_view in
    (ap view c.new-last.ensures.empty ∙ sym (map_of_none kind), sym c.into_iter-entry-iterator.ensures.into_iter_gives.0)

pub loop-entry-preserved : goal.loop-entry-preserved
loop-entry-preserved g c =
    let kind = g.K.KeyOrder.kind in
    let key_view = g.K.KeyOrder.key_view in
    let view = entries_view kind key_view in
    let entry = c.in-Some.entry in
    let e : Entry kind = (key_view entry.0, parts_view entry.1.items) in
    let before : List (Entry kind) = view c.loop-entry.yielded in
    let items : into_iter_items c.loop-entry.entry-iterator ≡ entry ∷ into_iter_items c.next.new.self =
    c.in-Some.ensures.steps.0 in
    let more = entries_view_push kind key_view c.loop-entry.yielded _ entry refl in (
      c.in_ok-put_entry.ensures
          ∙ ap (put (key_cmp kind) e.0 e.1) c.loop-entry.invariant.0
          ∙ sym (map_of_push kind before e)
          ∙ ap (λ xs. entries (map_of kind xs)) (sym more),
      c.loop-entry.invariant.1 ∙ ap (λ rest. c.loop-entry.yielded ++ rest) items
          ∙ sym (append_assoc c.loop-entry.yielded (entry ∷ []) (into_iter_items c.next.new.self)),
    )

pub returns : goal.returns
returns g c =
    let kind = g.K.KeyOrder.kind in
    let view = entries_view kind g.K.KeyOrder.key_view in
    let none : into_iter_items c.loop-entry.entry-iterator ≡ [] = grind (arith, common_steps) in
    let whole : c.args.all.items ≡ c.loop-entry.yielded =
    c.loop-entry.invariant.1 ∙ ap (λ rest. c.loop-entry.yielded ++ rest) none
    ∙ append-nil c.loop-entry.yielded in
    MatchResult-weaker c.list_of.result c.list_of.ensures
    (λ v is. ap view is ∙ c.loop-entry.invariant.0 ∙ ap (λ xs. entries (map_of kind (view xs))) (sym whole))
    (λ _ _. tt)
