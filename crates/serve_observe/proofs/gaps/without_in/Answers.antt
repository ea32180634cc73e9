use Rattle.std.proofs.Common.{◌≡◌, ◌∙◌, ◌++◌, [], ◌∷◌, Some, ap, false, get_or, option_map, slice_get, sym, true}
use Rattle.std.proofs.lemmas.List.{map-append}
use Rattle.ads.specs.Config.{names_of}
use Rattle.ads.specs.Views.{admitted_view}
use Rattle.xds_wire.specs.View.{texts_view}
use Rattle.serve_observe.specs.Gaps.{lacks_policies}
use Rattle.serve_observe.proofs.GapLemmas.{beyond_next, none_left, with_next, without_next}
use Rattle.serve_observe.proofs.gaps.without_in.Goals as goal
use Rattle.serve_observe.proofs.gaps.without_in.Goals.{then-is_without+in-Some+in_ok-push, then-is_without+in_default, else-is_without}

pub loop-place-init : goal.loop-place-init
loop-place-init c = rw c.new-names.ensures.items (sym (none_left (names_of c.args.config.now.filters)))

pub loop-place-preserved : goal.loop-place-preserved
loop-place-preserved c =
    let names = names_of c.args.config.now.filters in
    let policies = c.args.policies.now in
    let place = c.loop-place.place in
    let d = c.index-policies-place.result in
    let within = c.loop-place-test.true in
    let so_far = c.loop-place.invariant in
    elim c.if-is_without.branch [
      | then-is_without+in-Some+in_ok-push w ↦ (
          let name = w.in-Some.name in
          let pushed : texts_view c.if-is_without.names.items ≡ texts_view c.loop-place.names.items ++ name.now ∷ [] =
          ap (λ v. texts_view v.items) w.names-is ∙ ap texts_view w.in_ok-push.ensures.items
          ∙ map-append (λ t. t.now) c.loop-place.names.items (name ∷ []) in
          let found : Some name.now ≡ slice_get names place = w.in-Some.ensures in
          let lacks : lacks_policies (option_map admitted_view (get_or policies place d)) ≡ true =
          rw (← c.index-policies-place.is) (sym w.if-is_without.ensures) in
          pushed ∙ ap (λ l. l ++ name.now ∷ []) so_far
          ∙ without_next names policies place d within name.now (sym found) lacks)
      | then-is_without+in_default w ↦
          rw w.names-is (so_far ∙ beyond_next names policies place d within (sym w.in_default.ensures))
      | else-is_without w ↦ (
          let has : lacks_policies (option_map admitted_view (get_or policies place d)) ≡ false =
          rw (← c.index-policies-place.is) (sym w.if-is_without.ensures) in
          rw w.names-is (so_far ∙ with_next names policies place d within has))
    ]
