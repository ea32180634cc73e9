use Rattle.std.proofs.Common.{◌≡◌, ◌∙◌, ◌++◌, [], ◌∷◌, ap, sym}
use Rattle.std.proofs.lemmas.List.{map-append}
use Rattle.ads.specs.Config.{names_of}
use Rattle.xds_wire.specs.View.{extension_view, texts_view}
use Rattle.serve_observe.proofs.GapLemmas.{asked_next, unasked_next}
use Rattle.serve_observe.proofs.gaps.unasked_in.Goals as goal
use Rattle.serve_observe.proofs.gaps.unasked_in.Goals.{then-not-has_filter+in_ok-push, else-not-has_filter}

pub loop-place-preserved : goal.loop-place-preserved
loop-place-preserved c =
    let asked = names_of c.args.config.now.filters in
    let resources = c.args.resources.now in
    let place = c.loop-place.place in
    let names = texts_view c.loop-place.names.items in
    let extension = c.in_ok-extension.extension in
    let reads = c.in_ok-extension.ensures.found in
    let within = c.loop-place-test.true in
    let so_far = c.loop-place.invariant in
    elim c.if-not-has_filter.branch [
      | then-not-has_filter+in_ok-push w ↦ (
          let pushed : texts_view c.if-not-has_filter.names.items ≡ texts_view c.loop-place.names.items ++ extension.name.now ∷ [] =
          ap (λ v. texts_view v.items) w.names-is ∙ ap texts_view w.in_ok-push.ensures.items
          ∙ map-append (λ t. t.now) c.loop-place.names.items (extension.name ∷ []) in
          rw pushed (unasked_next asked resources place _ within names (extension_view extension) reads so_far
          (sym c.has_filter.ensures ∙ w.if-not-has_filter.true)))
      | else-not-has_filter w ↦
          rw w.names-is (asked_next asked resources place _ within names (extension_view extension) reads so_far
          (sym c.has_filter.ensures ∙ w.if-not-has_filter.false))
    ]
