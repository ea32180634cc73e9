use Rattle.std.proofs.Common.{◌≡◌, ◌∙◌, ◌++◌, [], ◌∷◌, ap}
use Rattle.serve_observe.proofs.Places.{given_next, none_next}
use Rattle.serve_observe.proofs.responses.places_of.Goals as goal
use Rattle.serve_observe.proofs.responses.places_of.Goals.{then-is_given+in_ok-push, else-is_given}

pub loop-place-preserved : goal.loop-place-preserved
loop-place-preserved c =
    let given = c.args.given.now in
    let place = c.loop-place.place in
    let so_far = c.loop-place.places.items in
    elim c.if-is_given.branch [
      | then-is_given+in_ok-push w ↦
          let pushed : c.if-is_given.places.items ≡ so_far ++ place ∷ [] =
          ap (λ v. v.items) w.places-is ∙ w.in_ok-push.ensures.items in
          pushed ∙ given_next given place _ c.loop-place-test.true w.if-is_given.true so_far c.loop-place.invariant
      | else-is_given w ↦
          rw w.places-is (none_next given place _ c.loop-place-test.true w.if-is_given.false so_far c.loop-place.invariant)
    ]
