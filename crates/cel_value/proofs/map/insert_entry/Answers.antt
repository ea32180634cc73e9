use Rattle.std.proofs.Common.{◌∷◌, ◌++◌, rules, refl, sym, ap, ◌∙◌, take, drop}
use Rattle.std.proofs.lemmas.Option.{none-some}
use Rattle.cel_value.specs.Keys.{get, put, IsAscending}
use Rattle.cel_value.specs.View.{entries_view, key_view, value_view}
use Rattle.cel_value.proofs.MapSearching.{entry_found, entry_absent, entry_placed}
use Rattle.cel_value.proofs.map.insert_entry.Goals as goal

pub returns-in-Ok-clause-found : goal.returns-in-Ok-clause-found
returns-in-Ok-clause-found c =
    let up : IsAscending (entries_view c.deref.result.now) = rw c.deref.ensures.value c.requires in
    let found = entry_found (key_view c.args.key) (λ a r f' k. search rules) c.deref.result.now _
    (c.args.key, c.args.value) up c.in-Ok.ensures.bound c.in-Ok.ensures.position in (
      λ none. none-some _ (sym none
          ∙ ap (λ es. get (entries_view es) (key_view c.args.key)) (sym c.deref.ensures.value)
          ∙ found),
      refl,
    )

pub returns-in_ok-insert-in-Err-clause-found : goal.returns-in_ok-insert-in-Err-clause-found
returns-in_ok-insert-in-Err-clause-found c =
    let up : IsAscending (entries_view c.deref.result.now) = rw c.deref.ensures.value c.requires in
    let absent = entry_absent (key_view c.args.key) (λ a r f' k. search rules) c.deref.result.now _
    up c.in-Err.ensures.position in
    let placed = entry_placed (key_view c.args.key) (λ a r f' k. search rules)
    (c.args.key, c.args.value) c.deref.result.now c.in-Err.place refl c.in-Err.ensures.bound up
    c.in-Err.ensures.position in (
      ap (λ es. get (entries_view es) (key_view c.args.key)) (sym c.deref.ensures.value) ∙ absent,
      ap entries_view c.in_ok-insert-in-Err.ensures.items
          ∙ ap (λ es. entries_view (take c.in-Err.place es ++
          (c.args.key, c.args.value) ∷ drop c.in-Err.place es))
          (sym c.deref.ensures.value)
          ∙ placed
          ∙ ap (λ es. put (key_view c.args.key) (value_view c.args.value)
          (entries_view es)) c.deref.ensures.value,
    )
