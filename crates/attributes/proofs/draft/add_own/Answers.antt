-- The text has the names of the pseudo-headers, and their values.
use Rattle.std.proofs.Common.{◌≡◌, ◌∙◌, List, [], ◌∷◌, ◌++◌, ap}
use Rattle.attributes.specs.declared.headers.Field.{Field}
use Rattle.attributes.specs.private.Drafts.{own_names}
use Rattle.attributes.proofs.Drafts.{method_at, own_fields, own_fields_are, path_at, scheme_at}
use Rattle.attributes.proofs.Parts.{begins_trans}
use Rattle.attributes.proofs.draft.add_own.Goals as goal

pub field_of-requires : goal.field_of-requires
field_of-requires c =
    rw c.as_slice-text.ensures.value (method_at c.append.new.text.items
    (begins_trans own_names c.args.text.now.items c.append.new.text.items c.requires.names
    c.in_ok-scheme.ensures.grown)).part

pub field_of-requires-2 : goal.field_of-requires-2
field_of-requires-2 c =
    rw c.as_slice-text.ensures.value (path_at c.append.new.text.items
    (begins_trans own_names c.args.text.now.items c.append.new.text.items c.requires.names
    c.in_ok-scheme.ensures.grown)).part

pub field_of-requires-3 : goal.field_of-requires-3
field_of-requires-3 c =
    rw c.as_slice-text.ensures.value (scheme_at c.append.new.text.items
    (begins_trans own_names c.args.text.now.items c.append.new.text.items c.requires.names
    c.in_ok-scheme.ensures.grown)).part

pub returns-clause-parts : goal.returns-clause-parts
returns-clause-parts c =
    let f = c.field_of.result in
    let g = c.field_of-2.result in
    let h = c.field_of-3.result in
    let whole : c.push-3.new.self.items
    ≡ ((c.args.fields.now.items ++ f ∷ []) ++ g ∷ []) ++ h ∷ [] =
    c.in_ok-push-3.ensures.items ∙ ap (λ (xs : List Field). xs ++ h ∷ [])
    (c.in_ok-push-2.ensures.items ∙ ap (λ (xs : List Field). xs ++ g ∷ [])
    c.in_ok-push.ensures.items) in
    rw whole (own_fields c.args.text.now.items c.append.new.text.items c.args.fields.now.items
    c.args.method c.args.target c.in_ok-scheme.scheme c.args.scheme.now c.requires.names
    c.requires.fields c.requires.method c.requires.target c.in_ok-scheme.ensures.grown
    c.in_ok-scheme.ensures.part c.field_of.result c.field_of-2.result c.field_of-3.result
    (c.field_of.ensures.name, c.field_of.ensures.value)
    (c.field_of-2.ensures.name, c.field_of-2.ensures.value)
    (c.field_of-3.ensures.name, c.field_of-3.ensures.value))

pub returns-clause-entries : goal.returns-clause-entries
returns-clause-entries c =
    let f = c.field_of.result in
    let g = c.field_of-2.result in
    let h = c.field_of-3.result in
    let whole : c.push-3.new.self.items
    ≡ ((c.args.fields.now.items ++ f ∷ []) ++ g ∷ []) ++ h ∷ [] =
    c.in_ok-push-3.ensures.items ∙ ap (λ (xs : List Field). xs ++ h ∷ [])
    (c.in_ok-push-2.ensures.items ∙ ap (λ (xs : List Field). xs ++ g ∷ [])
    c.in_ok-push.ensures.items) in
    rw whole (own_fields_are c.args.text.now.items c.append.new.text.items c.args.fields.now.items
    c.args.method c.args.target c.in_ok-scheme.scheme c.args.scheme.now c.requires.names
    c.requires.fields c.requires.method c.requires.target c.in_ok-scheme.ensures.grown
    c.in_ok-scheme.ensures.part c.field_of.result c.field_of-2.result c.field_of-3.result
    (c.field_of.ensures.name, c.field_of.ensures.value)
    (c.field_of-2.ensures.name, c.field_of-2.ensures.value)
    (c.field_of-3.ensures.name, c.field_of-3.ensures.value))
