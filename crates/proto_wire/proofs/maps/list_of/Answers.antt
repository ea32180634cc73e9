use Rattle.std.proofs.Common.{◌≡◌, [], ◌∷◌, ◌++◌, arith, sym, ap, ◌∙◌}
use Rattle.std.proofs.lemmas.List.{append-nil, append_assoc, nil_from_length}
use Rattle.std.proofs.lemmas.Grind.{common_steps}
use Rattle.proto_wire.proofs.maps.list_of.Goals as goal

pub loop-entry-preserved : goal.loop-entry-preserved
loop-entry-preserved g c =
    let rest = c.pop_first.new.self.entries in
    c.loop-entry.invariant
    ∙ ap (λ xs. c.loop-entry.list.items ++ xs) c.in-Some.ensures.removal
    ∙ sym (append_assoc c.loop-entry.list.items (c.in-Some.entry ∷ []) rest)
    ∙ ap (λ xs. xs ++ rest) (sym c.in_ok-push.ensures.items)

pub returns : goal.returns
returns g c =
    let none : c.loop-entry.map.entries ≡ [] = nil_from_length _ (grind (arith, common_steps)) in
    sym (c.loop-entry.invariant ∙ ap (λ xs. c.loop-entry.list.items ++ xs) none
    ∙ append-nil c.loop-entry.list.items)
