use Rattle.std.proofs.Common.{ℕ, List, [], ◌∷◌, map}
use Rattle.std.proofs.lemmas.Result.{MatchResult-weaker}
use Rattle.proto_wire.specs.Fields.{Wire, field_view}
use Rattle.proto_wire.specs.Messages.{IsMessage}
use Rattle.cel_tree.specs.Nodes.{entry_keys, EntryLacks, EntryWrong}
use Rattle.proto_wire.proofs.Readers.{read_fault}
use Rattle.cel_read.proofs.literals.read_entry.Goals as goal

pub returns-clause-found : goal.returns-clause-found
returns-clause-found c =
    let parts : List (List ℕ) = c.args.payload.now ∷ [] in
    let fs : List Wire = map field_view c.in_ok-fields.fields.items in
    let message : IsMessage entry_keys parts fs = c.in_ok-fields.ensures.found in
    MatchResult-weaker c.entry_of.result (rw c.deref.ensures at c.entry_of.ensures.found)
    (λ entry says. (fs, message, says)) (λ _ _. tt)

pub returns-clause-fault : goal.returns-clause-fault
returns-clause-fault c =
    let parts : List (List ℕ) = c.args.payload.now ∷ [] in
    let fs : List Wire = map field_view c.in_ok-fields.fields.items in
    let message : IsMessage entry_keys parts fs = c.in_ok-fields.ensures.found in
    read_fault entry_keys EntryLacks EntryWrong parts fs message c.entry_of.result
    (rw c.deref.ensures at c.entry_of.ensures.fault)
