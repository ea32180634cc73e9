-- Entries of map literals, as they are read.
use Rattle.std.proofs.Common.{◌≡◌, ◌≢◌, ◌++◌, inl, inr, ℕ, List, [], ◌∷◌, Bor, Some, None, MatchOption, refl}
use Rattle.std.specs.List.{AllZip}
use Rattle.proto_wire.specs.Fields.{Wire}
use Rattle.proto_wire.specs.Merge.{parts_view}
use Rattle.proto_wire.specs.declared.refusal.Refusal.{Refusal}
use Rattle.proto_wire.specs.declared.refusal.Refusal.TheVariants.{Missing, Unsupported}
use Rattle.proto_wire.specs.private.Values.{ValuesFault}
use Rattle.proto_wire.specs.Oneof.{last_number}
use Rattle.cel_tree.specs.Nodes.{entry_field, key_members, EntryLacks, EntryWrong, key_of_message, IsMapEntry}
use Rattle.cel_read.specs.private.EntryViews.{entry_node_view, entry_nodes_view}
use Rattle.cel_read.specs.declared.parsed.EntryNode.{EntryNode}

-- no key counts, or that of a message
pub key_bad : (fs : List Wire) (e : Refusal)
    → MatchOption (last_number key_members fs) (e ≡ Missing) (λ n. (n ≢ entry_field.map_key) × (e ≡ Unsupported))
    → ValuesFault EntryLacks EntryWrong fs e
key_bad fs e = elim (last_number key_members fs) as (λ o. last_number key_members fs ≡ o
    → MatchOption o (e ≡ Missing) (λ n. (n ≢ entry_field.map_key) × (e ≡ Unsupported))
    → ValuesFault EntryLacks EntryWrong fs e) [
      | None ↦ λ none missing. inl (inl none, missing)
      | Some n ↦ λ last bad. inr (key_of_message n last bad.0 bad.1)
    ] refl

-- one entry more
pub entries_push : (payloads : List (Bor (List ℕ))) (es : List EntryNode) (payload : Bor (List ℕ)) (e : EntryNode)
    → AllZip IsMapEntry (parts_view payloads) (entry_nodes_view es) → IsMapEntry payload.now (entry_node_view e)
    → AllZip IsMapEntry (parts_view (payloads ++ payload ∷ [])) (entry_nodes_view (es ++ e ∷ []))
entries_push [] [] payload e are is = (is, tt)
entries_push [] (x ∷ es) payload e are is = absurd are
entries_push (p ∷ payloads) [] payload e are is = absurd are
entries_push (p ∷ payloads) (x ∷ es) payload e are is = (are.0, entries_push payloads es payload e are.1 is)
