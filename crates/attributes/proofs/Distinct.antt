-- Sorted fields of which no two neighbours have one name are the headers of their entries.
use Rattle.std.proofs.Common.{◌≡◌, ◌∙◌, ℕ, ◌+◌, ◌<◌, false, List, [], ◌∷◌, ◌++◌, length, take, get_or, sym, ap, arith}
use Rattle.std.proofs.lemmas.List.{get_or_default, map-append, take_all, take_more}
use Rattle.std.specs.FinMap.{entries}
use Rattle.std.specs.Str.{bytes_eq}
use Rattle.attributes.specs.Headers.{headers_of}
use Rattle.attributes.specs.declared.headers.Field.{Field}
use Rattle.attributes.specs.private.Headers.{AreSorted}
use Rattle.attributes.specs.private.Parts.{IsNext, entries_in, entry_in, part_of}
use Rattle.attributes.proofs.JoinSteps.{next_at, next_entries, with_last}
use Rattle.attributes.proofs.Neighbours.{headers_one}

module _ (t : List ℕ) (first : Field) (others : List Field) where
  abbrev whole : List Field
  whole = first ∷ others

  -- the fields up to this one, at index i, are the headers of their entries
  abbrev pub AreJoinedTo : ℕ → Field → Type 0
  AreJoinedTo i last = with_last t (take i whole) last
      ≡ entries (headers_of (with_last t (take i whole) last))

  pub first_joined : AreJoinedTo 0 first
  first_joined = headers_one (entry_in t first)

  pub next_joined : (i : ℕ) (d last : Field) → i < length others → last ≡ get_or whole i last
      → AreSorted (entries_in t whole)
      → bytes_eq (part_of t (get_or others i d).name) (part_of t last.name) ≡ false
      → AreJoinedTo i last → AreJoinedTo (i + 1) (get_or others i d)
  next_joined i d last below there sorted differ so_far =
      let next : Field = get_or others i d in
      let held : List Field = take i whole in
      let same : get_or others i last ≡ next = get_or_default others i last d below in
      let follows : IsNext (entry_in t last) (entry_in t next) =
      rw (← there, same) at (next_at t first others i last sorted below) in
      let grown : take (i + 1) whole ≡ held ++ last ∷ [] =
      take_more whole i last (omega (arith, below)) ∙ ap (λ f. held ++ f ∷ []) (sym there) in
      let more : with_last t (held ++ last ∷ []) next ≡ with_last t held last ++ entry_in t next ∷ [] =
      ap (λ es. es ++ entry_in t next ∷ []) (map-append (entry_in t) held (last ∷ [])) in
      rw grown (next_entries t held last next follows differ (with_last t held last) so_far
      ∙ ap (λ es. entries (headers_of es)) (sym more))

  pub all_joined : (n : ℕ) (last : Field) → n ≡ length others → last ≡ get_or whole n last
      → AreJoinedTo n last → entries_in t whole ≡ entries (headers_of (entries_in t whole))
  all_joined n last count there so_far =
      let grown : take (n + 1) whole ≡ take n whole ++ last ∷ [] =
      take_more whole n last (omega (arith, count)) ∙ ap (λ f. take n whole ++ f ∷ []) (sym there) in
      let all : take n whole ++ last ∷ [] ≡ whole =
      sym grown ∙ take_all (n + 1) whole (omega (arith, count)) in
      let same : with_last t (take n whole) last ≡ entries_in t whole =
      sym (map-append (entry_in t) (take n whole) (last ∷ [])) ∙ ap (entries_in t) all in
      rw same at so_far
