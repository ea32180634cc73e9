-- One field more is joined to the last one, or follows it.
use Rattle.std.proofs.Common.{◌≡◌, ℕ, ◌+◌, ◌<◌, false, List, [], ◌∷◌, ◌++◌, length, take, get_or, sym, ap, ap₂, ◌∙◌, arith, suc, zero, append_assoc}
use Rattle.std.proofs.lemmas.List.{get_or_default, map-append, take_more}
use Rattle.std.specs.FinMap.{entries}
use Rattle.std.specs.Str.{bytes_eq}
use Rattle.attributes.specs.Headers.{Entry, headers_of}
use Rattle.attributes.specs.declared.headers.Field.{Field}
use Rattle.attributes.specs.private.Headers.{AreSorted}
use Rattle.attributes.specs.private.Parts.{AreFields, Begins, IsAt, IsField, IsNext, entries_in, entry_in, part_of}
use Rattle.attributes.proofs.Neighbours.{headers_next, headers_same}
use Rattle.attributes.proofs.Parts.{entries_kept, entry_kept, is_field_kept, is_part_kept, part_kept}
use Rattle.attributes.proofs.TextOrder.{before_from_not}

-- the headers with the last one apart
abbrev pub with_last : List ℕ → List Field → Field → List Entry
with_last t held last = entries_in t held ++ entry_in t last ∷ []

module _ (t u : List ℕ) (grown : Begins t u) (held : List Field) (last next f : Field)
    (parts : AreFields t held) (last_in : IsField t last)
    (same : part_of t next.name ≡ part_of t last.name) (named : f.name ≡ last.name)
    (value : IsAt u f.value (part_of t last.value ++ 44 ∷ part_of t next.value)) where
  name_kept : part_of u f.name ≡ part_of t last.name
  name_kept = ap (part_of u) named ∙ part_kept t u grown last.name last_in.name

  -- the field with the joined value has the next one's name
  pub joined_name : part_of u f.name ≡ part_of t next.name
  joined_name = name_kept ∙ sym same

  pub joined_field : IsField u f
  joined_field = record {
    name = rw named (is_part_kept t u grown last.name last_in.name);
    value = value.part;
  }

  pub joined_entries : (es : List Entry) → with_last t held last ≡ entries (headers_of es)
      → with_last u held f ≡ entries (headers_of (es ++ entry_in t next ∷ []))
  joined_entries es so_far =
      let pair : List ℕ → List ℕ → Entry = λ n v. (n, v) in
      let join : List Entry → Entry → List Entry = λ xs e. xs ++ e ∷ [] in
      let entry : entry_in u f
      ≡ (part_of t last.name, part_of t last.value ++ 44 ∷ part_of t next.value) =
      ap₂ pair name_kept value.same in
      ap₂ join (entries_kept t u grown held parts) entry
      ∙ headers_same es (entries_in t held) (part_of t last.name) (part_of t last.value) so_far
      (part_of t next.value)
      ∙ ap (λ n. entries (headers_of (es ++ (n, part_of t next.value) ∷ []))) (sym same)

-- a field of another name follows the last one
pub next_entries : (t : List ℕ) (held : List Field) (last next : Field)
    → IsNext (entry_in t last) (entry_in t next)
    → bytes_eq (part_of t next.name) (part_of t last.name) ≡ false
    → (es : List Entry) → with_last t held last ≡ entries (headers_of es)
    → with_last t (held ++ last ∷ []) next ≡ entries (headers_of (es ++ entry_in t next ∷ []))
next_entries t held last next follows differ es so_far =
    ap (λ xs. xs ++ entry_in t next ∷ []) (map-append (entry_in t) held (last ∷ []))
    ∙ headers_next es (entries_in t held) (part_of t last.name) (part_of t last.value) so_far
    (entry_in t next) (before_from_not (part_of t last.name) (part_of t next.name) follows differ)

-- of sorted fields, each follows the one before
pub next_at : (t : List ℕ) (last : Field) (fs : List Field) (i : ℕ) (d : Field)
    → AreSorted (entries_in t (last ∷ fs)) → i < length fs
    → IsNext (entry_in t (get_or (last ∷ fs) i d)) (entry_in t (get_or fs i d))
next_at t last [] i d sorted below = absurd (omega arith)
next_at t last (f ∷ fs) zero d sorted below = sorted.0
next_at t last (f ∷ fs) (suc i) d sorted below = next_at t f fs i d sorted.1 (omega arith)

-- the entries with one more of them
pub entries_one_more : (t : List ℕ) (es : List Entry) (fs : List Field) (i : ℕ) (d : Field)
    → i < length fs
    → es ++ entries_in t (take (i + 1) fs)
    ≡ (es ++ entries_in t (take i fs)) ++ entry_in t (get_or fs i d) ∷ []
entries_one_more t es fs i d below =
    ap (λ xs. es ++ entries_in t xs) (take_more fs i d below)
    ∙ ap (λ xs. es ++ xs) (map-append (entry_in t) (take i fs) (get_or fs i d ∷ []))
    ∙ sym (append_assoc es (entries_in t (take i fs)) (entry_in t (get_or fs i d) ∷ []))

module _ (t u : List ℕ) (grown : Begins t u) (last : Field) (others : List Field)
    (held : AreFields t others) (i : ℕ) (d : Field) (below : i < length others) where
  here : IsField t (get_or others i d)
  here = held i d below

  -- the next of the other fields is one in the longer text too
  pub other_kept : IsField u (get_or others i d)
  other_kept = is_field_kept t u grown (get_or others i d) here

  name_same : part_of u (get_or others i d).name ≡ part_of t (get_or others i d).name
  name_same = part_kept t u grown (get_or others i d).name here.name

  -- it follows the last one, which has the name of the one before it
  pub other_follows : AreSorted (entries_in t (last ∷ others)) → (f : Field)
      → part_of u f.name ≡ part_of t (get_or (last ∷ others) i last).name
      → IsNext (entry_in u f) (entry_in u (get_or others i d))
  other_follows sorted f named =
      let same : get_or others i last ≡ get_or others i d = get_or_default others i last d below in
      rw (name_same, named) (rw same at (next_at t last others i last sorted below))

  -- and the one after it has its name before
  pub other_named : part_of u (get_or others i d).name
      ≡ part_of t (get_or (last ∷ others) (i + 1) last).name
  other_named =
      let next : i + 1 ≡ suc i = omega arith in
      name_same ∙ rw next (ap (λ (f : Field). part_of t f.name) (get_or_default others i d last below))

  -- the entries so far with its own
  pub other_more : (es : List Entry)
      → (es ++ entries_in t (take i others)) ++ entry_in u (get_or others i d) ∷ []
      ≡ es ++ entries_in t (take (i + 1) others)
  other_more es =
      ap (λ e. (es ++ entries_in t (take i others)) ++ e ∷ [])
      (entry_kept t u grown (get_or others i d) here)
      ∙ sym (entries_one_more t es others i d below)
