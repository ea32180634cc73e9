-- A draft stays one when its text grows, and when a field is added.
use Rattle.std.proofs.Common.{◌≡◌, ℕ, List, [], ◌∷◌, ◌++◌, length, codes, Result, Ok, Err, MatchResult, OnOk, refl, sym, ap, ap₂, ◌∙◌, lit≤, append_assoc}
use Rattle.std.proofs.lemmas.List.{map-append, take_rest}
use Rattle.std.proofs.lemmas.List.Elements.{All-push}
use Rattle.std.specs.List.{slice_range}
use Rattle.std.specs.Str.{IsUtf8}
use Rattle.attributes.specs.Draft.{DraftValue, with_entries, with_entry}
use Rattle.attributes.specs.Headers.{Entry}
use Rattle.attributes.specs.declared.headers.Field.{Field}
use Rattle.attributes.specs.declared.part.Part.{Part}
use Rattle.attributes.specs.private.Drafts.{IsAdded, IsDraft, draft_in, own_entries, own_names}
use Rattle.attributes.specs.private.Parts.{AreFields, Begins, IsAt, IsField, IsPart, entries_in, entry_in, part_of}
use Rattle.attributes.proofs.Parts.{are_fields_kept, begins_itself, begins_trans, entries_kept, is_part_kept, part_kept}

module _ (t u : List ℕ) (fs : List Field) (m p : Part) (held : IsDraft t fs m p)
    (grown : Begins t u) where
  -- the same draft in a longer text
  pub draft_more : IsDraft u fs m p
  draft_more = record {
    names = begins_trans own_names t u held.names grown;
    fields = are_fields_kept t u grown fs held.fields;
    method = is_part_kept t u grown m held.method;
    target = is_part_kept t u grown p held.target;
  }

  abbrev make : List ℕ → List ℕ → List Entry → DraftValue
  make method target entries = record { method = method; target = target; entries = entries }

  module _ (gs : List Field) (e : Entry) (added : IsAdded u fs gs e) where
    -- a draft with one field more
    pub draft_added : IsDraft u gs m p
    draft_added = record {
      names = draft_more.names;
      fields = rw added.1 (All-push (IsField u) fs added.0 draft_more.fields added.2);
      method = draft_more.method;
      target = draft_more.target;
    }

    entries_added : entries_in u gs ≡ entries_in t fs ++ e ∷ []
    entries_added =
        let push : List Entry → Entry → List Entry = λ es d. es ++ d ∷ [] in
        ap (entries_in u) added.1 ∙ map-append (entry_in u) fs (added.0 ∷ [])
        ∙ ap₂ push (entries_kept t u grown fs held.fields) added.3

    pub value_added : draft_in u gs m p ≡ with_entry (draft_in t fs m p) e
    value_added =
        ap (λ n. make n (part_of u p) (entries_in u gs)) (part_kept t u grown m held.method)
        ∙ ap (λ n. make (part_of t m) n (entries_in u gs)) (part_kept t u grown p held.target)
        ∙ ap (λ es. make (part_of t m) (part_of t p) es) entries_added

-- a known name is a part of every text that begins with the known names
own_part : (t bytes : List ℕ) (p : Part) → Begins own_names t → IsAt own_names p bytes
    → IsAt t p bytes
own_part t bytes p begins h = record {
  part = is_part_kept own_names t begins p h.part;
  same = part_kept own_names t begins p h.part ∙ h.same;
}

module _ (t : List ℕ) (begins : Begins own_names t) where
  authority_utf8 : IsUtf8 (codes ":authority")
  unfolding lib.Utf8.encode
  authority_utf8 = (codes ":authority", (refl, refl))

  method_utf8 : IsUtf8 (codes ":method")
  unfolding lib.Utf8.encode
  method_utf8 = (codes ":method", (refl, refl))

  path_utf8 : IsUtf8 (codes ":path")
  unfolding lib.Utf8.encode
  path_utf8 = (codes ":path", (refl, refl))

  scheme_utf8 : IsUtf8 (codes ":scheme")
  unfolding lib.Utf8.encode
  scheme_utf8 = (codes ":scheme", (refl, refl))

  pub authority_at : IsAt t (record { from = 0; to = 10 }) (codes ":authority")
  authority_at = own_part t (codes ":authority") (record { from = 0; to = 10 }) begins (record {
    part = record { ordered = lit≤ tt; within = lit≤ tt; utf8 = authority_utf8 };
    same = refl;
  })

  pub method_at : IsAt t (record { from = 10; to = 17 }) (codes ":method")
  method_at = own_part t (codes ":method") (record { from = 10; to = 17 }) begins (record {
    part = record { ordered = lit≤ tt; within = lit≤ tt; utf8 = method_utf8 };
    same = refl;
  })

  pub path_at : IsAt t (record { from = 17; to = 22 }) (codes ":path")
  path_at = own_part t (codes ":path") (record { from = 17; to = 22 }) begins (record {
    part = record { ordered = lit≤ tt; within = lit≤ tt; utf8 = path_utf8 };
    same = refl;
  })

  pub scheme_at : IsAt t (record { from = 22; to = 29 }) (codes ":scheme")
  scheme_at = own_part t (codes ":scheme") (record { from = 22; to = 29 }) begins (record {
    part = record { ordered = lit≤ tt; within = lit≤ tt; utf8 = scheme_utf8 };
    same = refl;
  })

-- a text that is one part
pub begins_whole : (t names : List ℕ) (p : Part) → p.from ≡ 0 → p.to ≡ length t
    → IsAt t p names → Begins names t
begins_whole t names p starts ends h =
    let whole : t ≡ names =
    sym (take_rest t 0) ∙ sym (ap (λ n. slice_range t n (length t)) starts)
    ∙ sym (ap (λ n. slice_range t p.from n) ends) ∙ h.same in
    rw whole (begins_itself names)

-- a field with this name and this value
pub is_field_at : (t name value : List ℕ) (f : Field) → IsAt t f.name name → IsAt t f.value value
    → IsField t f × (entry_in t f ≡ (name, value))
is_field_at t name value f named valued =
    let pair : List ℕ → List ℕ → Entry = λ n v. (n, v) in
    (record { name = named.part; value = valued.part }, ap₂ pair named.same valued.same)

-- a part with known bytes, in a longer text
pub at_kept : (t u : List ℕ) (p : Part) → Begins t u → IsPart t p → IsAt u p (part_of t p)
at_kept t u p grown h = record {
  part = is_part_kept t u grown p h;
  same = part_kept t u grown p h;
}

-- one field more, by its name and its value
push_entry : (u : List ℕ) (fs : List Field) (f : Field) (es : List Entry) (e : Entry)
    → entries_in u fs ≡ es → entry_in u f ≡ e → entries_in u (fs ++ f ∷ []) ≡ es ++ e ∷ []
push_entry u fs f es e before last =
    let push : List Entry → Entry → List Entry = λ ds d. ds ++ d ∷ [] in
    map-append (entry_in u) fs (f ∷ []) ∙ ap₂ push before last

module _ (t u : List ℕ) (fs : List Field) (m p s : Part) (scheme : List ℕ)
    (names : Begins own_names t) (fields : AreFields t fs) (method : IsPart t m)
    (target : IsPart t p) (grown : Begins t u) (at : IsAt u s scheme) (f g h : Field)
    (first : (f.name ≡ record { from = 10; to = 17 }) × (f.value ≡ m))
    (second : (g.name ≡ record { from = 17; to = 22 }) × (g.value ≡ p))
    (third : (h.name ≡ record { from = 22; to = 29 }) × (h.value ≡ s)) where
  longer_names : Begins own_names u
  longer_names = begins_trans own_names t u names grown

  one : IsField u f × (entry_in u f ≡ (codes ":method", part_of t m))
  one = is_field_at u (codes ":method") (part_of t m) f (rw first.0 (method_at u longer_names))
      (rw first.1 (at_kept t u m grown method))

  two : IsField u g × (entry_in u g ≡ (codes ":path", part_of t p))
  two = is_field_at u (codes ":path") (part_of t p) g (rw second.0 (path_at u longer_names))
      (rw second.1 (at_kept t u p grown target))

  three : IsField u h × (entry_in u h ≡ (codes ":scheme", scheme))
  three = is_field_at u (codes ":scheme") scheme h (rw third.0 (scheme_at u longer_names))
      (rw third.1 at)

  -- the pseudo-headers as fields
  pub own_fields : AreFields u (((fs ++ f ∷ []) ++ g ∷ []) ++ h ∷ [])
  own_fields = All-push (IsField u) ((fs ++ f ∷ []) ++ g ∷ []) h
      (All-push (IsField u) (fs ++ f ∷ []) g
      (All-push (IsField u) fs f (are_fields_kept t u grown fs fields) one.0) two.0) three.0

  pub own_fields_are : entries_in u (((fs ++ f ∷ []) ++ g ∷ []) ++ h ∷ [])
      ≡ entries_in t fs ++ own_entries (part_of t m) (part_of t p) scheme
  own_fields_are =
      push_entry u _ h _ _ (push_entry u _ g _ _
      (push_entry u fs f _ _ (entries_kept t u grown fs fields) one.1) two.1) three.1
      ∙ simp append_assoc

module _ (t u : List ℕ) (fs gs : List Field) (m p : Part) (e : Entry) (held : IsDraft t fs m p)
    (grown : Begins t u) {E : Type 0} where
  -- what a draft is, whether the field was added or not
  pub draft_either : (r : Result (Unit {0}) E)
      → MatchResult r (λ done. IsAdded u fs gs e) (λ error. gs ≡ fs) → IsDraft u gs m p
  draft_either (Ok done) added = draft_added t u fs m p held grown gs e added
  draft_either (Err error) same = rw same (draft_more t u fs m p held grown)

  pub value_either : (r : Result (Unit {0}) E)
      → MatchResult r (λ done. IsAdded u fs gs e) (λ error. gs ≡ fs)
      → OnOk r (draft_in u gs m p ≡ with_entry (draft_in t fs m p) e)
  value_either (Ok done) added = value_added t u fs m p held grown gs e added
  value_either (Err error) same = tt

-- one entry more after others
pub entries_then : (d : DraftValue) (es : List Entry) (e : Entry)
    → with_entry (with_entries d es) e ≡ with_entries d (es ++ e ∷ [])
entries_then d es e =
    let make : List Entry → DraftValue =
    λ all. record { method = d.method; target = d.target; entries = all } in
    ap make (append_assoc d.entries es (e ∷ []))
