-- Parts of a text stay as they are when the text grows.
use Rattle.std.proofs.Common.{◌≡◌, ℕ, ◌+◌, ◌-◌, ◌≤◌, List, [], ◌∷◌, ◌++◌, length, map, take, drop, refl, sym, ap, ap₂, ◌∙◌, arith, inl, inr, append_assoc, length-append}
use Rattle.std.proofs.lemmas.Bool.{cases_lt}
use Rattle.std.proofs.lemmas.List.{drop-append-le, drop-drop, drop-take, drop_at, length-map, take-append-drop, take-take, take_all, take_at, take_rest}
use Rattle.std.proofs.lemmas.List.Elements.{All-head, All-tail, All-weaker}
use Rattle.std.proofs.lemmas.Str.{IsUtf8-append, IsUtf8-from_ascii}
use Rattle.std.proofs.lemmas.Str.Ascii.{IsAscii-map, lowercase_ascii}
use Rattle.std.specs.Char.{to_ascii_lowercase}
use Rattle.std.specs.List.{slice_range}
use Rattle.std.specs.Str.{IsAscii, IsUtf8}
use Rattle.attributes.specs.Headers.{Entry}
use Rattle.attributes.specs.declared.headers.Field.{Field}
use Rattle.attributes.specs.declared.part.Part.{Part}
use Rattle.attributes.specs.private.Parts.{AreFields, Begins, IsAt, IsField, IsPart, entries_in, entry_in, part_of}

-- a part is what the bytes up to its end have from its start on
slice_is : (t : List ℕ) (a b : ℕ) → a ≤ b → slice_range t a b ≡ drop a (take b t)
slice_is t a b ordered =
    let whole : a + (b - a) ≡ b = omega (arith, ordered) in sym (rw whole at (drop-take a (b - a) t))

-- a text begins with itself
pub begins_itself : (t : List ℕ) → Begins t t
begins_itself t = take_all (length t) t (omega arith)

-- and with what was appended to
pub begins_append : (t u : List ℕ) → Begins t (t ++ u)
begins_append t u = take_at t u (length t) refl

pub longer : (t u : List ℕ) → Begins t u → length t ≤ length u
longer t u h = elim (cases_lt (length u) (length t)) [
  | inl less ↦
      let whole : take (length t) u ≡ u = take_all (length t) u (omega (arith, less)) in
      let same : length u ≡ length t = ap length (sym whole ∙ h) in
      omega (arith, same)
  | inr not ↦ not
]

pub begins_trans : (t u v : List ℕ) → Begins t u → Begins u v → Begins t v
begins_trans t u v h k =
    sym (take-take (length t) (length u) v (longer t u h)) ∙ ap (take (length t)) k ∙ h

-- what grew twice
pub begins_more : (t u v : List ℕ) → Begins t u → Begins t (u ++ v)
begins_more t u v h = begins_trans t u (u ++ v) h (begins_append u v)

module _ (t u : List ℕ) (grown : Begins t u) where
  -- a part is the same in the longer text
  pub slice_kept : (a b : ℕ) → a ≤ b → b ≤ length t → slice_range u a b ≡ slice_range t a b
  slice_kept a b ordered within =
      let same : take b u ≡ take b t =
      sym (take-take b (length t) u within) ∙ ap (take b) grown in
      slice_is u a b ordered ∙ ap (drop a) same ∙ sym (slice_is t a b ordered)

  pub part_kept : (p : Part) → IsPart t p → part_of u p ≡ part_of t p
  part_kept p h = slice_kept p.from p.to h.ordered h.within

  pub is_part_kept : (p : Part) → IsPart t p → IsPart u p
  is_part_kept p h =
      let long = longer t u grown in
      let fits = h.within in
      record {
        ordered = h.ordered;
        within = omega (arith, fits, long);
        utf8 = rw (part_kept p h) h.utf8;
      }

  pub entry_kept : (f : Field) → IsField t f → entry_in u f ≡ entry_in t f
  entry_kept f h =
      let make : List ℕ → List ℕ → Entry = λ name value. (name, value) in
      ap₂ make (part_kept f.name h.name) (part_kept f.value h.value)

  pub is_field_kept : (f : Field) → IsField t f → IsField u f
  is_field_kept f h = record {
    name = is_part_kept f.name h.name;
    value = is_part_kept f.value h.value;
  }

  pub are_fields_kept : (fs : List Field) → AreFields t fs → AreFields u fs
  are_fields_kept fs h = All-weaker (IsField t) (IsField u) is_field_kept fs h

  pub entries_kept : (fs : List Field) → AreFields t fs → entries_in u fs ≡ entries_in t fs
  entries_kept [] h = refl
  entries_kept (f ∷ fs) h =
      let make : Entry → List Entry → List Entry = λ e es. e ∷ es in
      ap₂ make (entry_kept f (All-head (IsField t) f fs h))
      (entries_kept fs (All-tail (IsField t) f fs h))

-- the end of a text as a part
pub at_end : (t u : List ℕ) (p : Part) → p.to ≡ length t → p.from ≤ length t → drop p.from t ≡ u
    → IsUtf8 u → IsAt t p u
at_end t u p ends fits last text =
    let same : part_of t p ≡ u =
    ap (λ n. slice_range t p.from n) ends ∙ take_rest t p.from ∙ last in
    record {
      part = record {
        ordered = omega (arith, ends, fits);
        within = omega (arith, ends);
        utf8 = rw same text;
      };
      same = same;
    }

-- what was appended last
pub at_appended : (t u : List ℕ) (p : Part) → p.from ≡ length t → p.to ≡ length (t ++ u)
    → IsUtf8 u → IsAt (t ++ u) p u
at_appended t u p starts ends text =
    let long = length-append t u in
    at_end (t ++ u) u p ends (omega (arith, starts, long)) (drop_at t u p.from (sym starts)) text

-- ASCII in lower case is a text
pub lowered_utf8 : (bytes : List ℕ) → IsAscii bytes → IsUtf8 (map to_ascii_lowercase bytes)
lowered_utf8 bytes ascii =
    IsUtf8-from_ascii _ (IsAscii-map to_ascii_lowercase bytes lowercase_ascii ascii)

module _ (t u more : List ℕ) (p : Part) (grown : Begins t u) (at : IsAt u p more)
    (starts : p.from ≡ length t) (ends : p.to ≡ length u) where
  -- the text before what was appended, and that in lower case
  pub lowered_end : take p.from u ++ map to_ascii_lowercase (drop p.from u)
      ≡ t ++ map to_ascii_lowercase more
  lowered_end =
      let front : take p.from u ≡ t = ap (λ n. take n u) starts ∙ grown in
      let back : drop p.from u ≡ more =
      sym (ap (λ n. slice_range u p.from n) ends ∙ take_rest u p.from) ∙ at.same in
      rw (front, back) refl

  pub lowered_at : IsAscii more
      → IsAt (t ++ map to_ascii_lowercase more) p (map to_ascii_lowercase more)
  lowered_at ascii =
      let whole : length (t ++ map to_ascii_lowercase more) ≡ length u =
      ap length (sym lowered_end) ∙ length-append (take p.from u) (map to_ascii_lowercase (drop p.from u))
      ∙ ap (λ n. length (take p.from u) + n) (length-map (drop p.from u) to_ascii_lowercase)
      ∙ sym (length-append (take p.from u) (drop p.from u)) ∙ ap length (take-append-drop p.from u) in
      at_appended t (map to_ascii_lowercase more) p starts (ends ∙ sym whole) (lowered_utf8 more ascii)

-- a comma as a text
comma_utf8 : IsUtf8 (44 ∷ [])
unfolding lib.Utf8.encode
comma_utf8 = (44 ∷ [], (refl, refl))

-- a value that ends a text, and one more with a comma between
pub joined_end : (t v w : List ℕ) (a : ℕ) → a ≤ length t → drop a t ≡ v
    → drop a ((t ++ 44 ∷ []) ++ w) ≡ v ++ 44 ∷ w
joined_end t v w a fits last =
    ap (drop a) (append_assoc t (44 ∷ []) w) ∙ drop-append-le a t (44 ∷ w) fits
    ∙ ap (λ front. front ++ 44 ∷ w) last

pub joined_utf8 : (v w : List ℕ) → IsUtf8 v → IsUtf8 w → IsUtf8 (v ++ 44 ∷ w)
joined_utf8 v w first second =
    IsUtf8-append v (44 ∷ w) first (IsUtf8-append (44 ∷ []) w comma_utf8 second)

-- a part of a part
pub slice_slice : (t : List ℕ) (a b c d : ℕ) → a ≤ b → c ≤ d → a + d ≤ b
    → slice_range (slice_range t a b) c d ≡ slice_range t (a + c) (a + d)
slice_slice t a b c d outer inner fits =
    let room : d ≤ b - a = omega (arith, outer, fits) in
    let less : (a + d) - (a + c) ≡ d - c = omega arith in
    slice_is (slice_range t a b) c d inner
    ∙ ap (drop c) (take-take d (b - a) (drop a t) room)
    ∙ sym (slice_is (drop a t) c d inner)
    ∙ ap (take (d - c)) (drop-drop c a t)
    ∙ ap (λ n. take n (drop (a + c) t)) (sym less)
