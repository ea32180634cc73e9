-- The run of a oneof's last member: what one field more changes, and which fields are in it.
use Rattle.std.proofs.Common.{◌≡◌, ◌==◌, ◌&&◌, ℕ, Bool, true, false, cond, List, [], ◌∷◌, ◌++◌, map, take, get_or, length, ◌<◌, ◌+◌, refl, sym, ap, ◌∙◌, inl, inr}
use Rattle.std.specs.List.{filter, list_all}
use Rattle.std.proofs.lemmas.Bool.{and_parts, eqb-true, eqb-false, eq-eqb, ne_eqb, cases_Bool}
use Rattle.std.proofs.lemmas.List.{append-nil, map_more}
use Rattle.std.proofs.lemmas.List.Elements.{filter-append}
use Rattle.std.proofs.lemmas.List.Folds.{list_all-append}
use Rattle.proto_wire.specs.Fields.{Wire, field_view}
use Rattle.proto_wire.specs.Values.{last_of}
use Rattle.proto_wire.specs.Keys.{is_known, AllKnown}
use Rattle.proto_wire.specs.Oneof.{last_member, trailing_run, member_run}
use Rattle.proto_wire.specs.private.Run.{run_with}
use Rattle.proto_wire.specs.declared.field.Field.{Field}
use Rattle.proto_wire.specs.declared.key.Key.{Key}

-- ---- the run of a oneof's last member

abbrev HasNumber : ℕ → Wire → Bool
HasNumber k f = f.number == k

-- fields of one number are a run
uniform_run : (k : ℕ) (fs : List Wire) → list_all (HasNumber k) fs ≡ true → trailing_run fs ≡ fs
uniform_run k [] same = refl
uniform_run k (f ∷ fs) same =
    let both = and_parts (HasNumber k f) (list_all (HasNumber k) fs) same in
    let e : f.number ≡ k = eqb-true f.number k both.0 in
    let all : list_all (HasNumber f.number) fs ≡ true = rw e both.1 in
    rw all refl

-- a run that another number ends
run_ends : (k : ℕ) (fs : List Wire) (f : Wire) → list_all (HasNumber k) fs ≡ true
    → (k == f.number) ≡ false → run_with fs f ≡ f ∷ []
run_ends k [] f same other = refl
run_ends k (h ∷ hs) f same other =
    let both = and_parts (HasNumber k h) (list_all (HasNumber k) hs) same in
    let e : h.number ≡ k = eqb-true h.number k both.0 in
    rw (e, other) refl

number_swap : (n m : ℕ) → (n == m) ≡ (m == n)
number_swap n m =
    elim (cases_Bool (m == n)) [
      | inl same ↦ eq-eqb n m (sym (eqb-true m n same)) ∙ sym same
      | inr other ↦ ne_eqb n m (λ e. eqb-false m n other (sym e)) ∙ sym other
    ]

-- one case of two
either_case : {A : Type 0} (b : Bool) (x y z : A) → (b ≡ false → y ≡ z)
    → cond (true && (b && true)) x y ≡ cond b x z
either_case true x y z e = refl
either_case false x y z e = e refl

-- one field more behind the others
pub run_more : (fs : List Wire) (f : Wire)
    → trailing_run (fs ++ f ∷ []) ≡ run_with (trailing_run fs) f
run_more [] f = refl
run_more (g ∷ fs) f =
    let joined = list_all-append (HasNumber g.number) fs (f ∷ []) in
    elim (cases_Bool (list_all (HasNumber g.number) fs)) [
      | inl same ↦
          let ends = λ (other : (g.number == f.number) ≡ false).
          run_more fs f ∙ ap (λ r. run_with r f) (uniform_run g.number fs same)
          ∙ run_ends g.number fs f same other in
          rw (joined, same, number_swap f.number g.number)
          (either_case (g.number == f.number) (g ∷ (fs ++ f ∷ [])) (trailing_run (fs ++ f ∷ []))
          (f ∷ []) ends)
      | inr other ↦ rw (joined, other) (run_more fs f)
    ]

-- the known fields at the next field, which is known
pub known_some : (keys : List Key) (fields : List Field) (i : ℕ) (d : Field) → i < length fields
    → is_known keys (field_view (get_or fields i d)) ≡ true
    → filter (is_known keys) (map field_view (take (i + 1) fields))
    ≡ filter (is_known keys) (map field_view (take i fields)) ++ field_view (get_or fields i d) ∷ []
known_some keys fields i d within known =
    let before = map field_view (take i fields) in
    let f = field_view (get_or fields i d) in
    let one : filter (is_known keys) (f ∷ []) ≡ f ∷ [] = rw known refl in
    ap (filter (is_known keys)) (map_more field_view fields i d within)
    ∙ filter-append (is_known keys) before (f ∷ [])
    ∙ ap (λ gs. filter (is_known keys) before ++ gs) one

-- the known fields at the next field, which is not
pub known_none : (keys : List Key) (fields : List Field) (i : ℕ) (d : Field) → i < length fields
    → is_known keys (field_view (get_or fields i d)) ≡ false
    → filter (is_known keys) (map field_view (take (i + 1) fields))
    ≡ filter (is_known keys) (map field_view (take i fields))
known_none keys fields i d within unknown =
    let before = map field_view (take i fields) in
    let f = field_view (get_or fields i d) in
    let none : filter (is_known keys) (f ∷ []) ≡ [] = rw unknown refl in
    ap (filter (is_known keys)) (map_more field_view fields i d within)
    ∙ filter-append (is_known keys) before (f ∷ [])
    ∙ ap (λ gs. filter (is_known keys) before ++ gs) none
    ∙ append-nil (filter (is_known keys) before)

-- the run at the next field, which is known
pub member_some : (keys : List Key) (fields : List Field) (i : ℕ) (d : Field) → i < length fields
    → is_known keys (field_view (get_or fields i d)) ≡ true
    → member_run keys (map field_view (take (i + 1) fields))
    ≡ run_with (member_run keys (map field_view (take i fields))) (field_view (get_or fields i d))
member_some keys fields i d within known =
    ap trailing_run (known_some keys fields i d within known)
    ∙ run_more (filter (is_known keys) (map field_view (take i fields))) (field_view (get_or fields i d))

-- the run at the next field, which is not
pub member_none : (keys : List Key) (fields : List Field) (i : ℕ) (d : Field) → i < length fields
    → is_known keys (field_view (get_or fields i d)) ≡ false
    → member_run keys (map field_view (take (i + 1) fields)) ≡ member_run keys (map field_view (take i fields))
member_none keys fields i d within unknown =
    ap trailing_run (known_none keys fields i d within unknown)

-- ---- what a run is

-- what holds of all fields holds of their run
all_of_run : (p : Wire → Bool) (fs : List Wire) → list_all p fs ≡ true
    → list_all p (trailing_run fs) ≡ true
all_of_run p [] all = refl
all_of_run p (f ∷ fs) all =
    elim (cases_Bool (list_all (HasNumber f.number) fs)) [
      | inl same ↦ rw same all
      | inr other ↦ rw other (all_of_run p fs (and_parts (p f) (list_all p fs) all).1)
    ]

passes_filter : (p : Wire → Bool) (fs : List Wire) → list_all p (filter p fs) ≡ true
passes_filter p [] = refl
passes_filter p (f ∷ fs) =
    elim (cases_Bool (p f)) [
      | inl passes ↦ rw (passes, passes) (passes_filter p fs)
      | inr fails ↦ rw fails (passes_filter p fs)
    ]

-- each field of a member's run has a member's key
pub run_known : (keys : List Key) (fs : List Wire) → AllKnown keys (member_run keys fs)
run_known keys fs =
    all_of_run (is_known keys) (filter (is_known keys) fs) (passes_filter (is_known keys) fs)

-- the last of a run is the last of all
pub last_of_run : (fs : List Wire) → last_of (trailing_run fs) ≡ last_of fs
last_of_run [] = refl
last_of_run (f ∷ []) = refl
last_of_run (f ∷ g ∷ fs) =
    elim (cases_Bool (list_all (HasNumber f.number) (g ∷ fs))) [
      | inl same ↦ rw same refl
      | inr other ↦ rw other (last_of_run (g ∷ fs))
    ]

-- the last field of the last member's run is the last member
pub last_member_run : (keys : List Key) (fs : List Wire)
    → last_of (member_run keys fs) ≡ last_member keys fs
last_member_run keys fs = last_of_run (filter (is_known keys) fs)
