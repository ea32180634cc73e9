-- The values of a number: what one field more changes.
use Rattle.std.proofs.Common.{◌≡◌, ◌≢◌, ◌==◌, ◌||◌, ℕ, Bool, cond, List, [], ◌∷◌, ◌++◌, Option, Some, None, MatchOption, Bor, map, take, get_or, length, ◌<◌, ◌+◌, refl, ap, ◌∙◌}
use Rattle.std.specs.List.{filter_map, list_any}
use Rattle.std.specs.Option.{is_some}
use Rattle.std.specs.Prelude.{MatchBool}
use Rattle.std.proofs.lemmas.List.{append-nil, map_more}
use Rattle.std.proofs.lemmas.List.Elements.{filter_map-append}
use Rattle.proto_wire.specs.Fields.{Payload, payload_view, Wire, field_view}
use Rattle.proto_wire.specs.Values.{last_of}
use Rattle.proto_wire.specs.declared.field.Field.{Field}

-- ---- the last of a list, and what is picked of one

pub last_of_push : {A : Type 0} (xs : List A) (x : A) → last_of (xs ++ x ∷ []) ≡ Some x
last_of_push [] x = refl
last_of_push (y ∷ []) x = refl
last_of_push (y ∷ z ∷ xs) x = last_of_push (z ∷ xs) x

-- what is picked of the payloads of a number's fields
abbrev pub picked : {B : Type 0} → (Payload → Option B) → ℕ → List Wire → List B
picked pick k fs = filter_map (λ f. cond (f.number == k) (pick f.payload) None) fs

-- at the next field something is picked
pub picked_some : {B : Type 0} (pick : Payload → Option B) (k : ℕ) (fields : List Field) (i : ℕ)
    (d : Field) (y : B)
    → i < length fields
    → cond ((get_or fields i d).number == k) (pick (payload_view (get_or fields i d).payload)) None
    ≡ Some y
    → picked pick k (map field_view (take (i + 1) fields))
    ≡ picked pick k (map field_view (take i fields)) ++ y ∷ []
picked_some pick k fields i d y within e =
    let f = field_view (get_or fields i d) in
    let one : picked pick k (f ∷ []) ≡ y ∷ [] = rw e refl in
    ap (picked pick k) (map_more field_view fields i d within)
    ∙ filter_map-append (λ g. cond (g.number == k) (pick g.payload) None) (map field_view (take i fields))
    (f ∷ [])
    ∙ ap (λ ys. picked pick k (map field_view (take i fields)) ++ ys) one

-- at the next field nothing is picked
pub picked_none : {B : Type 0} (pick : Payload → Option B) (k : ℕ) (fields : List Field) (i : ℕ)
    (d : Field)
    → i < length fields
    → cond ((get_or fields i d).number == k) (pick (payload_view (get_or fields i d).payload)) None
    ≡ None
    → picked pick k (map field_view (take (i + 1) fields)) ≡ picked pick k (map field_view (take i fields))
picked_none pick k fields i d within e =
    let f = field_view (get_or fields i d) in
    let none : picked pick k (f ∷ []) ≡ [] = rw e refl in
    ap (picked pick k) (map_more field_view fields i d within)
    ∙ filter_map-append (λ g. cond (g.number == k) (pick g.payload) None) (map field_view (take i fields))
    (f ∷ [])
    ∙ ap (λ ys. picked pick k (map field_view (take i fields)) ++ ys) none
    ∙ append-nil (picked pick k (map field_view (take i fields)))

-- a list without a last element is empty
pub last_of_none : {A : Type 0} (xs : List A) → last_of xs ≡ None → xs ≡ []
last_of_none [] e = refl
last_of_none (x ∷ []) e = absurd cc
last_of_none (x ∷ y ∷ xs) e = let none = last_of_none (y ∷ xs) e in absurd cc

-- ---- a field of a number

-- a test of what the elements of a list stand for
pub list_any_map : {A B : Type 0} (p : B → Bool) (f : A → B) (xs : List A)
    → list_any p (map f xs) ≡ list_any (λ x. p (f x)) xs
list_any_map p f [] = refl
list_any_map p f (x ∷ xs) = ap (λ b. p (f x) || b) (list_any_map p f xs)

-- some payload is there where there is a last one
pub there_by_last : (last : Option (Bor (List ℕ))) (xs : List (List ℕ))
    → MatchOption last (last_of xs ≡ None) (λ t. last_of xs ≡ Some t.now)
    → MatchBool (is_some last) (xs ≢ []) (xs ≡ [])
there_by_last None xs none = last_of_none xs none
there_by_last (Some t) [] at = let clash : None ≡ Some t.now = at in cc
there_by_last (Some t) (x ∷ xs) at = λ e. cc
