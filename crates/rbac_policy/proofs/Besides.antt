-- Lists of names with something at each, one beside the other, and maps that relate name by name.
use Rattle.std.proofs.Common.{◌≡◌, ℕ, Bool, true, false, cond, T, IsTrue, ◌&&◌, List, [], ◌∷◌, length, arith, Option, Some, None, MatchOption, IsSomeAnd, refl, sym, ap, ◌∙◌}
use Rattle.std.specs.Ordering.{eq_by_cmp, is_eq, is_lt}
use Rattle.std.specs.Cmp.{tied_itself}
use Rattle.std.specs.Cmp.Lexicographic.{nat_list_cmp_total}
use Rattle.std.specs.FinMap.{FinMap, IsAntisymmetric, nat_cmp-IsAntisymmetric, slice_cmp-IsAntisymmetric, find, is_sorted, get, from_entries, get-from_entries, same_map}
use Rattle.std.specs.FinMap.Entries.{below_all}
use Rattle.attributes.specs.Headers.{name_cmp}
use Rattle.proto_wire.proofs.MapOrder.{both_second, tie, found_later}

-- a test that is true
pub t_of : (b : Bool) → IsTrue b → T b
t_of true e = tt
t_of false e = let clash : false ≡ true = e in absurd cc

-- names that compare as equal are equal
pub name_same : IsAntisymmetric name_cmp
name_same = slice_cmp-IsAntisymmetric nat_cmp-IsAntisymmetric

-- a name finds what stands at it in front
pub found_itself : {X : Type 0} (e : List ℕ × X) (es : List (List ℕ × X)) → find name_cmp e.0 (e ∷ es) ≡ Some e.1
found_itself e es = ap (λ r. cond (is_eq r) (Some e.1) (find name_cmp e.0 es)) (tied_itself nat_list_cmp_total e.0)

-- what is there
pub there : {X : Type 0} (P : X → Type 0) (o : Option X) → IsSomeAnd o P → (x : X) × (o ≡ Some x) × P x
there P None h = absurd h
there P (Some x) h = (x, refl, h)

-- what of one option relates to another, from the other's side
pub turned : {A B : Type 0} (R : A → B → Type 0) (o : Option A) (x : Option B)
    → MatchOption o (x ≡ None) (λ a. IsSomeAnd x (R a)) → MatchOption x (o ≡ None) (λ b. IsSomeAnd o (λ a. R a b))
turned R None None h = refl
turned R None (Some b) h = let clash : Some b ≡ None = h in cc
turned R (Some a) None h = absurd h
turned R (Some a) (Some b) h = h

-- two relations in a row
pub in_a_row : {A B C : Type 0} (R : A → B → Type 0) (S : B → C → Type 0) (Q : A → C → Type 0)
    → ((a : A) (b : B) (c : C) → R a b → S b c → Q a c) → (o : Option A) (x : Option B) (y : Option C)
    → MatchOption o (x ≡ None) (λ a. IsSomeAnd x (R a)) → MatchOption x (y ≡ None) (λ b. IsSomeAnd y (S b))
    → MatchOption o (y ≡ None) (λ a. IsSomeAnd y (Q a))
in_a_row R S Q both None None y g h = h
in_a_row R S Q both None (Some b) y g h = let clash : Some b ≡ None = g in cc
in_a_row R S Q both (Some a) None y g h = absurd g
in_a_row R S Q both (Some a) (Some b) None g h = absurd h
in_a_row R S Q both (Some a) (Some b) (Some c) g h = both a b c g h

module _ {A B : Type 0} (R : A → B → Type 0) where
  -- the same names, and what stands at each is related
  abbrev pub Beside : List (List ℕ × A) → List (List ℕ × B) → Type 0
  Beside [] bs = bs ≡ []
  Beside (a ∷ xs) bs = (b : B) × (others : List (List ℕ × B)) × R a.1 b × Beside xs others
      × (bs ≡ (a.0, b) ∷ others)

  -- what stands at a name
  pub beside_find : (xs : List (List ℕ × A)) (bs : List (List ℕ × B)) → Beside xs bs → (name : List ℕ)
      → MatchOption (find name_cmp name xs) (find name_cmp name bs ≡ None) (λ a. IsSomeAnd (find name_cmp name bs) (R a))
  beside_find [] bs beside name = rw beside refl
  beside_find (a ∷ xs) bs (b, others, is, rest, made) name =
      rw made (elim (eq_by_cmp name_cmp name a.0) as
      (λ t. MatchOption (cond t (Some a.1) (find name_cmp name xs)) (cond t (Some b) (find name_cmp name others) ≡ None)
      (λ x. IsSomeAnd (cond t (Some b) (find name_cmp name others)) (R x))) [
        | true ↦ is
        | false ↦ beside_find xs others rest name
      ])

  -- what is below all names of the one is below all of the other
  below_beside : (name : List ℕ) (xs : List (List ℕ × A)) (bs : List (List ℕ × B)) → Beside xs bs
      → below_all name_cmp name xs ≡ below_all name_cmp name bs
  below_beside name [] bs beside = rw beside refl
  below_beside name (a ∷ xs) bs (b, others, is, rest, made) =
      rw made (ap (λ t. is_lt (name_cmp name a.0) && t) (below_beside name xs others rest))

  -- they are in the same order
  pub sorted_beside : (xs : List (List ℕ × A)) (bs : List (List ℕ × B)) → Beside xs bs
      → is_sorted name_cmp xs ≡ is_sorted name_cmp bs
  sorted_beside [] bs beside = rw beside refl
  sorted_beside (a ∷ xs) bs (b, others, is, rest, made) =
      rw made (ap (λ t. t && is_sorted name_cmp xs) (below_beside a.0 xs others rest)
      ∙ ap (λ t. below_all name_cmp a.0 others && t) (sorted_beside xs others rest))

  -- they are as many
  pub beside_length : (xs : List (List ℕ × A)) (bs : List (List ℕ × B)) → Beside xs bs → length xs ≡ length bs
  beside_length [] bs beside = rw beside refl
  beside_length (a ∷ xs) bs (b, others, is, rest, made) =
      let same = beside_length xs others rest in
      rw made (omega (arith, same))

  -- the maps of the two relate name by name
  pub beside_maps : (xs : List (List ℕ × A)) (bs : List (List ℕ × B)) → Beside xs bs → (name : List ℕ)
      → MatchOption (get (from_entries {R = name_cmp} xs) name) (get (from_entries {R = name_cmp} bs) name ≡ None)
      (λ a. IsSomeAnd (get (from_entries {R = name_cmp} bs) name) (R a))
  beside_maps xs bs beside name =
      rw (get-from_entries nat_list_cmp_total xs name, get-from_entries nat_list_cmp_total bs name)
      (beside_find xs bs beside name)

  -- a list that relates to a map name by name has the map's entries beside it
  module _ (m : FinMap name_cmp B) where
    picked : (xs : List (List ℕ × A)) → T (is_sorted name_cmp xs)
        → ((name : List ℕ) (a : A) → find name_cmp name xs ≡ Some a → IsSomeAnd (get m name) (R a))
        → (bs : List (List ℕ × B)) × Beside xs bs
        × ((name : List ℕ) → MatchOption (find name_cmp name xs) (find name_cmp name bs ≡ None) (λ a. find name_cmp name bs ≡ get m name))
    picked [] sorted each = ([], refl, λ name. refl)
    picked (a ∷ xs) sorted each =
        let b = there (R a.1) (get m a.0) (each a.0 a.1 (found_itself a xs)) in
        let rest = picked xs (both_second _ _ sorted) (λ name x found. each name x (found_later name_cmp nat_list_cmp_total name_same a xs name x sorted found)) in (
          (a.0, b.0) ∷ rest.0,
          (b.0, rest.0, b.2, rest.1, refl),
          λ name. elim (eq_by_cmp name_cmp name a.0) as (λ t. eq_by_cmp name_cmp name a.0 ≡ t → MatchOption (cond t (Some a.1) (find name_cmp name xs)) (cond t (Some b.0) (find name_cmp name rest.0) ≡ None) (λ x. cond t (Some b.0) (find name_cmp name rest.0) ≡ get m name)) [
            | true ↦ λ tied. sym b.1 ∙ ap (get m) (sym (tie name_cmp nat_list_cmp_total name_same name a.0 tied))
            | false ↦ λ apart. rest.2 name
          ] refl,
        )

    same_at : (o : Option A) (x y : Option B) → MatchOption o (x ≡ None) (λ a. x ≡ y)
        → MatchOption o (y ≡ None) (λ a. IsSomeAnd y (R a)) → y ≡ x
    same_at None x y g h = h ∙ sym g
    same_at (Some a) x y g h = sym g

    pub beside_map : (xs : List (List ℕ × A)) → T (is_sorted name_cmp xs)
        → ((name : List ℕ) → MatchOption (find name_cmp name xs) (get m name ≡ None) (λ a. IsSomeAnd (get m name) (R a)))
        → (bs : List (List ℕ × B)) × Beside xs bs × (m ≡ from_entries bs)
    beside_map xs sorted each =
        let each_found : (name : List ℕ) (a : A) → find name_cmp name xs ≡ Some a → IsSomeAnd (get m name) (R a) =
        (λ name a found. at_found (get m name) (find name_cmp name xs) a found (each name)) in
        let it = picked xs sorted each_found in (
          it.0,
          it.1,
          same_map nat_list_cmp_total name_same m (from_entries it.0) (λ name.
              same_at (find name_cmp name xs) (find name_cmp name it.0) (get m name) (it.2 name) (each name)
              ∙ sym (get-from_entries nat_list_cmp_total it.0 name)),
        )
      where
        at_found : (y : Option B) (o : Option A) (a : A) → o ≡ Some a
            → MatchOption o (y ≡ None) (λ x. IsSomeAnd y (R x)) → IsSomeAnd y (R a)
        at_found y None a found h = let clash : None ≡ Some a = found in cc
        at_found y (Some x) a found h = let same : x ≡ a = cc in rw (← same) h
