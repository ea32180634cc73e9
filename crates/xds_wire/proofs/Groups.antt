-- Which values stand in groups of written fields: each number's values are those of its own group.
use Rattle.std.proofs.Common.{◌≡◌, ℕ, ℤ, ◌==◌, false, cond, Option, Some, None, List, [], ◌∷◌, ◌++◌, refl, ap, ap₂, ◌∙◌, append-nil, inl, inr}
use Rattle.std.specs.Int.{w64, cast_unsigned}
use Rattle.std.specs.List.{flat_map, AllByRecursion}
use Rattle.std.proofs.lemmas.List.Elements.{filter_map-append}
use Rattle.std.proofs.lemmas.Bool.{cases_Bool}
use Rattle.proto_wire.specs.Fields.{Payload, Wire, varint, len}
use Rattle.proto_wire.specs.Shortest.{field_of}
use Rattle.xds_wire.specs.Written.{string_fields, strings_fields, int32_fields, AreOptional, AreEach}
use Rattle.proto_wire.proofs.ValueLemmas.{picked as picks}

-- the groups one after the other
abbrev pub in_row : List (List Wire) → List Wire
in_row groups = flat_map (λ fs. fs) groups

module _ {B : Type 0} (pick : Payload → Option B) (k : ℕ) where
  -- nothing is picked of these groups
  abbrev pub AreOther : List (List Wire) → Type 0
  AreOther groups = AllByRecursion (λ fs. picks pick k fs ≡ []) groups

  picks_append : (fs gs : List Wire) → picks pick k (fs ++ gs) ≡ picks pick k fs ++ picks pick k gs
  picks_append fs gs = filter_map-append (λ f. cond (f.number == k) (pick f.payload) None) fs gs

  picks_other : (groups : List (List Wire)) → AreOther groups → picks pick k (in_row groups) ≡ []
  picks_other [] none = refl
  picks_other (g ∷ groups) (none, more) =
      picks_append g (in_row groups) ∙ ap₂ (λ (xs ys : List B). xs ++ ys) none (picks_other groups more)

  -- what is picked of all groups is what is picked of one
  pub picks_own : (before : List (List Wire)) (own : List Wire) (after : List (List Wire))
      → AreOther before → AreOther after
      → picks pick k (in_row (before ++ own ∷ after)) ≡ picks pick k own
  picks_own [] own after none none' =
      picks_append own (in_row after)
      ∙ ap (λ (t : List B). picks pick k own ++ t) (picks_other after none')
      ∙ append-nil (picks pick k own)
  picks_own (g ∷ before) own after (none, more) none' =
      picks_append g (in_row (before ++ own ∷ after))
      ∙ ap₂ (λ (xs ys : List B). xs ++ ys) none (picks_own before own after more none')

  -- a field of another number, or one of which nothing is picked
  one_other : (j : ℕ) (p : Payload) → (j == k) ≡ false → picks pick k (field_of j p ∷ []) ≡ []
  one_other j p other = rw other refl

  pub string_other : (j : ℕ) (t : List ℕ) → (j == k) ≡ false → picks pick k (string_fields j t) ≡ []
  string_other j [] other = refl
  string_other j (b ∷ bytes) other = one_other j (len (b ∷ bytes)) other

  pub strings_other : (j : ℕ) (ts : List (List ℕ)) → (j == k) ≡ false
      → picks pick k (strings_fields j ts) ≡ []
  strings_other j [] other = refl
  strings_other j (t ∷ ts) other =
      picks_append (field_of j (len t) ∷ []) (strings_fields j ts)
      ∙ ap₂ (λ (xs ys : List B). xs ++ ys) (one_other j (len t) other) (strings_other j ts other)

  pub int32_other : (j : ℕ) (n : ℤ) → (j == k) ≡ false → picks pick k (int32_fields j n) ≡ []
  int32_other j n other = elim (cases_Bool (cast_unsigned w64 n == 0)) [
    | inl zero' ↦ rw zero' refl
    | inr some ↦ rw some (one_other j (varint (cast_unsigned w64 n)) other)
  ]

  pub optional_other : {M : Type 0} (Written : M → List ℕ → Type 0) (j : ℕ) (o : Option M)
      (fs : List Wire) → AreOptional Written j o fs → (j == k) ≡ false → picks pick k fs ≡ []
  optional_other Written j None fs none other = ap (picks pick k) none
  optional_other Written j (Some m) fs (bytes, is, whole) other =
      ap (picks pick k) whole ∙ one_other j (len bytes) other

  pub each_other : {M : Type 0} (Written : M → List ℕ → Type 0) (j : ℕ) (ms : List M) (fs : List Wire)
      → AreEach Written j ms fs → (j == k) ≡ false → picks pick k fs ≡ []
  each_other Written j [] fs none other = ap (picks pick k) none
  each_other Written j (m ∷ ms) fs (bytes, rest, is, more, whole) other =
      ap (picks pick k) whole ∙ picks_append (field_of j (len bytes) ∷ []) rest
      ∙ ap₂ (λ (xs ys : List B). xs ++ ys) (one_other j (len bytes) other)
      (each_other Written j ms rest more other)
