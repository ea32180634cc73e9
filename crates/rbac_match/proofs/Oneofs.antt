-- The last member of a oneof, where payloads merge: they have one at most.
use Rattle.std.proofs.Common.{◌≡◌, ℕ, List, Some, None, sym, ap, subst, ◌∙◌}
use Rattle.proto_wire.specs.Fields.{Wire}
use Rattle.proto_wire.specs.Merge.{Merges}
use Rattle.proto_wire.specs.declared.key.Key.{Key}
use Rattle.proto_wire.proofs.Unique.{merges_unique}
use Rattle.proto_wire.specs.Oneof.{last_number}

module _ (keys : List Key) (parts : List (List ℕ)) (fs : List Wire) (n : ℕ) (merged : Merges parts fs) (last : last_number keys fs ≡ Some n) where
  -- what is said of the payloads' fields and of their last member's number is said of these
  pub of_last : (P : List Wire → ℕ → Type 0) (gs : List Wire) (m : ℕ) → Merges parts gs
      → last_number keys gs ≡ Some m → P gs m → P fs n
  of_last P gs m also at holds =
      let fields : gs ≡ fs = merges_unique parts gs fs also merged in
      let whole : Some m ≡ Some n = sym at ∙ ap (last_number keys) fields ∙ last in
      let number : m ≡ n = cc in
      let Q : List Wire → Type 0 = λ hs. P hs n in
      let R : ℕ → Type 0 = λ k. P gs k in
      subst Q fields (subst R number holds)

  -- and there is one
  pub some_last : (gs : List Wire) → Merges parts gs → last_number keys gs ≡ None → ⊥
  some_last gs also none =
      let clash : Some n ≡ None = sym last ∙ ap (last_number keys) (merges_unique parts fs gs merged also) ∙ none in
      cc
