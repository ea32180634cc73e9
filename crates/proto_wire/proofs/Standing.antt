-- Messages that stand in the member that counts: they are those of what the message says, where it says something.
use Rattle.std.proofs.Common.{◌≡◌, ◌⊎◌, inl, inr, ℕ, List, Option, Some, None, MatchOption, refl, subst}
use Rattle.std.specs.Map.{keys_of}
use Rattle.proto_wire.specs.Fields.{Wire}
use Rattle.proto_wire.specs.Merge.{Merges}
use Rattle.proto_wire.specs.Oneof.{member_run, last_number, member_in}
use Rattle.proto_wire.specs.Values.{payloads}
use Rattle.proto_wire.specs.declared.key.Key.{Key}
use Rattle.proto_wire.proofs.Unique.{merges_unique}
use Rattle.proto_wire.specs.Reading.{OneofSays, StandsIn}

module _ {M T : Type 0} (table : List (Key × Option M)) (Without : T → Type 0) (Says : M → ℕ → List Wire → T → Type 0) where
  -- what a oneof says is what its last member says, or there is none that says something
  pub oneof_opened : (fs : List Wire) (x : T) → OneofSays table Without Says fs x
      → Without x ⊎ ((n : ℕ) × (m : M) × (last_number (keys_of table) fs ≡ Some n) × (member_in table n ≡ Some m)
      × Says m n (member_run (keys_of table) fs) x)
  oneof_opened fs x says = (elim (last_number (keys_of table) fs) as (λ o. last_number (keys_of table) fs ≡ o
      → MatchOption o (Without x) (λ n. MatchOption (member_in table n) (Without x) (λ m. Says m n (member_run (keys_of table) fs) x))
      → Without x ⊎ ((n : ℕ) × (m : M) × (last_number (keys_of table) fs ≡ Some n) × (member_in table n ≡ Some m)
      × Says m n (member_run (keys_of table) fs) x)) [
        | None ↦ λ none alone. inl alone
        | Some n ↦ λ last. (elim (member_in table n) as (λ p. member_in table n ≡ p
            → MatchOption p (Without x) (λ m. Says m n (member_run (keys_of table) fs) x)
            → Without x ⊎ ((n : ℕ) × (m : M) × (last_number (keys_of table) fs ≡ Some n) × (member_in table n ≡ Some m)
            × Says m n (member_run (keys_of table) fs) x)) [
              | None ↦ λ none alone. inl alone
              | Some m ↦ λ is own. inr (n, m, last, is, own)
            ]) refl
      ]) refl says

  -- the member of a number says it
  oneof_at : (fs : List Wire) (x : T) (n : ℕ) (m : M) → OneofSays table Without Says fs x
      → last_number (keys_of table) fs ≡ Some n → member_in table n ≡ Some m → Says m n (member_run (keys_of table) fs) x
  oneof_at fs x n m says last is = rw (last, is) at says

  module _ (Inside : M → List Wire → List (List ℕ) → Type 0) (parts child : List (List ℕ)) (fs : List Wire)
      (merges : Merges parts fs) (x : T) (says : OneofSays table Without Says fs x) (Within : Type 0) where
    -- a message of what is said stands in the parts
    pub stands : (Without x → ⊥) → ((m : M) (n : ℕ) (run : List Wire) → Says m n run x
        → (own : List Wire) × Merges (payloads n run) own × Inside m own child)
        → StandsIn table Inside parts child
    stands never inside = elim (oneof_opened fs x says) [
      | inl alone ↦ absurd (never alone)
      | inr (n, m, last, is, member) ↦
          let found = inside m n (member_run (keys_of table) fs) member in
          record {
            fields = fs;
            merges = merges;
            number = n;
            last = last;
            member = m;
            is = is;
            own = found.0;
            whole = found.1;
            inside = found.2;
          }
    ]

    -- one that stands in the parts is of what is said
    pub stood : ((m : M) (n : ℕ) (run own : List Wire) → Says m n run x → Merges (payloads n run) own → Inside m own child
        → Within)
        → StandsIn table Inside parts child → Within
    stood within stands =
        let P : List Wire → Type 0 = λ gs. OneofSays table Without Says gs x in
        let here : OneofSays table Without Says stands.fields x =
        subst P (merges_unique parts fs stands.fields merges stands.merges) says in
        within stands.member stands.number (member_run (keys_of table) stands.fields) stands.own
        (oneof_at stands.fields x stands.number stands.member here stands.last stands.is) stands.whole stands.inside
