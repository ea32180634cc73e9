-- From a message's fields to what it says, and what a `?` passes on.
use Rattle.std.proofs.Common.{◌≡◌, ◌⊎◌, inl, inr, ℕ, List, refl, MatchOption, Option, Some, None}
use Rattle.std.specs.Prelude.{Result, IfOk, IfErr, IsErrAnd}
use Rattle.std.specs.Map.{keys_of}
use Rattle.std.proofs.lemmas.Result.{err_from_is_err_and, MatchResult-weaker}
use Rattle.proto_wire.specs.Fields.{Wire}
use Rattle.proto_wire.specs.Messages.{IsMessage, MessageFault}
use Rattle.proto_wire.specs.Oneof.{member_run, last_number, member_in}
use Rattle.proto_wire.specs.Refusal.{MemoryOr}
use Rattle.proto_wire.specs.declared.key.Key.{Key}
use Rattle.proto_wire.specs.declared.refusal.Refusal.{Refusal}
use Rattle.proto_wire.specs.declared.refusal.Refusal.TheVariants.{Missing, Unsupported}
pub use Rattle.proto_wire.proofs.Exits.{exit_fault, exit_memory_or, exit_memory, last_memory_or, memory_or_weaker}
use Rattle.proto_wire.specs.Reading.{Reads, ReadFault, in_fields, lacking, in_values, OneofSays, IsUnsupported, OneofFault, LacksMember}
use Rattle.proto_wire.specs.private.Values.{ValuesFault}

-- a fault of the values is one of the message
pub values_fault : (keys : List Key) (Lacks : List Wire → Type 0) (Wrong : List Wire → Refusal → Type 0)
    (parts : List (List ℕ)) (fs : List Wire) → IsMessage keys parts fs → (e : Refusal)
    → ValuesFault Lacks Wrong fs e → ReadFault keys Lacks Wrong parts e
values_fault keys Lacks Wrong parts fs message e (inl lacks) = lacking fs message lacks.0 lacks.1
values_fault keys Lacks Wrong parts fs message e (inr wrong) = in_values fs message.0 wrong

-- the exit where the message's fields don't read
pub fields_exit : (keys : List Key) (Lacks : List Wire → Type 0) (Wrong : List Wire → Refusal → Type 0)
    (parts : List (List ℕ)) {T : Type 0} (r : Result T Refusal) (e : Refusal)
    → IsErrAnd r (λ y. y ≡ e) → MemoryOr (MessageFault keys parts) e
    → IfErr r (MemoryOr (ReadFault keys Lacks Wrong parts))
fields_exit keys Lacks Wrong parts r e left fault =
    exit_memory_or (MessageFault keys parts) (ReadFault keys Lacks Wrong parts) r e left fault
    (λ d bad. in_fields bad)

-- the answer where they do
pub read_fault : (keys : List Key) (Lacks : List Wire → Type 0) (Wrong : List Wire → Refusal → Type 0)
    (parts : List (List ℕ)) (fs : List Wire) → IsMessage keys parts fs
    → {T : Type 0} (r : Result T Refusal) → IfErr r (MemoryOr (ValuesFault Lacks Wrong fs))
    → IfErr r (MemoryOr (ReadFault keys Lacks Wrong parts))
read_fault keys Lacks Wrong parts fs message r fault =
    last_memory_or (ValuesFault Lacks Wrong fs) (ReadFault keys Lacks Wrong parts) r fault
    (λ e bad. values_fault keys Lacks Wrong parts fs message e bad)

pub read_found : {T U : Type 0} (keys : List Key) (Says : List Wire → T → Type 0) (view : U → T)
    (parts : List (List ℕ)) (fs : List Wire) → IsMessage keys parts fs
    → (r : Result U Refusal) → IfOk r (λ x. Says fs (view x))
    → IfOk r (λ x. Reads keys Says parts (view x))
read_found keys Says view parts fs message r found =
    MatchResult-weaker r found (λ x h. (fs, message, h)) (λ _ _. tt)

-- ---- oneofs

module _ {M : Type 0} (table : List (Key × Option M)) (fs : List Wire) where
  -- the last member's run says it
  pub oneof_found : {T : Type 0} (Without : T → Type 0) (Says : M → ℕ → List Wire → T → Type 0)
      (n : ℕ) (m : M) → last_number (keys_of table) fs ≡ Some n → member_in table n ≡ Some m
      → (x : T) → Says m n (member_run (keys_of table) fs) x → OneofSays table Without Says fs x
  oneof_found Without Says n m last is x says = rw (last, is) says

  -- its run has a fault
  pub oneof_bad : (Refused : Refusal → Type 0) (Fails : M → ℕ → List Wire → Refusal → Type 0) (n : ℕ) (m : M)
      → last_number (keys_of table) fs ≡ Some n → member_in table n ≡ Some m
      → (e : Refusal) → Fails m n (member_run (keys_of table) fs) e → OneofFault table Refused Fails fs e
  oneof_bad Refused Fails n m last is e bad = rw (last, is) bad

  -- no member counts, or one that is not supported
  pub last_bad : (Fails : M → ℕ → List Wire → Refusal → Type 0) (e : Refusal)
      → MatchOption (last_number (keys_of table) fs) (e ≡ Missing)
      (λ n. (member_in table n ≡ None) × (e ≡ Unsupported))
      → ValuesFault (LacksMember table) (OneofFault table IsUnsupported Fails) fs e
  last_bad Fails e = elim (last_number (keys_of table) fs) as
      (λ o. MatchOption o (e ≡ Missing) (λ n. (member_in table n ≡ None) × (e ≡ Unsupported))
      → ((o ≡ None) × (e ≡ Missing)) ⊎ MatchOption o ⊥ (λ n. MatchOption (member_in table n) (e ≡ Unsupported)
      (λ m. Fails m n (member_run (keys_of table) fs) e))) [
        | None ↦ λ missing. inl (refl, missing)
        | Some n ↦ λ bad. inr (rw bad.0 bad.1)
      ]

-- at a `?` where nothing takes memory
pub exit_plain : (G : Refusal → Type 0) {T : Type 0} (r : Result T Refusal) (e : Refusal)
    → IsErrAnd r (λ y. y ≡ e) → G e → IfErr r G
exit_plain G r e left fault =
    let p = err_from_is_err_and r left in
    rw (p.1, p.2) fault
