-- Messages by the meaning of their fields, and their faults: Protocol Buffers encoding guide,
-- "Message Structure", "Last One Wins" and "Oneofs".
use Rattle.std.specs.Prelude.{◌≡◌, ◌≢◌, ℕ, List, [], ◌∷◌, Option, Some, None, MatchOption, Contains}
use Rattle.std.specs.Map.{keys_of}
use Rattle.proto_wire.specs.Fields.{Wire}
use Rattle.proto_wire.specs.Merge.{Merges}
use Rattle.proto_wire.specs.Messages.{IsMessage, MessageFault}
use Rattle.proto_wire.specs.Oneof.{last_number, member_in, member_run}
use Rattle.proto_wire.specs.Values.{payloads}
use Rattle.proto_wire.specs.declared.key.Key.{Key}
use Rattle.proto_wire.specs.declared.refusal.Refusal.{Refusal}
use Rattle.proto_wire.specs.declared.refusal.Refusal.TheVariants.{Missing, Unsupported}

-- ---- messages

-- the parts merge to a message of known fields, which mean this
abbrev pub Reads : {T : Type 0} → List Key → (List Wire → T → Type 0) → List (List ℕ) → T → Type 0
Reads keys Says parts x = (fs : List Wire) × IsMessage keys parts fs × Says fs x

-- a fault of a message: of its fields, or of a value. Also that a required field is absent, if all
-- fields are known
pub data ReadFault (keys : List Key) (Lacks : List Wire → Type 0)
    (Wrong : List Wire → Refusal → Type 0) (parts : List (List ℕ)) (e : Refusal) : Type 0 where
  in_fields : MessageFault keys parts e → ReadFault keys Lacks Wrong parts e
  lacking : (fs : List Wire) → IsMessage keys parts fs → Lacks fs → e ≡ Missing
      → ReadFault keys Lacks Wrong parts e
  in_values : (fs : List Wire) → Merges parts fs → Wrong fs e → ReadFault keys Lacks Wrong parts e

-- no meaning, no fault, or nothing that is lacking
abbrev pub Never : {T : Type 0} → T → Type 0
Never x = ⊥

-- ---- optional messages

-- the optional message of this number: none without a field; otherwise all payloads merge
abbrev pub IsOptional : {M : Type 0} → (List (List ℕ) → M → Type 0) → ℕ → List Wire → Option M → Type 0
IsOptional Is k fs None = payloads k fs ≡ []
IsOptional Is k fs (Some m) = (payloads k fs ≢ []) × Is (payloads k fs) m

-- there is a field of this number, and its payloads have a fault
abbrev pub OptionalFault : (List (List ℕ) → Refusal → Type 0) → ℕ → List Wire → Refusal → Type 0
OptionalFault F k fs e = (payloads k fs ≢ []) × F (payloads k fs) e

-- ---- oneofs, by a table of their members; none in the table means that a member is not supported

-- the meaning of a oneof: that of the last member's run; without a member, or if the last one is
-- not supported, the default `Without`
abbrev pub OneofSays : {M T : Type 0} → List (Key × Option M) → (T → Type 0)
    → (M → ℕ → List Wire → T → Type 0) → List Wire → T → Type 0
OneofSays table Without Says fs x = MatchOption (last_number (keys_of table) fs) (Without x)
    (λ n. MatchOption (member_in table n) (Without x)
    (λ m. Says m n (member_run (keys_of table) fs) x))

-- there is no member
abbrev pub LacksMember : {M : Type 0} → List (Key × Option M) → List Wire → Type 0
LacksMember table fs = last_number (keys_of table) fs ≡ None

-- the fault of an unsupported member
abbrev pub IsUnsupported : Refusal → Type 0
IsUnsupported e = e ≡ Unsupported

-- a fault of a oneof: that of the last member's run, or, if the last member is not supported,
-- `Refused`
abbrev pub OneofFault : {M : Type 0} → List (Key × Option M) → (Refusal → Type 0)
    → (M → ℕ → List Wire → Refusal → Type 0) → List Wire → Refusal → Type 0
OneofFault table Refused Fails fs e = MatchOption (last_number (keys_of table) fs) ⊥
    (λ n. MatchOption (member_in table n) (Refused e)
    (λ m. Fails m n (member_run (keys_of table) fs) e))

-- ---- messages inside, even if the message around them has faults

-- the message of this number, with all its payloads; there is at least one
abbrev pub IsPart : ℕ → List Wire → List (List ℕ) → Type 0
IsPart n fs child = (payloads n fs ≢ []) × (child ≡ payloads n fs)

-- one of the messages of this number, each of one payload
abbrev pub IsElement : ℕ → List Wire → List (List ℕ) → Type 0
IsElement n fs child =
    (payload : List ℕ) × Contains (payloads n fs) payload × (child ≡ payload ∷ [])

-- the parts are whole fields, and so is the message of their last member, which contains the child
pub record StandsIn {M : Type 0} (table : List (Key × Option M))
    (Inside : M → List Wire → List (List ℕ) → Type 0) (parts child : List (List ℕ)) : Type 0 where
  pub fields : List Wire
  pub merges : Merges parts fields
  pub number : ℕ
  pub last : last_number (keys_of table) fields ≡ Some number
  pub member : M
  pub is : member_in table number ≡ Some member
  pub own : List Wire
  pub whole : Merges (payloads number (member_run (keys_of table) fields)) own
  pub inside : Inside member own child
