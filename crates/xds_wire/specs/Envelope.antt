-- Messages whose unknown fields are skipped, and the values of their fields: Protocol Buffers encoding
-- guide, "Last One Wins", "Repeated Elements" and "Message Structure".
use Rattle.std.specs.Prelude.{◌≡◌, ℕ, List, [], ◌∷◌, IsUtf8}
use Rattle.std.specs.List.{AllZip, AllByRecursion}
use Rattle.proto_wire.specs.Fields.{Wire}
use Rattle.proto_wire.specs.Merge.{Merges, SomeOf}
use Rattle.proto_wire.specs.Messages.{PartsFault}
use Rattle.proto_wire.specs.Values.{payloads, bytes_at, Utf8Fault}
use Rattle.proto_wire.specs.declared.refusal.Refusal.{Refusal}

-- the payloads merge to fields, which make this message by its table
abbrev pub IsEnvelope : {M : Type 0} → (List Wire → M → Type 0) → List (List ℕ) → M → Type 0
IsEnvelope Table parts m = (fs : List Wire) × Merges parts fs × Table fs m

-- some payload is not a list of whole fields, or the fields have a fault
pub data EnvelopeFault (F : List Wire → Refusal → Type 0) (parts : List (List ℕ)) (e : Refusal) : Type 0
  where
    not_whole : PartsFault parts e → EnvelopeFault F parts e
    in_fields : (fs : List Wire) → Merges parts fs → F fs e → EnvelopeFault F parts e

-- the last string of this number; empty if there is none
abbrev pub IsString : ℕ → List Wire → List ℕ → Type 0
IsString k fs text = (text ≡ bytes_at k fs) × IsUtf8 text

-- the strings of this number, in order
abbrev pub AreStrings : ℕ → List Wire → List (List ℕ) → Type 0
AreStrings k fs texts = (texts ≡ payloads k fs) × AllByRecursion IsUtf8 texts

-- one of those strings is not UTF-8
abbrev pub StringsFault : ℕ → List Wire → Refusal → Type 0
StringsFault k fs e = SomeOf (λ bytes. Utf8Fault bytes e) (payloads k fs)

-- the messages of this number, in order
abbrev pub AreRepeated : {M : Type 0} → (List (List ℕ) → M → Type 0) → ℕ → List Wire → List M → Type 0
AreRepeated Is k fs ms = AllZip (λ part m. Is (part ∷ []) m) (payloads k fs) ms

-- one of those messages has a fault
abbrev pub RepeatedFault : (List (List ℕ) → Refusal → Type 0) → ℕ → List Wire → Refusal → Type 0
RepeatedFault F k fs e = SomeOf (λ part. F (part ∷ []) e) (payloads k fs)
