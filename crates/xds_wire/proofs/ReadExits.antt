-- What a reader of an envelope passes on from the readers of its parts.
use Rattle.std.proofs.Common.{◌≡◌, inr, List, ℕ, ◌<◌, length, get_or}
use Rattle.std.specs.Borrow.{Bor}
use Rattle.std.specs.Prelude.{Result, IfOk, IfErr, IsErrAnd}
use Rattle.std.proofs.lemmas.Result.{IfOk-weaker, IfErr-weaker}
use Rattle.proto_wire.specs.Fields.{Wire}
use Rattle.proto_wire.specs.Merge.{Merges, parts_view, SomeOf}
use Rattle.proto_wire.specs.Messages.{PartsFault}
use Rattle.proto_wire.specs.Refusal.{MemoryOr}
use Rattle.proto_wire.specs.declared.refusal.Refusal.{Refusal}
use Rattle.proto_wire.proofs.Exits.{exit_memory_or}
use Rattle.xds_wire.specs.Envelope.{IsEnvelope, EnvelopeFault, not_whole, in_fields}
use Rattle.xds_wire.proofs.Each.{some_part}

-- at a `?` on the payloads
pub exit_parts : (F : List Wire → Refusal → Type 0) (parts : List (List ℕ)) {T : Type 0}
    (r : Result T Refusal) (e : Refusal) → IsErrAnd r (λ y. y ≡ e) → MemoryOr (PartsFault parts) e
    → IfErr r (MemoryOr (EnvelopeFault F parts))
exit_parts F parts r e left fault =
    exit_memory_or (PartsFault parts) (EnvelopeFault F parts) r e left fault (λ d bad. not_whole bad)

-- at a `?` on the reader of a field
pub exit_field : (P : Refusal → Type 0) (F : List Wire → Refusal → Type 0) (parts : List (List ℕ))
    (fs : List Wire) → Merges parts fs → ((d : Refusal) → P d → F fs d) → {T : Type 0}
    (r : Result T Refusal) (e : Refusal) → IsErrAnd r (λ y. y ≡ e) → MemoryOr P e
    → IfErr r (MemoryOr (EnvelopeFault F parts))
exit_field P F parts fs merged weaker r e left fault =
    exit_memory_or P (EnvelopeFault F parts) r e left fault
    (λ d bad. in_fields fs merged (weaker d bad))

-- where the reader of the fields answers for the message
pub last_found : {M T : Type 0} (Table : List Wire → M → Type 0) (view : T → M)
    (parts : List (List ℕ)) (fs : List Wire) (r : Result T Refusal) → Merges parts fs
    → IfOk r (λ x. Table fs (view x)) → IfOk r (λ x. IsEnvelope Table parts (view x))
last_found Table view parts fs r merged found =
    IfOk-weaker r (λ x. Table fs (view x)) (λ x. IsEnvelope Table parts (view x))
    (λ x is. (fs, merged, is)) found

pub last_fault : {T : Type 0} (F : List Wire → Refusal → Type 0) (parts : List (List ℕ))
    (fs : List Wire) (r : Result T Refusal) → Merges parts fs → IfErr r (F fs)
    → IfErr r (MemoryOr (EnvelopeFault F parts))
last_fault F parts fs r merged fault =
    IfErr-weaker r (F fs) (MemoryOr (EnvelopeFault F parts))
    (λ e bad. inr (in_fields fs merged bad)) fault

-- at a `?` on the reader of one payload among others
pub exit_each : (P : List ℕ → Refusal → Type 0) (slices : List (Bor (List ℕ))) (i : ℕ)
    (d : Bor (List ℕ)) → i < length slices → {T : Type 0} (r : Result T Refusal) (e : Refusal)
    → IsErrAnd r (λ y. y ≡ e) → MemoryOr (P (get_or slices i d).now) e
    → IfErr r (MemoryOr (λ b. SomeOf (λ part. P part b) (parts_view slices)))
exit_each P slices i d within r e left fault =
    exit_memory_or (P (get_or slices i d).now) (λ b. SomeOf (λ part. P part b) (parts_view slices))
    r e left fault (λ b bad. some_part (λ part. P part b) slices i d within bad)
