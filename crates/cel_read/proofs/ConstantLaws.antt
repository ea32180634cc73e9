-- The payloads of a Constant are one or have a fault, never both, and are one value at most.
use Rattle.std.proofs.Common.{◌≡◌, ◌⊎◌, inl, inr, ℕ, List, refl, sym, ◌∙◌}
use Rattle.proto_wire.specs.Fields.{Wire}
use Rattle.proto_wire.specs.Values.{bool_at, int64_at, varint_at, bytes_at}
use Rattle.proto_wire.specs.declared.refusal.Refusal.{Refusal}
use Rattle.proto_wire.specs.declared.refusal.Refusal.TheVariants.{BadText}
use Rattle.cel_value.specs.Texts.{points_of}
use Rattle.cel_value.specs.Values.{CelValue, bool, int, uint, text, bytes}
use Rattle.cel_tree.specs.Constants.{constants, constant_keys, ConstantSays, ConstantFails, IsConstant, ConstantFault}
use Rattle.proto_wire.specs.Reading.{OneofSays, Never, LacksMember, IsUnsupported, OneofFault}
use Rattle.cel_tree.specs.declared.kinds.ConstantKind.{ConstantKind}
use Rattle.cel_tree.specs.declared.kinds.ConstantKind.TheVariants as kinds
use Rattle.cel_read.proofs.Basics.{utf8_total}
use Rattle.proto_wire.proofs.ReadingLaws.{reads_total, reads_disjoint, reads_unique, oneof_total, oneof_disjoint, oneof_unique}

kind_total : (kind : ConstantKind) (n : ℕ) (run : List Wire)
    → ((v : CelValue) × ConstantSays kind n run v) ⊎ ((e : Refusal) × ConstantFails kind n run e)
kind_total kinds.Bool n run = inl (bool (bool_at n run), refl)
kind_total kinds.Int n run = inl (int (int64_at n run), refl)
kind_total kinds.Uint n run = inl (uint (varint_at n run), refl)
kind_total kinds.Text n run = elim (utf8_total (bytes_at n run)) [
  | inl utf8 ↦ inl (text (points_of (bytes_at n run)), (utf8, refl))
  | inr other ↦ inr (BadText, (other, refl))
]
kind_total kinds.Bytes n run = inl (bytes (bytes_at n run), refl)

kind_disjoint : (kind : ConstantKind) (n : ℕ) (run : List Wire) (v : CelValue) (e : Refusal)
    → ConstantSays kind n run v → ConstantFails kind n run e → ⊥
kind_disjoint kinds.Bool n run v e says bad = bad
kind_disjoint kinds.Int n run v e says bad = bad
kind_disjoint kinds.Uint n run v e says bad = bad
kind_disjoint kinds.Text n run v e says bad = bad.0 says.0
kind_disjoint kinds.Bytes n run v e says bad = bad

kind_unique : (kind : ConstantKind) (n : ℕ) (run : List Wire) (v w : CelValue)
    → ConstantSays kind n run v → ConstantSays kind n run w → v ≡ w
kind_unique kinds.Bool n run v w a b = a ∙ sym b
kind_unique kinds.Int n run v w a b = a ∙ sym b
kind_unique kinds.Uint n run v w a b = a ∙ sym b
kind_unique kinds.Text n run v w a b = a.1 ∙ sym b.1
kind_unique kinds.Bytes n run v w a b = a ∙ sym b

pub constant_total : (parts : List (List ℕ))
    → ((v : CelValue) × IsConstant parts v) ⊎ ((e : Refusal) × ConstantFault parts e)
constant_total = reads_total constant_keys (OneofSays constants Never ConstantSays) (LacksMember constants)
    (OneofFault constants IsUnsupported ConstantFails) (oneof_total constants ConstantSays ConstantFails kind_total)

pub constant_disjoint : (parts : List (List ℕ)) (v : CelValue) (e : Refusal) → IsConstant parts v
    → ConstantFault parts e → ⊥
constant_disjoint = reads_disjoint constant_keys (OneofSays constants Never ConstantSays) (LacksMember constants)
    (OneofFault constants IsUnsupported ConstantFails) (oneof_disjoint constants ConstantSays ConstantFails kind_disjoint)

pub constant_unique : (parts : List (List ℕ)) (v w : CelValue) → IsConstant parts v → IsConstant parts w → v ≡ w
constant_unique = reads_unique constant_keys (OneofSays constants Never ConstantSays)
    (oneof_unique constants ConstantSays Never (λ x y a b. absurd a) kind_unique)
