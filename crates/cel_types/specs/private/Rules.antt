-- Rules and faults that proofs name.
use Rattle.std.specs.Prelude.{◌≡◌, ◌≢◌, ℕ, Bool, List, [], Option, Some, None}
use Rattle.proto_wire.specs.declared.refusal.Refusal.{Refusal}
use Rattle.proto_wire.specs.declared.refusal.Refusal.TheVariants.{Unsupported}
use Rattle.cel_value.specs.Types.{ValueType}
use Rattle.cel_value.specs.Values.{CelValue}
use Rattle.cel_tree.specs.Checked.{CelReference}
use Rattle.cel_overload.specs.Overloads.{IsCall}
use Rattle.cel_overload.specs.declared.overload.Overload.{Overload}
use Rattle.cel_types.specs.Names.{local}
use Rattle.cel_types.specs.Typing.{Kinds, RefAgrees, constant_type, name_type}

-- the constant is of an unsupported kind
abbrev pub UnsupportedConstant : CelValue → Refusal → Type 0
UnsupportedConstant v e = (constant_type v ≡ None) × (e ≡ Unsupported)

-- the type of an Ident is that of its name
abbrev pub IdentRule : Kinds → List ℕ → ValueType → Type 0
IdentRule ks name t = name_type name (local name ks) ≡ Some t

-- the type of a call is the result's type of an overload that takes the operands, the target first
abbrev pub CallRule : List ℕ → Bool → (Operands : List ValueType → Type 0) → ValueType → Type 0
CallRule name on Operands t =
    (ts : List ValueType) × Operands ts × (o : Overload) × IsCall name on ts o t

-- the names of a comprehension differ; the first variable's and the accumulator's are not empty
pub record NamesDiffer (x y acc : List ℕ) : Type 0 where
  pub element : x ≢ []
  pub gathered : acc ≢ []
  pub differ : x ≢ acc
  pub second : x ≢ y
  pub apart : y ≢ acc

-- the reference entry names another variable, or holds a value
abbrev pub RefDiffers : Option CelReference → List ℕ → Type 0
RefDiffers ref name = RefAgrees ref name → ⊥
