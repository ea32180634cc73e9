-- How the verifier's pass changes its table.
use Rattle.std.specs.Prelude.{◌≡◌, ℕ, ◌+◌, ◌<◌, ◌≤◌, ◌⊎◌, List, [], ◌∷◌, length, Option, Some, None, slice_get, slice_set}
use Rattle.cel_value.specs.Types.{ValueType}
use Rattle.machine_code.specs.Instructions.{Instruction}
use Rattle.machine_code.specs.private.Places.{local_of}
use Rattle.machine_code.specs.Slots.{of}
use Rattle.machine_code.specs.Shapes.{Shape, Way, Serves, SlotsFit, empty, ways}
use Rattle.code_verifier.specs.declared.shape.Shape.{Shape as ShapeOfCode}
use Rattle.code_verifier.specs.declared.stacks.Entry.{Entry}
use Rattle.code_verifier.specs.declared.table.Table.{Table}
use Rattle.code_verifier.specs.private.Joining.{IsShapeJoin}
use Rattle.code_verifier.specs.private.ShapeView.{Known, ShapesStand, TableStands, known_view}
use Rattle.code_verifier.specs.private.Stacks.{Extends, stack_at}

-- a way from position `p` is noted. If its target is at or before `p`, it serves for the shape
-- there. If not, its shape is noted at the target, joined with the one there, if there is one
pub data Led (p : ℕ) (w : Way) (old new : Known) : Type 0 where
  back : w.target ≤ p → (due : Shape) → local_of old w.target ≡ Some due → Serves w.shape due
      → new ≡ old → Led p w old new
  fresh : p < w.target → w.target < length old → local_of old w.target ≡ None
      → new ≡ slice_set old w.target (Some w.shape) → Led p w old new
  met : p < w.target → w.target < length old → (due j : Shape) → local_of old w.target ≡ Some due
      → IsShapeJoin due w.shape (Some j) → new ≡ slice_set old w.target (Some j) → Led p w old new

-- a way from position `p` cannot be noted
pub data NotLed (p : ℕ) (w : Way) (old : Known) : Type 0 where
  outside : length old ≤ w.target → NotLed p w old
  unsettled : w.target ≤ p → local_of old w.target ≡ None → NotLed p w old
  no_service : w.target ≤ p → (due : Shape) → local_of old w.target ≡ Some due
      → (Serves w.shape due → ⊥) → NotLed p w old
  no_join : p < w.target → (due : Shape) → local_of old w.target ≡ Some due
      → IsShapeJoin due w.shape None → NotLed p w old

-- the ways are noted in order
abbrev pub LedAll : ℕ → List Way → Known → Known → Type 0
LedAll p [] old new = new ≡ old
LedAll p (w ∷ ws) old new = (mid : Known) × Led p w old mid × LedAll p ws mid new

-- one of the ways cannot be noted, after those before it are
abbrev pub NotLedAll : ℕ → List Way → Known → Type 0
NotLedAll p [] old = ⊥
NotLedAll p (w ∷ ws) old = NotLed p w old ⊎ ((mid : Known) × Led p w old mid × NotLedAll p ws mid)

-- the instruction at the position has a shape and the operands that it needs, and its ways are
-- noted
pub record Passed (code : List Instruction) (p : ℕ) (old new : Known) : Type 0 where
  pub shape : Shape
  pub instr : Instruction
  pub on : List Way
  pub known : local_of old p ≡ Some shape
  pub at : slice_get code p ≡ Some instr
  pub ways_on : ways instr p shape ≡ Some on
  pub led : LedAll p on old new

-- the instruction at the position has no shape, lacks an operand, or has a way that cannot be noted
pub data NotPassed (code : List Instruction) (p : ℕ) (old : Known) : Type 0 where
  unknown : local_of old p ≡ None → NotPassed code p old
  lacks : (shape : Shape) (i : Instruction) → local_of old p ≡ Some shape
      → slice_get code p ≡ Some i → ways i p shape ≡ None → NotPassed code p old
  not_led : (shape : Shape) (i : Instruction) (ws : List Way) → local_of old p ≡ Some shape
      → slice_get code p ≡ Some i → ways i p shape ≡ Some ws → NotLedAll p ws old
      → NotPassed code p old

-- only the shape of the start is known
pub record Starts (len : ℕ) (known : Known) : Type 0 where
  pub long : length known ≡ len + 1
  pub first : local_of known ≡ local_of (Some empty ∷ [])

-- the shape at the end is one slot that may be used as the type
pub record EndsAs (end : ℕ) (t : ValueType) (known : Known) : Type 0 where
  pub shape : Shape
  pub found : local_of known end ≡ Some shape
  pub one : SlotsFit shape.slots (of t ∷ [])

-- earlier stacks are as before, and the table's shapes have their stacks
pub record IsKept (old new : Table) : Type 0 where
  pub extends : Extends old.stacks new.stacks
  pub stand : TableStands new

-- only the shape of the start is known, with the empty stack, which has the number 0
pub record AreFirst (len : ℕ) (shapes : List (Option ShapeOfCode)) : Type 0 where
  pub starts : (stacks : List Entry) → stack_at stacks 0 ≡ []
      → Starts len (known_view stacks shapes)
  pub stand : (stacks : List Entry) → 0 < length stacks → ShapesStand stacks shapes
