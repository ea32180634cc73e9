-- The join of shapes that arrive at one position.
use Rattle.std.specs.Prelude.{◌≡◌, ℕ, ◌<◌, List, [], ◌∷◌, length, Option, Some, None, option_map, if◌then◌else◌, IfSome}
use Rattle.std.specs.Option.{option_and_then}
use Rattle.machine_code.specs.Slots.{Slot, joined_slot}
use Rattle.machine_code.specs.Shapes.{Shape, Serves}
use Rattle.code_verifier.specs.declared.shape.Shape.{Shape as ShapeOfCode}
use Rattle.code_verifier.specs.declared.stacks.Entry.{Entry}
use Rattle.code_verifier.specs.private.ShapeView.{Stands, shape_view}
use Rattle.code_verifier.specs.private.SlotView.{slot_eq}
use Rattle.code_verifier.specs.private.Stacks.{Extends, stack_at}

-- the slots with this one before them; none if there are none
abbrev pub put_on : Option (List Slot) → Slot → Option (List Slot)
put_on None a = None
put_on (Some rest) a = Some (a ∷ rest)

-- the join of two stacks, slot by slot; none if two slots do not join or the lengths differ
abbrev pub joined_slots : List Slot → List Slot → Option (List Slot)
joined_slots [] [] = Some []
joined_slots (a ∷ as') (b ∷ bs) =
    option_and_then (λ j. put_on (joined_slots as' bs) j) (joined_slot a b)
joined_slots [] (b ∷ bs) = None
joined_slots (a ∷ as') [] = None

-- the slot of a local in two shapes, if both have the same
abbrev pub agreed : Option Slot → Option Slot → Option Slot
agreed None b = None
agreed (Some a) None = None
agreed (Some a) (Some b) = if slot_eq a b then Some a else None

-- the slots of locals in two shapes, as far as both have the same
abbrev pub common : (ℕ → Option Slot) → (ℕ → Option Slot) → ℕ → Option Slot
common f g = λ l. agreed (f l) (g l)

-- the first is the same as the second, if that one is known
abbrev pub Covers : Option Slot → Option Slot → Type 0
Covers known wanted = (a : Slot) → wanted ≡ Some a → known ≡ Some a

-- each local that `due` knows, `met` knows with the same slot
abbrev pub Knows : (ℕ → Option Slot) → (ℕ → Option Slot) → Type 0
Knows met due = (l : ℕ) → Covers (met l) (due l)

-- the join of two shapes: both serve for it, and it serves for every shape for which both serve.
-- None if they serve for no common shape
abbrev pub IsShapeJoin : Shape → Shape → Option Shape → Type 0
IsShapeJoin s t None = (u : Shape) → Serves s u → Serves t u → ⊥
IsShapeJoin s t (Some j) =
    Serves s j × Serves t j × ((u : Shape) → Serves s u → Serves t u → Serves j u)

-- a stack with these slots was made, or none was found; earlier stacks are as before
pub record IsStack (old new : List Entry) (found : Option ℕ)
    (slots : Option (List Slot)) : Type 0 where
  pub extends : Extends old new
  pub inside : IfSome found (λ i. i < length new)
  pub is : option_map (stack_at new) found ≡ slots

-- the join of two shapes was made, or they have none; earlier stacks are as before
pub record AreJoined (old new : List Entry) (met other : ShapeOfCode)
    (found : Option ShapeOfCode) : Type 0 where
  pub extends : Extends old new
  pub stand : IfSome found (Stands new)
  pub is : IsShapeJoin (shape_view old met) (shape_view old other)
      (option_map (shape_view new) found)
