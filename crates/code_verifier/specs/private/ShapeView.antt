-- The shapes and ways that the verifier's values mean.
use Rattle.std.specs.Prelude.{◌≡◌, ℕ, ◌<◌, ◌≤◌, List, length, map, reverse, take, drop, Option, Some, None, option_map, IfSome}
use Rattle.std.specs.List.{AllByRecursion}
use Rattle.machine_code.specs.private.Places.{local_of}
use Rattle.machine_code.specs.Shapes.{Shape, Way}
use Rattle.code_verifier.specs.declared.shape.Shape.{Shape as ShapeOfCode}
use Rattle.code_verifier.specs.declared.shape.Due.{Due}
use Rattle.code_verifier.specs.declared.shape.Point.{Point}
use Rattle.code_verifier.specs.declared.stacks.Entry.{Entry}
use Rattle.code_verifier.specs.declared.literals.Taken.{Taken}
use Rattle.code_verifier.specs.declared.table.Table.{Table}
use Rattle.code_verifier.specs.private.SlotView.{slot_view, locals_view}
use Rattle.code_verifier.specs.private.Stacks.{Extends, stack_at}

-- the shape that the verifier's shape means, with these stacks
abbrev pub shape_view : List Entry → ShapeOfCode → Shape
shape_view stacks s = record {
  slots = stack_at stacks s.slots;
  locals = locals_view s.locals.value.items;
  loops = stack_at stacks s.loops;
}

-- the way that a `Due` means, with these stacks
abbrev pub way_view : List Entry → Due → Way
way_view stacks d = record { target = d.target; shape = shape_view stacks d.shape }

-- the shape's two stacks are among these
pub record Stands (stacks : List Entry) (s : ShapeOfCode) : Type 0 where
  pub slots : s.slots < length stacks
  pub loops : s.loops < length stacks

-- the stacks of each way's shape are among these
abbrev pub WaysStand : List Entry → List Due → Type 0
WaysStand stacks ways = AllByRecursion (λ (d : Due). Stands stacks d.shape) ways

-- these ways were made, or none; earlier stacks are as before
pub record AreWays (old new : List Entry) (found : Option (List Due))
    (on : Option (List Way)) : Type 0 where
  pub extends : Extends old new
  pub stand : IfSome found (WaysStand new)
  pub is : option_map (map (way_view new)) found ≡ on

-- the ways of an instruction were made at a point, or none
abbrev pub AreWaysAt : (old new : List Entry) → Point → Option (List Due) → (ℕ → Shape → Option (List Way)) → Type 0
AreWaysAt old new point found on = AreWays old new found (on point.position (shape_view old point.shape.now))

-- the topmost `n` slots of a stack are taken, the lowest first; none if it has fewer
abbrev pub AreTaken : List Entry → ℕ → ℕ → Option Taken → Type 0
AreTaken stacks i n None = length (stack_at stacks i) < n
AreTaken stacks i n (Some taken) =
    (n ≤ length (stack_at stacks i)) × (taken.rest < length stacks)
    × (map slot_view taken.slots ≡ reverse (take n (stack_at stacks i)))
    × (stack_at stacks taken.rest ≡ drop n (stack_at stacks i))

-- ---- the table

-- the shapes that are known so far, by position
abbrev pub Known : Type 0
Known = List (Option Shape)

-- the shapes that those of the verifier mean, by position
abbrev pub known_view : List Entry → List (Option ShapeOfCode) → Known
known_view stacks shapes = map (option_map (shape_view stacks)) shapes

-- the shapes of the verifier's table
abbrev pub table_view : Table → Known
table_view t = known_view t.stacks t.shapes.items

-- the stacks of each shape are among these
abbrev pub ShapesStand : List Entry → List (Option ShapeOfCode) → Type 0
ShapesStand stacks shapes = (p : ℕ) (s : ShapeOfCode) → local_of shapes p ≡ Some s → Stands stacks s

-- the table has the stacks of its shapes
abbrev pub TableStands : Table → Type 0
TableStands t = ShapesStand t.stacks t.shapes.items
