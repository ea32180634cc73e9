-- The list of all faults of a path lacks none.
use Rattle.std.proofs.Common.{ℕ, List, [], ◌∷◌, Option, Some, None, All, IfNone, MatchOption, arith, inl, inr}
use Rattle.head_map.specs.declared.path.PathFault.{PathFault}
use Rattle.head_map.specs.declared.path.PathFault.TheVariants as faults
use Rattle.head_map.specs.Paths.{HasPathFault, HasTargetFault, before_fragment, before_query}

-- every fault
abbrev pub every_fault : List PathFault
every_fault =
    faults.DoubleSlash ∷ faults.DotSegment ∷ faults.ParentSegment ∷ faults.EncodedDot
    ∷ faults.EncodedSlash ∷ faults.EncodedBackslash ∷ faults.EncodedNull ∷ faults.Backslash
    ∷ faults.Semicolon ∷ faults.ControlByte ∷ []

-- what holds of all in the list holds of each fault
of_all : (P : PathFault → Type 0) → All P every_fault → (fault : PathFault) → P fault
of_all P all faults.DoubleSlash = all 0 faults.DoubleSlash (omega arith)
of_all P all faults.DotSegment = all 1 faults.DotSegment (omega arith)
of_all P all faults.ParentSegment = all 2 faults.ParentSegment (omega arith)
of_all P all faults.EncodedDot = all 3 faults.EncodedDot (omega arith)
of_all P all faults.EncodedSlash = all 4 faults.EncodedSlash (omega arith)
of_all P all faults.EncodedBackslash = all 5 faults.EncodedBackslash (omega arith)
of_all P all faults.EncodedNull = all 6 faults.EncodedNull (omega arith)
of_all P all faults.Backslash = all 7 faults.Backslash (omega arith)
of_all P all faults.Semicolon = all 8 faults.Semicolon (omega arith)
of_all P all faults.ControlByte = all 9 faults.ControlByte (omega arith)

-- a path that has no fault of the list has no fault
pub none_of_all : (found : Option PathFault) (path : List ℕ)
    → MatchOption found (All (λ fault. ¬ (HasPathFault fault path)) every_fault) (λ fault. HasPathFault fault path)
    → IfNone found ((fault : PathFault) → ¬ (HasPathFault fault path))
none_of_all (Some fault) path h = tt
none_of_all None path h = of_all (λ fault. ¬ (HasPathFault fault path)) h

-- a target whose path has no fault by either rule has no fault
pub none_by_either : (found : Option PathFault) (target : List ℕ)
    → ((fault : PathFault) → ¬ (HasPathFault fault (before_query target)))
    → IfNone found ((fault : PathFault) → ¬ (HasPathFault fault (before_fragment (before_query target))))
    → IfNone found ((fault : PathFault) → ¬ (HasTargetFault fault target))
none_by_either (Some fault) target one two = tt
none_by_either None target one two = λ fault has. elim has [
  | inl first ↦ one fault first
  | inr second ↦ two fault second
]
