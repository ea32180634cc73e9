-- Ten forms of paths that an application could read as another path. There are more (RFC 3986, sections 2.1, 3.3 and
-- 5.2.4; RFC 9110, section 4.2.3).
use Rattle.std.specs.Prelude.{◌≡◌, ℕ, ◌⊎◌, Bool, ◌||◌, ◌==◌, nat_lt, IsTrue, List, [], ◌∷◌, ◌++◌, codes}
use Rattle.std.specs.List.{before_first, list_any}
use Rattle.std.specs.Str.Iter.{HasSubslice}
use Rattle.head_map.specs.declared.path.PathFault.{PathFault}
use Rattle.head_map.specs.declared.path.PathFault.TheVariants as faults

-- all before the first `?` (63), which begins the query (RFC 3986, section 3.4)
abbrev pub before_query : List ℕ → List ℕ
before_query target = before_first (λ b. b == 63) target

-- all before the first `#` (35), which begins a fragment (RFC 3986, section 3.5)
abbrev pub before_fragment : List ℕ → List ℕ
before_fragment text = before_first (λ b. b == 35) text

-- the path ends in this text
abbrev pub EndsIn : List ℕ → List ℕ → Type 0
EndsIn path text = (front : List ℕ) × (path ≡ front ++ text)

-- a control byte (RFC 5234, appendix B.1: CTL)
abbrev pub is_control : ℕ → Bool
is_control b = nat_lt b 32 || b == 127

-- the path has this fault
abbrev pub HasPathFault : PathFault → List ℕ → Type 0
HasPathFault faults.DoubleSlash path = HasSubslice path (codes "//")
HasPathFault faults.DotSegment path = HasSubslice path (codes "/./") ⊎ EndsIn path (codes "/.")
HasPathFault faults.ParentSegment path =
    HasSubslice path (codes "/../") ⊎ EndsIn path (codes "/..")
HasPathFault faults.EncodedDot path =
    HasSubslice path (codes "%2e") ⊎ HasSubslice path (codes "%2E")
HasPathFault faults.EncodedSlash path =
    HasSubslice path (codes "%2f") ⊎ HasSubslice path (codes "%2F")
HasPathFault faults.EncodedBackslash path =
    HasSubslice path (codes "%5c") ⊎ HasSubslice path (codes "%5C")
HasPathFault faults.EncodedNull path = HasSubslice path (codes "%00")
-- a backslash (92)
HasPathFault faults.Backslash path = HasSubslice path (92 ∷ [])
HasPathFault faults.Semicolon path = HasSubslice path (codes ";")
HasPathFault faults.ControlByte path = IsTrue (list_any is_control path)

-- the target's path has this fault, by whichever rule it is read: it ends at the first `?`, or at a `#` before that
abbrev pub HasTargetFault : PathFault → List ℕ → Type 0
HasTargetFault fault target = HasPathFault fault (before_query target)
    ⊎ HasPathFault fault (before_fragment (before_query target))
