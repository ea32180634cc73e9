-- The sizes of the locals in scope.
use Rattle.std.specs.Prelude.{List, [], ◌∷◌}
use denote.Ref.{Bor}
use Rattle.cel_costs.specs.Sizes.{Size}
use Rattle.cost_bound.specs.private.SizeView.{size_view}
use Rattle.cost_bound.specs.declared.size.ValueSize.{ValueSize}

-- the sizes of these locals, each inside of those before it, and of the ones outside of them
abbrev pub sizes_onto : List Size → List (Bor ValueSize) → List Size
sizes_onto outer [] = outer
sizes_onto outer (s ∷ ss) = sizes_onto (size_view s.now ∷ outer) ss

-- the sizes of the locals that a list means, the innermost first
abbrev pub scope_view : List (Bor ValueSize) → List Size
scope_view ss = sizes_onto [] ss

-- the same of locals in two lists, the outer ones first
abbrev pub scope_of : (outer inner : List (Bor ValueSize)) → List Size
scope_of outer inner = sizes_onto (scope_view outer) inner
