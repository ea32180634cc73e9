-- The elements of a list that are left.
use Rattle.std.specs.Prelude.{ℕ, Option, Some, None, List, []}
use Rattle.std.specs.Borrow.{Bor}
use Rattle.http_front.specs.declared.closing.Elements.{Elements}
use Rattle.http_front.specs.Closing.{elements}

-- the elements in the rest of a list; none if there is no rest
abbrev pub elements_of_rest : Option (Bor (List ℕ)) → List (List ℕ)
elements_of_rest None = []
elements_of_rest (Some rest) = elements rest.now

-- the elements that were not given yet
abbrev pub elements_left : Elements → List (List ℕ)
elements_left it = elements_of_rest it.rest
