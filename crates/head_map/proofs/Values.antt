-- The values of a name in lines, and the lines that a test keeps.
use Rattle.std.proofs.Common.{◌≡◌, ℕ, Bool, true, false, cond, List, [], ◌∷◌, Option, Some, None, filter, ap, refl}
use Rattle.std.specs.Borrow.{Bor}
use Rattle.std.specs.declared.alloc.Global.{Global}
use Rattle.std.specs.declared.string.String.{String}
use Rattle.attributes.specs.Headers.{Entry, line_view, lines_view}

-- the value that was found, as a list
abbrev pub list_of : Option (Bor (List ℕ)) → List (List ℕ)
list_of None = []
list_of (Some value) = value.now ∷ []

-- a test of lines as bytes keeps the same lines
pub filter_view : (test : Entry → Bool) (lines : List (String Global × String Global))
    → lines_view (filter (λ x. test (line_view x)) lines) ≡ filter test (lines_view lines)
filter_view test [] = refl
filter_view test (line ∷ lines) = elim (test (line_view line)) as (λ t.
    lines_view (cond t (line ∷ filter (λ x. test (line_view x)) lines) (filter (λ x. test (line_view x)) lines))
    ≡ cond t (line_view line ∷ filter test (lines_view lines)) (filter test (lines_view lines))) [
      | true ↦ ap (λ (more : List Entry). line_view line ∷ more) (filter_view test lines)
      | false ↦ filter_view test lines
    ]
