-- The results of runs of conditions, policy by policy.
use Rattle.std.specs.Prelude.{◌≡◌, ◌≤◌, ◌⊎◌, ◌+◌, ℕ, Bool, true, false, List, [], ◌∷◌, Option, Some, None, MatchOption, IsSomeAnd}
use Rattle.std.specs.List.{AllByRecursion}
use Rattle.attributes.specs.Request.{RequestValue}
use Rattle.cel_value.specs.Values.{CelAnswer}
use Rattle.machine_code.specs.Machine.{Ends, RunsOut}
use Rattle.rbac_policy.specs.Condition.{Program, came_true}
use Rattle.rbac_policy.specs.Filter.{Policy}
use Rattle.rbac_policy.specs.Verdict.{sides_match}

-- the program's run ends within its bound; `is_true` says whether it ends with true
abbrev pub RunsAs : RequestValue → Program → Bool → Type 0
RunsAs r program is_true = (answer : CelAnswer) × (steps : ℕ) × Ends program.code r answer steps
    × (steps ≤ program.bound) × (is_true ≡ came_true (Some answer))

-- whether the policy matches, by its sides, and then by the run of its condition
abbrev pub MatchesByRun : RequestValue → Policy Program → Bool → Type 0
MatchesByRun r p matches = ((sides_match r p ≡ false) × (matches ≡ false))
    ⊎ ((sides_match r p ≡ true)
    × MatchOption p.condition (matches ≡ true) (λ program. RunsAs r program matches))

-- none of the policies matches
abbrev pub HaveFailed : RequestValue → List (Policy Program) → Type 0
HaveFailed r ps = AllByRecursion (λ p. MatchesByRun r p false) ps

-- the number of the first policy that matches, if the first policy has the number `i`
abbrev pub IsFirst : RequestValue → ℕ → List (Policy Program) → Option ℕ → Type 0
IsFirst r i [] first = first ≡ None
IsFirst r i (p ∷ ps) first =
    (MatchesByRun r p true × (first ≡ Some i)) ⊎ (MatchesByRun r p false × IsFirst r (i + 1) ps first)

-- the policy's sides match, and `P` holds of its condition's program
abbrev pub Asks : (Program → Type 0) → RequestValue → Policy Program → Type 0
Asks P r p = (sides_match r p ≡ true) × IsSomeAnd p.condition P

-- the same for one of the policies, if no policy before it matches
abbrev pub OnePolicyAsks : (Program → Type 0) → RequestValue → List (Policy Program) → Type 0
OnePolicyAsks P r [] = ⊥
OnePolicyAsks P r (p ∷ ps) = Asks P r p ⊎ (MatchesByRun r p false × OnePolicyAsks P r ps)

-- the program's run takes more steps than its bound
abbrev pub ExceedsBound : RequestValue → Program → Type 0
ExceedsBound r program = RunsOut program.code r program.bound

-- this holds of every program
abbrev pub AnyProgram : Program → Type 0
AnyProgram program = Unit {0}

-- none of the policies has a condition
abbrev pub HaveNoConditions : List (Policy Program) → Type 0
HaveNoConditions [] = Unit {0}
HaveNoConditions (p ∷ ps) = (p.condition ≡ None) × HaveNoConditions ps
