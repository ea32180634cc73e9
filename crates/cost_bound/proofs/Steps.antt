-- What each step of measuring adds up to.
use Rattle.std.proofs.Common.{◌≡◌, ℕ, suc, ◌+◌, ◌<◌, List, [], ◌∷◌, length, refl, ap, ◌∙◌, inl, inr}
use Rattle.attributes.specs.Limits.{LimitsValue}
use Rattle.cel_types.specs.Elaborated.{TypedTrees, no_typed, typed}
use Rattle.cel_types.specs.View.{TypedParts, loop_of}
use Rattle.cel_types.specs.private.ExprViews.{exprs_view}
use Rattle.cel_types.specs.declared.typed.TypedExpr.{TypedExpr}
use Rattle.cel_value.specs.Types.{ValueType}
use Rattle.std.specs.Prelude.{Result, IfErr, IfOk, IsErrAnd}
use Rattle.std.proofs.lemmas.Result.{IfOk-weaker}
use Rattle.proto_wire.proofs.Exits.{exit_memory_or, last_memory_or}
use Rattle.proto_wire.specs.Refusal.{MemoryOr}
use Rattle.proto_wire.specs.declared.refusal.Refusal.{Refusal}
use Rattle.cel_costs.specs.Costs.{cost_of, costs_of, grown, size_of, sizes_of, turns_cost, variable_sizes}
use Rattle.cel_costs.specs.Sizes.{Size, most_of}
use Rattle.cel_costs.specs.Visits.{turns_visits, visits_of}
use Rattle.cost_bound.specs.declared.budget.Budget.{Budget}
use Rattle.cost_bound.specs.declared.measured.Measured.{Measured}
use Rattle.cost_bound.specs.private.Measuring.{CostsMore, Exceeds, Finds, loop_visits, next_size, turn_cost, turn_visits}

-- there are as many costs as sizes
pub as_many : (es : TypedTrees) (l : LimitsValue) (ss : List Size)
    → length (costs_of es l ss) ≡ length (sizes_of es l ss)
as_many no_typed l ss = refl
as_many (typed e es) l ss = ap suc (as_many es l ss)

-- and as expressions
pub cost_count : (es : List TypedExpr) (l : LimitsValue) (ss : List Size)
    → length (costs_of (exprs_view es) l ss) ≡ length es
cost_count [] l ss = refl
cost_count (e ∷ es) l ss = ap suc (cost_count es l ss)

-- what exceeds what is left for a part makes the whole exceed its own
exceeds : (a u : ℕ) (rest : Budget) (b v : ℕ) (left : Budget) (e : Refusal) → (rest.steps < a → left.steps < b)
    → (rest.visits < u → left.visits < v) → Exceeds a u rest e → Exceeds b v left e
exceeds a u rest b v left e more seen (inl cost) = inl (cost.0, more cost.1)
exceeds a u rest b v left e more seen (inr count) = inr (count.0, seen count.1)

-- at a `?` on a part
pub exit_more : {T : Type 0} (a u : ℕ) (rest : Budget) (b v : ℕ) (left : Budget) (r : Result T Refusal) (e : Refusal)
    → IsErrAnd r (λ y. y ≡ e) → MemoryOr (Exceeds a u rest) e → (rest.steps < a → left.steps < b)
    → (rest.visits < u → left.visits < v) → IfErr r (MemoryOr (Exceeds b v left))
exit_more a u rest b v left r e told fault more seen =
    exit_memory_or (Exceeds a u rest) (Exceeds b v left) r e told fault
    (λ d f. exceeds a u rest b v left d more seen f)

-- at a charge
pub exit_charge : {T : Type 0} (a rest b v : ℕ) (left : Budget) (r : Result T Refusal) (e : Refusal)
    → IsErrAnd r (λ y. y ≡ e) → CostsMore a rest e → (rest < a → left.steps < b)
    → IfErr r (MemoryOr (Exceeds b v left))
exit_charge a rest b v left r e told fault more =
    exit_memory_or (CostsMore a rest) (Exceeds b v left) r e told (inr fault) (λ d f. inl (f.0, more f.1))

-- at a last call
pub last_more : {T : Type 0} (a u : ℕ) (rest : Budget) (b v : ℕ) (left : Budget) (r : Result T Refusal)
    → (rest.steps < a → left.steps < b) → (rest.visits < u → left.visits < v)
    → IfErr r (MemoryOr (Exceeds a u rest)) → IfErr r (MemoryOr (Exceeds b v left))
last_more a u rest b v left r more seen h =
    last_memory_or (Exceeds a u rest) (Exceeds b v left) r h (λ e f. exceeds a u rest b v left e more seen f)

-- at a last call that finds the rest
pub last_found : (size whole : Size) (a u b v : ℕ) (rest left : Budget) (r : Result Measured Refusal) → size ≡ whole
    → ((k : ℕ) → rest.steps ≡ a + k → left.steps ≡ b + k) → ((k : ℕ) → rest.visits ≡ u + k → left.visits ≡ v + k)
    → IfOk r (Finds size a u rest) → IfOk r (Finds whole b v left)
last_found size whole a u b v rest left r same paid seen h =
    IfOk-weaker r _ _ (λ m f. (f.0 ∙ same, paid m.left.steps f.1, seen m.left.visits f.2)) h

-- the cost of a comprehension, by the sizes of its parts
pub loop_costs : (p : TypedParts) (t : ValueType) (l : LimitsValue) (ss E : List Size) (R I G : Size) (n : ℕ)
    → R ≡ size_of p.range l ss → n ≡ most_of R → E ≡ variable_sizes p.variables R → I ≡ size_of p.init l ss
    → G ≡ grown (next_size p l E ss) n I
    → cost_of (loop_of t p) l ss ≡ cost_of p.range l ss + (1 + n) + cost_of p.init l ss + 1
    + turns_cost (next_size p l E ss) (turn_cost p l E ss) n I + 1 + cost_of p.result l (G ∷ ss)
loop_costs p t l ss E R I G n range most each init gathered =
    let most' : n ≡ most_of (size_of p.range l ss) = most ∙ ap most_of range in
    let each' : E ≡ variable_sizes p.variables (size_of p.range l ss) =
    each ∙ ap (variable_sizes p.variables) range in
    rw (gathered, each', most', init) refl

-- and its size
pub loop_size : (p : TypedParts) (t : ValueType) (l : LimitsValue) (ss E : List Size) (R I G : Size) (n : ℕ)
    → R ≡ size_of p.range l ss → n ≡ most_of R → E ≡ variable_sizes p.variables R → I ≡ size_of p.init l ss
    → G ≡ grown (next_size p l E ss) n I
    → size_of p.result l (G ∷ ss) ≡ size_of (loop_of t p) l ss
loop_size p t l ss E R I G n range most each init gathered =
    let most' : n ≡ most_of (size_of p.range l ss) = most ∙ ap most_of range in
    let each' : E ≡ variable_sizes p.variables (size_of p.range l ss) =
    each ∙ ap (variable_sizes p.variables) range in
    let all = rw (each', most', init) at gathered in
    ap (λ k. size_of p.result l (k ∷ ss)) all

-- and its visits
pub loop_seen : (p : TypedParts) (l : LimitsValue) (ss E : List Size) (R I G : Size) (n : ℕ)
    → R ≡ size_of p.range l ss → n ≡ most_of R → E ≡ variable_sizes p.variables R → I ≡ size_of p.init l ss
    → G ≡ grown (next_size p l E ss) n I
    → loop_visits p l ss ≡ visits_of p.range l ss + visits_of p.init l ss
    + turns_visits (next_size p l E ss) (turn_visits p l E ss) n I + visits_of p.result l (G ∷ ss)
loop_seen p l ss E R I G n range most each init gathered =
    let most' : n ≡ most_of (size_of p.range l ss) = most ∙ ap most_of range in
    let each' : E ≡ variable_sizes p.variables (size_of p.range l ss) =
    each ∙ ap (variable_sizes p.variables) range in
    rw (gathered, each', most', init) refl
