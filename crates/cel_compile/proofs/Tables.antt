-- The table of an expression's code: what is known at each of its positions, by the expression's types.
use Rattle.std.proofs.Common.{ℕ, suc, ◌+◌, ◌<◌, ◌≤◌, List, ◌∷◌, ◌++◌, length, arith}
use Rattle.cel_value.specs.Types.{ValueType}
use Rattle.cel_ops.specs.declared.operation.Operation.TheVariants as operations
use Rattle.cel_overload.specs.declared.overload.Overload.TheVariants as overloads
use Rattle.cel_types.specs.Elaborated.{TypedTree, typed_constant, typed_local, typed_attribute, typed_field, typed_has, typed_call, typed_list, typed_map, typed_loop, TypedTrees, no_typed, typed, kind, kinds}
use Rattle.cel_types.specs.Names.{variable_count}
use Rattle.machine_code.specs.Instructions.{Instruction}
use Rattle.machine_code.specs.Locals.{with_local}
use Rattle.machine_code.specs.Shapes.{Shape}
use Rattle.machine_code.specs.Slots.{Slot, of}
use Rattle.machine_code.specs.Typable.{Table}
use Rattle.cel_compile.proofs.Leading.{locals_of, pushed, shape, walked}
use Rattle.cel_compile.proofs.Placing.{Placed, PlacedAll}
use Rattle.cel_compile.proofs.Settling.{cut, spot}

-- the last position
abbrev pub last : Shape → Table
last s = λ r. s

-- behind a comprehension's step: what is gathered is set again, and the variables are known still
abbrev pub turned : (each : List ValueType) (gathered step : ValueType) → List Slot → List ValueType → List Slot → Shape
turned each gathered step slots ks loops = record {
  slots = slots;
  locals = with_local (locals_of (each ++ gathered ∷ ks)) (length ks) (of step);
  loops = loops;
}

module _ (code : List Instruction) where
  abbrev mutual
    -- the shapes of an expression's code from p up to q, with locals of these types in scope, above these
    -- slots and in these loops
    pub table_of : (e : TypedTree) (p d q : ℕ) → Placed code p d e q → List ValueType → List Slot → List Slot → Table
    table_of (typed_constant t v) p d q x ks slots loops = last (shape slots ks loops)
    table_of (typed_local t outside) p d q x ks slots loops = last (shape slots ks loops)
    table_of (typed_attribute t a) p d q x ks slots loops = last (shape slots ks loops)
    table_of (typed_field t on name) p d q x ks slots loops =
        cut x.0 (table_of on p d x.0 x.1 ks slots loops) (last (shape (of (kind on) ∷ slots) ks loops))
    table_of (typed_has t on name) p d q x ks slots loops =
        cut x.0 (table_of on p d x.0 x.1 ks slots loops) (last (shape (of (kind on) ∷ slots) ks loops))
    table_of (typed_call t (overloads.Operate operations.And) (typed a (typed b no_typed))) p d q x ks slots loops =
        let left = of (kind a) ∷ slots in
        cut x.0 (table_of a p d x.0 x.2 ks slots loops) (spot x.0 (shape left ks loops)
        (cut x.1 (table_of b (x.0 + 1) d x.1 x.4 ks left loops) (last (shape (of (kind b) ∷ left) ks loops))))
    table_of (typed_call t (overloads.Operate operations.Or) (typed a (typed b no_typed))) p d q x ks slots loops =
        let left = of (kind a) ∷ slots in
        cut x.0 (table_of a p d x.0 x.2 ks slots loops) (spot x.0 (shape left ks loops)
        (cut x.1 (table_of b (x.0 + 1) d x.1 x.4 ks left loops) (last (shape (of (kind b) ∷ left) ks loops))))
    table_of (typed_call t overloads.Conditional (typed c (typed a (typed b no_typed)))) p d q x ks slots loops =
        cut x.0 (table_of c p d x.0 x.2 ks slots loops) (spot x.0 (shape (of (kind c) ∷ slots) ks loops)
        (cut x.1 (table_of a (x.0 + 1) d x.1 x.4 ks slots loops) (spot x.1 (shape (of (kind a) ∷ slots) ks loops)
        (table_of b (x.1 + 1) d q x.6 ks slots loops))))
    table_of (typed_call t o operands) p d q x ks slots loops =
        cut x.0 (tables_of operands p d x.0 x.1 ks slots loops) (last (shape (pushed (kinds operands) slots) ks loops))
    table_of (typed_list t elements) p d q x ks slots loops =
        cut x.0 (tables_of elements p d x.0 x.1 ks slots loops) (last (shape (pushed (kinds elements) slots) ks loops))
    table_of (typed_map t entries) p d q x ks slots loops =
        cut x.0 (tables_of entries p d x.0 x.1 ks slots loops) (last (shape (pushed (kinds entries) slots) ks loops))
    table_of (typed_loop t vars range init condition step result) p d q (m, n, k, l, pr, h1, pi, h2, h3, pc, h4, ps, h5, h6, pe) ks slots loops =
        let each = walked vars (kind range) in
        let outer = kind init ∷ ks in
        let inner = each ++ outer in
        let over = of (kind range) ∷ loops in
        cut m (table_of range p d m pr ks slots loops) (spot m (shape (of (kind range) ∷ slots) ks loops)
        (cut n (table_of init (m + 1) d n pi ks slots over) (spot n (shape (of (kind init) ∷ slots) ks over)
        (spot (n + 1) (shape slots outer over)
        (cut k (table_of condition (n + 1 + 1) (variable_count vars + suc d) k pc inner slots over) (spot k (shape (of (kind condition) ∷ slots) inner over)
        (cut l (table_of step (k + 1) (variable_count vars + suc d) l ps inner slots over) (spot l (shape (of (kind step) ∷ slots) inner over)
        (spot (l + 1) (turned each (kind init) (kind step) slots ks over)
        (table_of result (l + 1 + 1) (suc d) q pe outer slots loops))))))))))

    -- the same of expressions one after the other
    pub tables_of : (es : TypedTrees) (p d q : ℕ) → PlacedAll code p d es q → List ValueType → List Slot → List Slot → Table
    tables_of no_typed p d q x ks slots loops = last (shape slots ks loops)
    tables_of (typed e es) p d q x ks slots loops =
        cut x.0 (table_of e p d x.0 x.1 ks slots loops) (tables_of es x.0 d q x.2 ks (of (kind e) ∷ slots) loops)

  mutual
    -- each expression has code
    pub longer : (e : TypedTree) (p d q : ℕ) → Placed code p d e q → p < q
    longer (typed_constant t v) p d q x = let end = x.1 in omega (arith, end)
    longer (typed_local t outside) p d q x = let end = x.1 in omega (arith, end)
    longer (typed_attribute t a) p d q x = let end = x.1 in omega (arith, end)
    longer (typed_field t on name) p d q (m, po, h, e) = let lt = longer on p d m po in omega (arith, lt, e)
    longer (typed_has t on name) p d q (m, po, h, e) = let lt = longer on p d m po in omega (arith, lt, e)
    longer (typed_call t (overloads.Operate operations.And) (typed a (typed b no_typed))) p d q (m, n, pa, h1, pb, h2, e) =
        let la = longer a p d m pa in
        let lb = longer b (m + 1) d n pb in
        omega (arith, la, lb, e)
    longer (typed_call t (overloads.Operate operations.Or) (typed a (typed b no_typed))) p d q (m, n, pa, h1, pb, h2, e) =
        let la = longer a p d m pa in
        let lb = longer b (m + 1) d n pb in
        omega (arith, la, lb, e)
    longer (typed_call t overloads.Conditional (typed c (typed a (typed b no_typed)))) p d q (m, n, pc, h1, pa, h2, pb) =
        let lc = longer c p d m pc in
        let la = longer a (m + 1) d n pa in
        let lb = longer b (n + 1) d q pb in
        omega (arith, lc, la, lb)
    longer (typed_call t o operands) p d q x =
        let le = longer_all operands p d x.0 x.1 in
        let end = x.3 in
        omega (arith, le, end)
    longer (typed_list t elements) p d q (m, po, h, e) = let le = longer_all elements p d m po in omega (arith, le, e)
    longer (typed_map t entries) p d q (m, po, h, e) = let le = longer_all entries p d m po in omega (arith, le, e)
    longer (typed_loop t vars range init condition step result) p d q (m, n, k, l, pr, h1, pi, h2, h3, pc, h4, ps, h5, h6, pe) =
        let lr = longer range p d m pr in
        let li = longer init (m + 1) d n pi in
        let lc = longer condition (n + 1 + 1) (variable_count vars + suc d) k pc in
        let ls = longer step (k + 1) (variable_count vars + suc d) l ps in
        let le = longer result (l + 1 + 1) (suc d) q pe in
        omega (arith, lr, li, lc, ls, le)

    pub longer_all : (es : TypedTrees) (p d q : ℕ) → PlacedAll code p d es q → p ≤ q
    longer_all no_typed p d q x = omega (arith, x)
    longer_all (typed e es) p d q (m, pe, ps) =
        let first = longer e p d m pe in
        let others = longer_all es m d q ps in
        omega (arith, first, others)
