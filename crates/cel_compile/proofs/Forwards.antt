-- One pass finds the table of every expression's code, by induction on the expression.
use Rattle.std.proofs.Common.{◌≡◌, ℕ, suc, ◌+◌, ◌<◌, ◌≤◌, inl, inr, List, [], ◌∷◌, ◌++◌, length, length-append, Some, refl, sym, ap, ◌∙◌, subst, arith, slice_get}
use Rattle.std.proofs.lemmas.Bool.{cases_lt}
use Rattle.std.proofs.lemmas.Option.{slice_get_within}
use Rattle.cel_value.specs.Types.{ValueType, bool_type, map_type}
use Rattle.cel_value.specs.declared.cel_type.KeyType.TheVariants as keys
use Rattle.cel_ops.specs.declared.operation.Operation.TheVariants as operations
use Rattle.cel_overload.specs.declared.overload.Overload.TheVariants as overloads
use Rattle.cel_tree.specs.Checked.{CelChecked}
use Rattle.cel_tree.specs.GoodConstants.{HasGoodConstants}
use Rattle.cel_types.specs.Elaborated.{IsElaborated, TypedTree, typed_constant, typed_local, typed_attribute, typed_field, typed_has, typed_call, typed_list, typed_map, typed_loop, TypedTrees, no_typed, typed, kind, kinds}
use Rattle.cel_types.specs.Names.{variable_count}
use Rattle.cel_types.specs.Typing.{IsOver, maps_of}
use Rattle.cel_types.specs.WellTyped.{AreWellTyped, IsWellTyped}
use Rattle.cel_types.proofs.WellTypedElaborations.{elaborated_typed}
use Rattle.machine_code.specs.Instructions.{Instruction, Attr, Const, Field, HasField, IfFalse, IfTrue, Load, Operate}
use Rattle.machine_code.specs.Shapes.{Serves, leaves, ways}
use Rattle.machine_code.specs.Slots.{Slot, field_slot, has_field_slot, of}
use Rattle.machine_code.specs.Typable.{Forward, Table}
use Rattle.cel_compile.specs.Codes.{code_of, instruction_of, list_instruction, map_instruction}
use Rattle.cel_compile.specs.private.Extents.{extent}
use Rattle.cel_compile.proofs.Forks.{both_flow, choice_flow, if_false, if_true, less_serves, loop_flow, tests}
use Rattle.cel_compile.proofs.Leading.{call_leaves, constant_known, known_local, list_leaves, map_leaves, pushed, shape, to, walked, walked_is}
use Rattle.cel_compile.proofs.Placing.{Placed, PlacedAll, extent_is, has_all, placed}
use Rattle.cel_compile.proofs.Settling.{Agrees, Flows, Settled, back, cut, front, here, known, next, plain, serves_same, serves_trans, spot, then_flows}
use Rattle.cel_compile.proofs.Turns.{over_count}
use Rattle.cel_compile.proofs.Tables.{last, longer, longer_all, table_of, tables_of}

-- ---- what a field leaves

field_leaves : (ks : List ValueType) (slots loops : List Slot) (m : ℕ) (k t : ValueType) (name : List ℕ) → k ≡ map_type keys.Text t
    → ways (Field name) m (shape (of k ∷ slots) ks loops) ≡ Some (to (m + 1) (shape (of t ∷ slots) ks loops) ∷ [])
field_leaves ks slots loops m k t name is =
    ap (λ k. leaves (field_slot (of k)) m (shape (of k ∷ slots) ks loops) slots) is

has_leaves : (ks : List ValueType) (slots loops : List Slot) (m : ℕ) (k s t : ValueType) (name : List ℕ) → k ≡ map_type keys.Text s → t ≡ bool_type
    → ways (HasField name) m (shape (of k ∷ slots) ks loops) ≡ Some (to (m + 1) (shape (of t ∷ slots) ks loops) ∷ [])
has_leaves ks slots loops m k s t name is bool =
    ap (λ k. leaves (has_field_slot (of k)) m (shape (of k ∷ slots) ks loops) slots) is
    ∙ ap (λ t. Some (to (m + 1) (shape (of t ∷ slots) ks loops) ∷ [])) (sym bool)

-- ---- every expression

module _ (code : List Instruction) (table : Table) where
  -- the table of operands, and the shape behind them
  operand_tables : (es : TypedTrees) (p d m q : ℕ) (x : PlacedAll code p d es m) → q ≡ m + 1 → (ks : List ValueType) (slots loops : List Slot)
      → Agrees table (cut m (tables_of code es p d m x ks slots loops) (last (shape (pushed (kinds es) slots) ks loops))) p q
      → Agrees table (tables_of code es p d m x ks slots loops) p m × (table m ≡ shape (pushed (kinds es) slots) ks loops)
  operand_tables es p d m q x e ks slots loops agrees =
      let le = longer_all code es p d m x in (
        front table _ _ p m q agrees (omega (arith, e)),
        back table _ _ p m q agrees le m (omega arith) (omega (arith, e)),
      )

  -- the tables of two operands of which the second may be passed over, and the shapes behind them
  both_tables : (a b : TypedTree) (p d m n q : ℕ) (x : Placed code p d a m) (y : Placed code (m + 1) d b n) → q ≡ n + 1
      → (ks : List ValueType) (slots loops : List Slot)
      → Agrees table (cut m (table_of code a p d m x ks slots loops) (spot m (shape (of (kind a) ∷ slots) ks loops)
      (cut n (table_of code b (m + 1) d n y ks (of (kind a) ∷ slots) loops) (last (shape (of (kind b) ∷ of (kind a) ∷ slots) ks loops))))) p q
      → Agrees table (table_of code a p d m x ks slots loops) p m × (table m ≡ shape (of (kind a) ∷ slots) ks loops)
      × Agrees table (table_of code b (m + 1) d n y ks (of (kind a) ∷ slots) loops) (m + 1) n
      × (table n ≡ shape (of (kind b) ∷ of (kind a) ∷ slots) ks loops)
  both_tables a b p d m n q x y e ks slots loops agrees =
      let la = longer code a p d m x in
      let lb = longer code b (m + 1) d n y in
      let from_m = back table _ _ p m q agrees (omega (arith, la)) in
      let from_b = next table _ (shape (of (kind a) ∷ slots) ks loops) m q from_m in (
        front table _ _ p m q agrees (omega (arith, lb, e)),
        here table _ (shape (of (kind a) ∷ slots) ks loops) m q from_m (omega (arith, lb, e)),
        front table _ _ (m + 1) n q from_b (omega (arith, e)),
        back table _ _ (m + 1) n q from_b (omega (arith, lb)) n (omega arith) (omega (arith, e)),
      )

  -- operands, and an instruction that leaves one slot in their place
  call_flow : (ks : List ValueType) (slots loops : List Slot) (ts : List ValueType) (t : ValueType) (i : Instruction) (p m q : ℕ)
      → slice_get code m ≡ Some i → q ≡ m + 1 → table m ≡ shape (pushed ts slots) ks loops
      → ways i m (shape (pushed ts slots) ks loops) ≡ Some (to (m + 1) (shape (of t ∷ slots) ks loops) ∷ [])
      → q ≤ length code → Serves (shape (of t ∷ slots) ks loops) (table q)
      → Flows code table p m (shape (pushed ts slots) ks loops) → Flows code table p q (shape (of t ∷ slots) ks loops)
  call_flow ks slots loops ts t i p m q h e is made le serves operands =
      let s = shape (pushed ts slots) ks loops in
      let r = shape (of t ∷ slots) ks loops in
      then_flows code table p m q s r operands is
      (λ there. plain code table m q i s r (record { at = h; is = is; found = made }) e le serves there)

  mutual
    -- the first shape of an expression's table is the one that its code begins with
    begins : (e : TypedTree) (p d q : ℕ) (x : Placed code p d e q) (ks : List ValueType) (slots loops : List Slot)
        → Agrees table (table_of code e p d q x ks slots loops) p q → table p ≡ shape slots ks loops
    begins (typed_constant t v) p d q x ks slots loops agrees = agrees p (omega arith) (longer code (typed_constant t v) p d q x)
    begins (typed_local t outside) p d q x ks slots loops agrees = agrees p (omega arith) (longer code (typed_local t outside) p d q x)
    begins (typed_attribute t a) p d q x ks slots loops agrees = agrees p (omega arith) (longer code (typed_attribute t a) p d q x)
    begins (typed_field t on name) p d q (m, po, h, e) ks slots loops agrees =
        begins on p d m po ks slots loops (front table _ _ p m q agrees (omega arith))
    begins (typed_has t on name) p d q (m, po, h, e) ks slots loops agrees =
        begins on p d m po ks slots loops (front table _ _ p m q agrees (omega arith))
    begins (typed_call t (overloads.Operate operations.And) (typed a (typed b no_typed))) p d q (m, n, pa, h1, pb, h2, e) ks slots loops agrees =
        begins a p d m pa ks slots loops (both_tables a b p d m n q pa pb e ks slots loops agrees).0
    begins (typed_call t (overloads.Operate operations.Or) (typed a (typed b no_typed))) p d q (m, n, pa, h1, pb, h2, e) ks slots loops agrees =
        begins a p d m pa ks slots loops (both_tables a b p d m n q pa pb e ks slots loops agrees).0
    begins (typed_call t overloads.Conditional (typed c (typed a (typed b no_typed)))) p d q (m, n, pc, h1, pa, h2, pb) ks slots loops agrees =
        let la = longer code a (m + 1) d n pa in
        let lb = longer code b (n + 1) d q pb in
        begins c p d m pc ks slots loops (front table _ _ p m q agrees (omega (arith, la, lb)))
    begins (typed_call t o operands) p d q x ks slots loops agrees =
        let parts = operand_tables operands p d x.0 q x.1 x.3 ks slots loops agrees in
        begins_all operands p d x.0 x.1 ks slots loops parts.0 parts.1
    begins (typed_list t elements) p d q (m, po, h, e) ks slots loops agrees =
        let parts = operand_tables elements p d m q po e ks slots loops agrees in
        begins_all elements p d m po ks slots loops parts.0 parts.1
    begins (typed_map t entries) p d q (m, po, h, e) ks slots loops agrees =
        let parts = operand_tables entries p d m q po e ks slots loops agrees in
        begins_all entries p d m po ks slots loops parts.0 parts.1
    begins (typed_loop t vars range init condition step result) p d q (m, n, k, l, pr, h1, pi, h2, h3, pc, h4, ps, h5, h6, pe) ks slots loops agrees =
        let li = longer code init (m + 1) d n pi in
        let lc = longer code condition (n + 1 + 1) (variable_count vars + suc d) k pc in
        let ls = longer code step (k + 1) (variable_count vars + suc d) l ps in
        let le = longer code result (l + 1 + 1) (suc d) q pe in
        begins range p d m pr ks slots loops (front table _ _ p m q agrees (omega (arith, li, lc, ls, le)))

    begins_all : (es : TypedTrees) (p d q : ℕ) (x : PlacedAll code p d es q) (ks : List ValueType) (slots loops : List Slot)
        → Agrees table (tables_of code es p d q x ks slots loops) p q → table q ≡ shape (pushed (kinds es) slots) ks loops
        → table p ≡ shape slots ks loops
    begins_all no_typed p d q x ks slots loops agrees end = let same : p ≡ q = omega (arith, x) in ap table same ∙ end
    begins_all (typed e es) p d q (m, pe, ps) ks slots loops agrees end =
        let le = longer_all code es m d q ps in
        begins e p d m pe ks slots loops (front table _ _ p m q agrees le)

  -- what follows from an expression's table, with another word for the number of locals
  at_scope : (d c : ℕ) → d ≡ c → (e : TypedTree) (p q : ℕ) (ks : List ValueType) (slots loops : List Slot)
      → ((x : Placed code p d e q) → Agrees table (table_of code e p d q x ks slots loops) p q → Flows code table p q (shape (of (kind e) ∷ slots) ks loops))
      → (x : Placed code p c e q) → Agrees table (table_of code e p c q x ks slots loops) p q → Flows code table p q (shape (of (kind e) ∷ slots) ks loops)
  at_scope d c same e p q ks slots loops way =
      subst (λ n. (x : Placed code p n e q) → Agrees table (table_of code e p n q x ks slots loops) p q → Flows code table p q (shape (of (kind e) ∷ slots) ks loops)) same way

  mutual
    flows : (e : TypedTree) (p q : ℕ) (ks : List ValueType) (slots loops : List Slot)
        → IsWellTyped ks e → (x : Placed code p (length ks) e q) → Agrees table (table_of code e p (length ks) q x ks slots loops) p q
        → q ≤ length code → Settled code table p (table p) → Serves (shape (of (kind e) ∷ slots) ks loops) (table q)
        → Flows code table p q (shape (of (kind e) ∷ slots) ks loops)
    flows (typed_constant t v) p q ks slots loops g (h, e) agrees le settled serves =
        let s = shape slots ks loops in
        let r = shape (of t ∷ slots) ks loops in
        let known = ap (λ o. leaves o p s slots) (constant_known v t g.0 g.1) in
        plain code table p q (Const v) s r (record { at = h; is = agrees p (omega arith) (omega arith); found = known }) e le serves settled
    flows (typed_local t outside) p q ks slots loops g (h, e) agrees le settled serves =
        let s = shape slots ks loops in
        let r = shape (of t ∷ slots) ks loops in
        let known = ap (λ o. leaves o p s slots) (known_local ks outside t g) in
        plain code table p q (Load outside) s r (record { at = h; is = agrees p (omega arith) (omega arith); found = known }) e le serves settled
    flows (typed_attribute t a) p q ks slots loops g (h, e) agrees le settled serves =
        let s = shape slots ks loops in
        let r = shape (of t ∷ slots) ks loops in
        let known = ap (λ t. Some (to (p + 1) (shape (of t ∷ slots) ks loops) ∷ [])) (sym g) in
        plain code table p q (Attr a) s r (record { at = h; is = agrees p (omega arith) (omega arith); found = known }) e le serves settled
    flows (typed_field t on name) p q ks slots loops g (m, po, h, e) agrees le settled serves =
        let lt = longer code on p (length ks) m po in
        let s = shape (of (kind on) ∷ slots) ks loops in
        let r = shape (of t ∷ slots) ks loops in
        let is = back table _ _ p m q agrees (omega (arith, lt)) m (omega arith) (omega (arith, e)) in
        let first = flows on p m ks slots loops g.0 po (front table _ _ p m q agrees (omega (arith, e))) (omega (arith, e, le)) settled (serves_same s (table m) (sym is)) in
        then_flows code table p m q s r first is
        (λ there. plain code table m q (Field name) s r (record { at = h; is = is; found = field_leaves ks slots loops m (kind on) t name g.1 }) e le serves there)
    flows (typed_has t on name) p q ks slots loops g (m, po, h, e) agrees le settled serves =
        let lt = longer code on p (length ks) m po in
        let s = shape (of (kind on) ∷ slots) ks loops in
        let r = shape (of t ∷ slots) ks loops in
        let is = back table _ _ p m q agrees (omega (arith, lt)) m (omega arith) (omega (arith, e)) in
        let first = flows on p m ks slots loops g.0 po (front table _ _ p m q agrees (omega (arith, e))) (omega (arith, e, le)) settled (serves_same s (table m) (sym is)) in
        then_flows code table p m q s r first is
        (λ there. plain code table m q (HasField name) s r (record { at = h; is = is; found = has_leaves ks slots loops m (kind on) g.1.0 t name g.1.1 g.2 }) e le serves there)
    flows (typed_call t (overloads.Operate operations.And) (typed a (typed b no_typed))) p q ks slots loops g (m, n, pa, h1, pb, h2, e) agrees le settled serves =
        let takes : kind a ∷ kind b ∷ [] ≡ bool_type ∷ bool_type ∷ [] = g.1.0 in
        let is_a : kind a ≡ bool_type = cc (takes) in
        let lb = longer code b (m + 1) (length ks) n pb in
        let left = of (kind a) ∷ slots in
        let (in_a, at_m, in_b, at_n) = both_tables a b p (length ks) m n q pa pb e ks slots loops agrees in
        let made : ways (Operate operations.And) n (shape (of (kind b) ∷ left) ks loops) ≡ Some (to (n + 1) (shape (of t ∷ slots) ks loops) ∷ []) =
        call_leaves n slots ks loops (overloads.Operate operations.And) (kind a ∷ kind b ∷ []) t tt g.1 in
        both_flow code table ks slots loops (IfFalse q) (Operate operations.And) (kind a) (kind b) t p m n q
        (record { at = h1; is = at_m; found = if_false ks slots loops m (kind a) is_a q })
        (record { at = h2; is = at_n; found = made })
        e (omega (arith, lb)) le (is_a ∙ sym g.1.1) (begins b (m + 1) (length ks) n pb ks left loops in_b) serves
        (flows a p m ks slots loops g.0.0 pa in_a (omega (arith, lb, e, le)) settled (serves_same _ (table m) (sym at_m)))
        (λ there. flows b (m + 1) n ks left loops g.0.1.0 pb in_b (omega (arith, e, le)) there (serves_same _ (table n) (sym at_n)))
    flows (typed_call t (overloads.Operate operations.Or) (typed a (typed b no_typed))) p q ks slots loops g (m, n, pa, h1, pb, h2, e) agrees le settled serves =
        let takes : kind a ∷ kind b ∷ [] ≡ bool_type ∷ bool_type ∷ [] = g.1.0 in
        let is_a : kind a ≡ bool_type = cc (takes) in
        let lb = longer code b (m + 1) (length ks) n pb in
        let left = of (kind a) ∷ slots in
        let (in_a, at_m, in_b, at_n) = both_tables a b p (length ks) m n q pa pb e ks slots loops agrees in
        let made : ways (Operate operations.Or) n (shape (of (kind b) ∷ left) ks loops) ≡ Some (to (n + 1) (shape (of t ∷ slots) ks loops) ∷ []) =
        call_leaves n slots ks loops (overloads.Operate operations.Or) (kind a ∷ kind b ∷ []) t tt g.1 in
        both_flow code table ks slots loops (IfTrue q) (Operate operations.Or) (kind a) (kind b) t p m n q
        (record { at = h1; is = at_m; found = if_true ks slots loops m (kind a) is_a q })
        (record { at = h2; is = at_n; found = made })
        e (omega (arith, lb)) le (is_a ∙ sym g.1.1) (begins b (m + 1) (length ks) n pb ks left loops in_b) serves
        (flows a p m ks slots loops g.0.0 pa in_a (omega (arith, lb, e, le)) settled (serves_same _ (table m) (sym at_m)))
        (λ there. flows b (m + 1) n ks left loops g.0.1.0 pb in_b (omega (arith, e, le)) there (serves_same _ (table n) (sym at_n)))
    flows (typed_call t overloads.Conditional (typed c (typed a (typed b no_typed)))) p q ks slots loops g (m, n, pc, h1, pa, h2, pb) agrees le settled serves =
        let takes : kind c ∷ kind a ∷ kind b ∷ [] ≡ bool_type ∷ t ∷ t ∷ [] = g.1 in
        let is_c : kind c ≡ bool_type = cc (takes) in
        let is_a : kind a ≡ t = cc (takes) in
        let is_b : kind b ≡ t = cc (takes) in
        let lc = longer code c p (length ks) m pc in
        let la = longer code a (m + 1) (length ks) n pa in
        let lb = longer code b (n + 1) (length ks) q pb in
        let s = shape (of (kind c) ∷ slots) ks loops in
        let u = shape (of (kind a) ∷ slots) ks loops in
        let from_m = back table _ _ p m q agrees (omega (arith, lc)) in
        let at_m = here table _ s m q from_m (omega (arith, la, lb)) in
        let from_a = next table _ s m q from_m in
        let in_a = front table _ _ (m + 1) n q from_a (omega (arith, lb)) in
        let from_n = back table _ _ (m + 1) n q from_a (omega (arith, la)) in
        let at_n = here table _ u n q from_n (omega (arith, lb)) in
        let in_b = next table _ u n q from_n in
        let serves_b : Serves (shape (of (kind b) ∷ slots) ks loops) (table q) = subst (λ k. Serves (shape (of k ∷ slots) ks loops) (table q)) (sym is_b) serves in
        choice_flow code table ks slots loops (kind c) (kind a) (kind b) t p m n q
        (record { at = h1; is = at_m; found = tests ks slots loops m (kind c) is_c (n + 1) q })
        (record { at = h2; is = at_n; found = refl })
        (omega (arith, la)) (omega (arith, lb)) le is_a is_b
        (begins a (m + 1) (length ks) n pa ks slots loops in_a) (begins b (n + 1) (length ks) q pb ks slots loops in_b) serves
        (flows c p m ks slots loops g.0.0 pc (front table _ _ p m q agrees (omega (arith, la, lb))) (omega (arith, la, lb, le)) settled (serves_same s (table m) (sym at_m)))
        (λ there. flows a (m + 1) n ks slots loops g.0.1.0 pa in_a (omega (arith, lb, le)) there (serves_same u (table n) (sym at_n)))
        (λ there. flows b (n + 1) q ks slots loops g.0.1.1.0 pb in_b le there serves_b)
    flows (typed_call t overloads.Conditional operands) p q ks slots loops g x agrees le settled serves =
        let takes : kinds operands ≡ bool_type ∷ t ∷ t ∷ [] = g.1 in absurd cc
    flows (typed_call t o operands) p q ks slots loops g x agrees le settled serves =
        let parts = operand_tables operands p (length ks) x.0 q x.1 x.3 ks slots loops agrees in
        let end = x.3 in
        call_flow ks slots loops (kinds operands) t (instruction_of o) p x.0 q x.2 x.3 parts.1 (call_leaves x.0 slots ks loops o (kinds operands) t tt g.1) le serves
        (flows_all operands p x.0 ks slots loops g.0 x.1 parts.0 (omega (arith, end, le)) settled parts.1)
    flows (typed_list t elements) p q ks slots loops g (m, po, h, e) agrees le settled serves =
        let parts = operand_tables elements p (length ks) m q po e ks slots loops agrees in
        call_flow ks slots loops (kinds elements) t (list_instruction t elements) p m q h e parts.1 (list_leaves m slots ks loops t g.1.0 elements g.1.1 g.1.2) le serves
        (flows_all elements p m ks slots loops g.0 po parts.0 (omega (arith, e, le)) settled parts.1)
    flows (typed_map t entries) p q ks slots loops g (m, po, h, e) agrees le settled serves =
        let parts = operand_tables entries p (length ks) m q po e ks slots loops agrees in
        call_flow ks slots loops (kinds entries) t (map_instruction t entries) p m q h e parts.1 (map_leaves m slots ks loops t g.1.0 g.1.1 entries g.1.2 g.1.3) le serves
        (flows_all entries p m ks slots loops g.0 po parts.0 (omega (arith, e, le)) settled parts.1)
    flows (typed_loop t vars range init condition step result) p q ks slots loops g (m, n, k, l, pr, h1, pi, h2, h3, pc, h4, ps, h5, h6, pe) agrees le settled serves =
        let d = length ks in
        let each = walked vars (kind range) in
        let each_is : g.2.0 ≡ each = walked_is vars (kind range) g.2.0 g.2.1 in
        let walks : IsOver vars (kind range) each = subst (λ z. IsOver vars (kind range) z) each_is g.2.1 in
        let outer = kind init ∷ ks in
        let inner = each ++ outer in
        let scope : length inner ≡ variable_count vars + suc d =
        length-append each outer ∙ ap (λ n. n + suc d) (over_count vars (kind range) each walks) in
        let over = of (kind range) ∷ loops in
        let typed_condition : IsWellTyped inner condition = subst (λ z. IsWellTyped (z ++ outer) condition) each_is g.2.2 in
        let typed_step : IsWellTyped inner step = subst (λ z. IsWellTyped (z ++ outer) step) each_is g.2.4 in
        let lr = longer code range p d m pr in
        let li = longer code init (m + 1) d n pi in
        let lc = longer code condition (n + 1 + 1) (variable_count vars + suc d) k pc in
        let ls = longer code step (k + 1) (variable_count vars + suc d) l ps in
        let lq = longer code result (l + 1 + 1) (suc d) q pe in
        let m_n : m < n = omega (arith, li) in
        let n_k : n + 1 < k = omega (arith, lc) in
        let k_l : k < l = omega (arith, ls) in
        let l_q : l + 1 < q = omega (arith, lq) in
        let in_range = front table _ _ p m q agrees (omega (arith, m_n, n_k, k_l, l_q)) in
        let from_m = back table _ _ p m q agrees (omega (arith, lr)) in
        let at_m = here table _ _ m q from_m (omega (arith, m_n, n_k, k_l, l_q)) in
        let from_init = next table _ _ m q from_m in
        let in_init = front table _ _ (m + 1) n q from_init (omega (arith, n_k, k_l, l_q)) in
        let from_n = back table _ _ (m + 1) n q from_init (omega (arith, m_n)) in
        let at_n = here table _ _ n q from_n (omega (arith, n_k, k_l, l_q)) in
        let from_turn = next table _ _ n q from_n in
        let at_turn = here table _ _ (n + 1) q from_turn (omega (arith, n_k, k_l, l_q)) in
        let from_condition = next table _ _ (n + 1) q from_turn in
        let in_condition = front table _ _ (n + 1 + 1) k q from_condition (omega (arith, k_l, l_q)) in
        let from_k = back table _ _ (n + 1 + 1) k q from_condition (omega (arith, n_k)) in
        let at_k = here table _ _ k q from_k (omega (arith, k_l, l_q)) in
        let from_step = next table _ _ k q from_k in
        let in_step = front table _ _ (k + 1) l q from_step (omega (arith, l_q)) in
        let from_l = back table _ _ (k + 1) l q from_step (omega (arith, k_l)) in
        let at_l = here table _ _ l q from_l (omega (arith, l_q)) in
        let from_back = next table _ _ l q from_l in
        let at_back = here table _ _ (l + 1) q from_back l_q in
        let in_result = next table _ _ (l + 1) q from_back in
        let same : kind result ≡ t = sym g.4 in
        let serves' : Serves (shape (of (kind result) ∷ slots) ks loops) (table q) = subst (λ z. Serves (shape (of z ∷ slots) ks loops) (table q)) g.4 serves in
        subst (λ z. Flows code table p q (shape (of z ∷ slots) ks loops)) same
        (loop_flow code table ks slots loops vars each (kind range) (kind init) (kind condition) (kind step) (kind result) p m n k l q (record {
          starts = h1;
          first = h2;
          turns = h3;
          tested = h4;
          kept = h5;
          again = h6;
          of_range = at_m;
          in_init = begins init (m + 1) d n pi ks slots over in_init;
          of_init = at_n;
          in_turn = at_turn;
          in_condition = begins condition (n + 1 + 1) (variable_count vars + suc d) k pc inner slots over in_condition;
          of_condition = at_k;
          in_step = begins step (k + 1) (variable_count vars + suc d) l ps inner slots over in_step;
          of_step = at_l;
          in_back = at_back;
          in_result = begins result (l + 1 + 1) (suc d) q pe outer slots loops in_result;
          over = walks;
          condition_is = g.2.3;
          step_is = g.2.5;
          m_n = m_n;
          n_k = n_k;
          k_l = k_l;
          l_q = l_q;
          inside = le;
          serves = serves';
          range_flows = flows range p m ks slots loops g.0 pr in_range (omega (arith, m_n, n_k, k_l, l_q, le)) settled (serves_same _ (table m) (sym at_m));
          init_flows = λ there. flows init (m + 1) n ks slots over g.1 pi in_init (omega (arith, n_k, k_l, l_q, le)) there (serves_same _ (table n) (sym at_n));
          condition_flows = λ there.
              at_scope (length inner) (variable_count vars + suc d) scope condition (n + 1 + 1) k inner slots over
              (λ x agree. flows condition (n + 1 + 1) k inner slots over typed_condition x agree (omega (arith, k_l, l_q, le)) there (serves_same _ (table k) (sym at_k))) pc in_condition;
          step_flows = λ there.
              at_scope (length inner) (variable_count vars + suc d) scope step (k + 1) l inner slots over
              (λ x agree. flows step (k + 1) l inner slots over typed_step x agree (omega (arith, l_q, le)) there (serves_same _ (table l) (sym at_l))) ps in_step;
          result_flows = λ there. flows result (l + 1 + 1) q outer slots loops g.3 pe in_result le there (serves_trans _ _ (table q) (less_serves ks (of (kind result) ∷ slots) loops (kind init)) serves');
        }))

    flows_all : (es : TypedTrees) (p q : ℕ) (ks : List ValueType) (slots loops : List Slot)
        → AreWellTyped ks es → (x : PlacedAll code p (length ks) es q) → Agrees table (tables_of code es p (length ks) q x ks slots loops) p q
        → q ≤ length code → Settled code table p (table p) → table q ≡ shape (pushed (kinds es) slots) ks loops
        → Flows code table p q (shape (pushed (kinds es) slots) ks loops)
    flows_all no_typed p q ks slots loops g x agrees le settled end =
        let same : p ≡ q = omega (arith, x) in record {
          good = λ r from below. absurd (omega (arith, same, from, below));
          out = subst (Settled code table q) end (subst (λ n. Settled code table n (table n)) same settled);
        }
    flows_all (typed e es) p q ks slots loops g (m, pe, ps) agrees le settled end =
        let first = longer code e p (length ks) m pe in
        let others = longer_all code es m (length ks) q ps in
        let s = shape (of (kind e) ∷ slots) ks loops in
        let in_others = back table _ _ p m q agrees (omega (arith, first)) in
        let is = begins_all es m (length ks) q ps ks (of (kind e) ∷ slots) loops in_others end in
        then_flows code table p m q s (shape (pushed (kinds es) (of (kind e) ∷ slots)) ks loops)
        (flows e p m ks slots loops g.0 pe (front table _ _ p m q agrees others) (omega (arith, others, le)) settled (serves_same s (table m) (sym is))) is
        (λ there. flows_all es m q ks (of (kind e) ∷ slots) loops g.1 ps in_others le there end)

-- ---- whole code

pub code_is_forward : (e : TypedTree) → IsWellTyped [] e → Forward (code_of 0 0 e) (kind e)
code_is_forward e g =
    let code = code_of 0 0 e in
    let q = length code in
    let ends : q ≡ 0 + extent e = let l = extent_is e 0 0 in omega (arith, l) in
    let x = placed code e 0 0 q ends (has_all code []) in
    let end = shape (of (kind e) ∷ []) [] [] in
    let table : Table = cut q (table_of code e 0 0 q x [] [] []) (last end) in
    let whole : Agrees table table 0 (q + 1) = λ r from below. refl in
    let inside = front table (table_of code e 0 0 q x [] [] []) (last end) 0 q (q + 1) whole (omega arith) in
    let at_end : table q ≡ end = back table (table_of code e 0 0 q x [] [] []) (last end) 0 q (q + 1) whole (omega arith) q (omega arith) (omega arith) in
    let start : Settled code table 0 (table 0) = record { least = λ later. absurd (omega (arith, later)); some = λ later. absurd (omega (arith, later)) } in
    let way = flows code table e 0 q [] [] [] g x inside (omega arith) start (serves_same end (table q) (sym at_end)) in
    let settled : (p : ℕ) → p ≤ q → Settled code table p (table p) = λ p le.
    elim (cases_lt p q) [
      | inl less ↦ (way.good p (omega arith) less).settled
      | inr more ↦ let same : q ≡ p = omega (arith, le, more) in subst (λ n. Settled code table n (table n)) same (known code table q end way.out at_end)
    ] in (
      table,
      record {
        typed = record {
          first = begins code table e 0 0 q x [] [] [] inside;
          each = λ p i at. (way.good p (omega arith) (slice_get_within code p i at)).leads i at;
          last = rw at_end (refl, tt);
        };
        common = λ p later le. (settled p le).least later;
        some = λ p later le. (settled p le).some later;
      },
    )

pub elaborated_code_is_forward : (c : CelChecked) (e : TypedTree) → HasGoodConstants c.tree → IsElaborated c e
    → Forward (code_of 0 0 e) (kind e)
elaborated_code_is_forward c e good elaborated =
    code_is_forward e (elaborated_typed (maps_of c) [] c.tree e good elaborated.elaborates)
