-- Jumps in an expression's code: where the ways meet again, they have in common what the table says.
use Rattle.std.proofs.Common.{◌≡◌, ℕ, suc, ◌+◌, ◌<◌, ◌≤◌, true, List, [], ◌∷◌, ◌++◌, length, Some, None, refl, sym, ap, ◌∙◌, subst, arith, slice_get, if◌then◌else◌}
use Rattle.std.specs.Option.{option_and_then}
use Rattle.cel_value.specs.Types.{ValueType, bool_type, int_type, list_type, map_type, type_of_key}
use Rattle.cel_types.specs.Typing.{IsOver}
use Rattle.cel_types.specs.declared.typed.Variables.{Variables}
use Rattle.cel_types.specs.declared.typed.Variables.TheVariants as variables
use Rattle.machine_code.specs.Instructions.{Instruction, IfFalse, IfTrue, Jump, LoopNext, LoopNext2, LoopStart, LoopTest, Store, Test}
use Rattle.machine_code.specs.Locals.{with_local}
use Rattle.machine_code.specs.Slots.{Slot, failing, of, is_a, loop_slot, pair_slots}
use Rattle.machine_code.specs.Shapes.{Serves, Shape, ways}
use Rattle.machine_code.specs.Typable.{Table}
use Rattle.cel_compile.specs.Codes.{turn_instruction}
use Rattle.cel_compile.proofs.Leading.{known_again, known_outside, known_still, locals_of, loop_known, shape, to}
use Rattle.cel_compile.proofs.Settling.{Flows, Settled, Stands, first_settles, good_at, known, lead, one_more, plain, second_settles, served, serves_same, serves_trans, slots_refl, then_flows}
use Rattle.cel_compile.proofs.Tables.{turned}

-- ---- where jumps lead

module _ (ks : List ValueType) (slots loops : List Slot) (m : ℕ) (t : ValueType) (is : t ≡ bool_type) where
  branch_is : (s : Shape) (q : ℕ) → is_a bool_type (of t) ≡ true
      → (if is_a bool_type (of t) then Some (to (m + 1) s ∷ to q s ∷ []) else None) ≡ Some (to (m + 1) s ∷ to q s ∷ [])
  branch_is s q e = ap (λ b. if b then Some (to (m + 1) s ∷ to q s ∷ []) else None) e

  a_bool : is_a bool_type (of t) ≡ true
  a_bool = ap (λ k. is_a bool_type (of k)) is

  pub if_false : (q : ℕ) → ways (IfFalse q) m (shape (of t ∷ slots) ks loops)
      ≡ Some (to (m + 1) (shape (of t ∷ slots) ks loops) ∷ to q (shape (of t ∷ slots) ks loops) ∷ [])
  if_false q = branch_is (shape (of t ∷ slots) ks loops) q a_bool

  pub if_true : (q : ℕ) → ways (IfTrue q) m (shape (of t ∷ slots) ks loops)
      ≡ Some (to (m + 1) (shape (of t ∷ slots) ks loops) ∷ to q (shape (of t ∷ slots) ks loops) ∷ [])
  if_true q = branch_is (shape (of t ∷ slots) ks loops) q a_bool

  pub tests : (other q : ℕ) → ways (Test other q) m (shape (of t ∷ slots) ks loops)
      ≡ Some (to (m + 1) (shape slots ks loops) ∷ to other (shape slots ks loops) ∷ to q (shape (failing ∷ slots) ks loops) ∷ [])
  tests other q =
      ap (λ b. if b then Some (to (m + 1) (shape slots ks loops) ∷ to other (shape slots ks loops) ∷ to q (shape (failing ∷ slots) ks loops) ∷ []) else None) a_bool

  pub loop_tests : (over : Slot) (after q : ℕ) → ways (LoopTest after q) m (shape (of t ∷ slots) ks (over ∷ loops))
      ≡ Some (to (m + 1) (shape slots ks (over ∷ loops)) ∷ to after (shape slots ks loops) ∷ to q (shape (failing ∷ slots) ks loops) ∷ [])
  loop_tests over after q =
      ap (λ b. if b then Some (to (m + 1) (shape slots ks (over ∷ loops)) ∷ to after (shape slots ks loops) ∷ to q (shape (failing ∷ slots) ks loops) ∷ []) else None) a_bool

pub loop_starts : (ks : List ValueType) (slots loops : List Slot) (m q : ℕ) (vars : Variables) (t : ValueType) (each : List ValueType) → IsOver vars t each
    → ways (LoopStart q) m (shape (of t ∷ slots) ks loops)
    ≡ Some (to (m + 1) (shape slots ks (of t ∷ loops)) ∷ to q (shape (failing ∷ slots) ks loops) ∷ [])
loop_starts ks slots loops m q vars t each over =
    ap (option_and_then (λ a. Some (to (m + 1) (shape slots ks (of t ∷ loops)) ∷ to q (shape (failing ∷ slots) ks loops) ∷ []))) (loop_known vars t each over).1

module _ (ks : List ValueType) (slots loops : List Slot) (m after : ℕ) (t : ValueType) where
  -- a turn leads on with its locals set, and out of the loop
  abbrev Begins : Instruction → List ValueType → Type 0
  Begins i each = ways i m (shape slots ks (of t ∷ loops))
      ≡ Some (to (m + 1) (shape slots (each ++ ks) (of t ∷ loops)) ∷ to after (shape slots ks loops) ∷ [])

  next_begins : (s : ValueType) → loop_slot (of t) ≡ Some (of s) → Begins (LoopNext (length ks) after) (s ∷ [])
  next_begins s known =
      ap (option_and_then (λ a. Some ((record { target = m + 1; shape = record { slots = slots; locals = with_local (locals_of ks) (length ks) a; loops = of t ∷ loops } })
      ∷ to after (shape slots ks loops) ∷ []))) known

  pair_begins : (s k : ValueType) → pair_slots (of t) ≡ Some (of k, of s) → Begins (LoopNext2 (length ks) (length ks + 1) after) (s ∷ k ∷ [])
  pair_begins s k known =
      let next : length ks + 1 ≡ suc (length ks) = omega arith in
      ap (option_and_then (λ a. Some ((record { target = m + 1; shape = record { slots = slots; locals = with_local (with_local (locals_of ks) (length ks) a.0) (length ks + 1) a.1; loops = of t ∷ loops } })
      ∷ to after (shape slots ks loops) ∷ []))) known
      ∙ ap (λ n. Some ((record { target = m + 1; shape = record { slots = slots; locals = with_local (locals_of (k ∷ ks)) n (of s); loops = of t ∷ loops } })
      ∷ to after (shape slots ks loops) ∷ [])) next

pub loop_goes_on : (ks : List ValueType) (slots loops : List Slot) (m after : ℕ) (vars : Variables) (t : ValueType) (each : List ValueType) → IsOver vars t each
    → ways (turn_instruction vars (length ks) after) m (shape slots ks (of t ∷ loops))
    ≡ Some (to (m + 1) (shape slots (each ++ ks) (of t ∷ loops)) ∷ to after (shape slots ks loops) ∷ [])
loop_goes_on ks slots loops m after variables.One (list_type s) each is =
    subst (Begins ks slots loops m after (list_type s) (LoopNext (length ks) after)) (sym is) (next_begins ks slots loops m after (list_type s) s refl)
loop_goes_on ks slots loops m after variables.One (map_type k s) each is =
    subst (Begins ks slots loops m after (map_type k s) (LoopNext (length ks) after)) (sym is) (next_begins ks slots loops m after (map_type k s) (type_of_key k) refl)
loop_goes_on ks slots loops m after variables.Two (list_type s) each is =
    subst (Begins ks slots loops m after (list_type s) (LoopNext2 (length ks) (length ks + 1) after)) (sym is) (pair_begins ks slots loops m after (list_type s) s int_type refl)
loop_goes_on ks slots loops m after variables.Two (map_type k s) each is =
    subst (Begins ks slots loops m after (map_type k s) (LoopNext2 (length ks) (length ks + 1) after)) (sym is) (pair_begins ks slots loops m after (map_type k s) s (type_of_key k) refl)
loop_goes_on ks slots loops m after variables.One _ each is = absurd is
loop_goes_on ks slots loops m after variables.Two _ each is = absurd is

-- ---- shapes that say less

module _ (ks : List ValueType) (slots loops : List Slot) where
  pub error_serves : (t : ValueType) → Serves (shape (failing ∷ slots) ks loops) (shape (of t ∷ slots) ks loops)
  error_serves t = record { slots = (tt, slots_refl slots); locals = λ l a e. e; loops = refl }

  pub less_serves : (t : ValueType) → Serves (shape slots (t ∷ ks) loops) (shape slots ks loops)
  less_serves t = record { slots = slots_refl slots; locals = λ l a e. known_still ks t l a e; loops = refl }

  pub outside_serves : (each : List ValueType) → Serves (shape slots (each ++ ks) loops) (shape slots ks loops)
  outside_serves each = record { slots = slots_refl slots; locals = λ l a e. known_outside each ks l a e; loops = refl }

  pub turned_serves : (each : List ValueType) (gathered step : ValueType) → step ≡ gathered
      → Serves (turned each gathered step slots ks loops) (shape slots (gathered ∷ ks) loops)
  turned_serves each gathered step same = record {
    slots = slots_refl slots;
    locals = λ l a e. known_again each ks gathered step l a same e;
    loops = refl;
  }

module _ (code : List Instruction) (table : Table) where
  abbrev S : ℕ → Shape → Type 0
  S p s = Settled code table p s

  module _ (ks : List ValueType) (slots loops : List Slot) where
    -- ---- the second operand is passed over

    pub both_flow : (i j : Instruction) (a b t : ValueType) (p m n q : ℕ)
        → Stands code table m i (shape (of a ∷ slots) ks loops) (to (m + 1) (shape (of a ∷ slots) ks loops) ∷ to q (shape (of a ∷ slots) ks loops) ∷ [])
        → Stands code table n j (shape (of b ∷ of a ∷ slots) ks loops) (to (n + 1) (shape (of t ∷ slots) ks loops) ∷ [])
        → q ≡ n + 1 → m < n → q ≤ length code → a ≡ t → table (m + 1) ≡ shape (of a ∷ slots) ks loops
        → Serves (shape (of t ∷ slots) ks loops) (table q)
        → Flows code table p m (shape (of a ∷ slots) ks loops)
        → (Settled code table (m + 1) (table (m + 1)) → Flows code table (m + 1) n (shape (of b ∷ of a ∷ slots) ks loops))
        → Flows code table p q (shape (of t ∷ slots) ks loops)
    both_flow i j a b t p m n q fork joins e lt le same begin serves first second =
        let s = shape (of a ∷ slots) ks loops in
        let u = shape (of b ∷ of a ∷ slots) ks loops in
        let r = shape (of t ∷ slots) ks loops in
        let on = to (m + 1) s ∷ to q s ∷ [] in
        let serves' : Serves s (table q) = subst (λ k. Serves (shape (of k ∷ slots) ks loops) (table q)) (sym same) serves in
        let inner = first_settles code table m i s on fork (m + 1) (to (m + 1) s) (to q s ∷ []) (omega arith) refl refl in
        then_flows code table p m q s r first fork.is (λ settled.
        one_more code table m q r
        (good_at code table m i s on fork settled
        (lead code table (m + 1) s s (omega arith) begin (serves_same s s refl), (record { inside = le; serves = serves' }, tt)))
        (then_flows code table (m + 1) n q u r (second (known code table (m + 1) s inner begin)) joins.is
        (λ both. plain code table n q j u r joins e le serves both)))

    -- ---- one of two branches

    pub choice_flow : (c a b t : ValueType) (p m n q : ℕ)
        → Stands code table m (Test (n + 1) q) (shape (of c ∷ slots) ks loops)
        (to (m + 1) (shape slots ks loops) ∷ to (n + 1) (shape slots ks loops) ∷ to q (shape (failing ∷ slots) ks loops) ∷ [])
        → Stands code table n (Jump q) (shape (of a ∷ slots) ks loops) (to q (shape (of a ∷ slots) ks loops) ∷ [])
        → m < n → n + 1 < q → q ≤ length code → a ≡ t → b ≡ t
        → table (m + 1) ≡ shape slots ks loops → table (n + 1) ≡ shape slots ks loops
        → Serves (shape (of t ∷ slots) ks loops) (table q)
        → Flows code table p m (shape (of c ∷ slots) ks loops)
        → (Settled code table (m + 1) (table (m + 1)) → Flows code table (m + 1) n (shape (of a ∷ slots) ks loops))
        → (Settled code table (n + 1) (table (n + 1)) → Flows code table (n + 1) q (shape (of b ∷ slots) ks loops))
        → Flows code table p q (shape (of t ∷ slots) ks loops)
    choice_flow c a b t p m n q fork leaves lt lt' le a_is b_is begin begin' serves first second third =
        let s = shape (of c ∷ slots) ks loops in
        let o = shape slots ks loops in
        let u = shape (of a ∷ slots) ks loops in
        let r = shape (of t ∷ slots) ks loops in
        let f = shape (failing ∷ slots) ks loops in
        let on = to (m + 1) o ∷ to (n + 1) o ∷ to q f ∷ [] in
        let serves_a : Serves u (table q) = subst (λ k. Serves (shape (of k ∷ slots) ks loops) (table q)) (sym a_is) serves in
        let fails : Serves f (table q) = serves_trans f r (table q) (error_serves ks slots loops t) serves in
        let inner = first_settles code table m (Test (n + 1) q) s on fork (m + 1) (to (m + 1) o) (to (n + 1) o ∷ to q f ∷ []) (omega arith) refl refl in
        let other = second_settles code table m (Test (n + 1) q) s on fork (n + 1) (to (m + 1) o) (to (n + 1) o) (to q f ∷ []) (omega arith) refl refl in
        then_flows code table p m q s r first fork.is (λ settled.
        one_more code table m q r
        (good_at code table m (Test (n + 1) q) s on fork settled (
          lead code table (m + 1) o o (omega arith) begin (serves_same o o refl),
          (lead code table (n + 1) o o (omega arith) begin' (serves_same o o refl), (record { inside = le; serves = fails }, tt)),
        ))
        (then_flows code table (m + 1) n q u r (second (known code table (m + 1) o inner begin)) leaves.is (λ at_end.
        one_more code table n q r
        (good_at code table n (Jump q) u (to q u ∷ []) leaves at_end (record { inside = le; serves = serves_a }, tt))
        (subst (λ k. Flows code table (n + 1) q (shape (of k ∷ slots) ks loops)) b_is
        (third (known code table (n + 1) o other begin'))))))

    -- ---- a comprehension

    -- its own instructions and the codes of its parts, at these positions
    pub record Turns (vars : Variables) (each : List ValueType) (range gathered condition step result : ValueType) (p m n k l q : ℕ) : Type 0 where
      pub starts : slice_get code m ≡ Some (LoopStart q)
      pub first : slice_get code n ≡ Some (Store (length ks))
      pub turns : slice_get code (n + 1) ≡ Some (turn_instruction vars (suc (length ks)) (l + 1 + 1))
      pub tested : slice_get code k ≡ Some (LoopTest (l + 1 + 1) q)
      pub kept : slice_get code l ≡ Some (Store (length ks))
      pub again : slice_get code (l + 1) ≡ Some (Jump (n + 1))
      pub of_range : table m ≡ shape (of range ∷ slots) ks loops
      pub in_init : table (m + 1) ≡ shape slots ks (of range ∷ loops)
      pub of_init : table n ≡ shape (of gathered ∷ slots) ks (of range ∷ loops)
      pub in_turn : table (n + 1) ≡ shape slots (gathered ∷ ks) (of range ∷ loops)
      pub in_condition : table (n + 1 + 1) ≡ shape slots (each ++ gathered ∷ ks) (of range ∷ loops)
      pub of_condition : table k ≡ shape (of condition ∷ slots) (each ++ gathered ∷ ks) (of range ∷ loops)
      pub in_step : table (k + 1) ≡ shape slots (each ++ gathered ∷ ks) (of range ∷ loops)
      pub of_step : table l ≡ shape (of step ∷ slots) (each ++ gathered ∷ ks) (of range ∷ loops)
      pub in_back : table (l + 1) ≡ turned each gathered step slots ks (of range ∷ loops)
      pub in_result : table (l + 1 + 1) ≡ shape slots (gathered ∷ ks) loops
      pub over : IsOver vars range each
      pub condition_is : condition ≡ bool_type
      pub step_is : step ≡ gathered
      pub m_n : m < n
      pub n_k : n + 1 < k
      pub k_l : k < l
      pub l_q : l + 1 < q
      pub inside : q ≤ length code
      pub serves : Serves (shape (of result ∷ slots) ks loops) (table q)
      pub range_flows : Flows code table p m (shape (of range ∷ slots) ks loops)
      pub init_flows : S (m + 1) (table (m + 1)) → Flows code table (m + 1) n (shape (of gathered ∷ slots) ks (of range ∷ loops))
      pub condition_flows : S (n + 1 + 1) (table (n + 1 + 1))
          → Flows code table (n + 1 + 1) k (shape (of condition ∷ slots) (each ++ gathered ∷ ks) (of range ∷ loops))
      pub step_flows : S (k + 1) (table (k + 1))
          → Flows code table (k + 1) l (shape (of step ∷ slots) (each ++ gathered ∷ ks) (of range ∷ loops))
      pub result_flows : S (l + 1 + 1) (table (l + 1 + 1))
          → Flows code table (l + 1 + 1) q (shape (of result ∷ slots) (gathered ∷ ks) loops)

    pub loop_flow : (vars : Variables) (each : List ValueType) (range gathered condition step result : ValueType) (p m n k l q : ℕ)
        → Turns vars each range gathered condition step result p m n k l q
        → Flows code table p q (shape (of result ∷ slots) ks loops)
    loop_flow vars each range gathered condition step result p m n k l q x =
        let over = of range ∷ loops in
        let outer = gathered ∷ ks in
        let inner = each ++ outer in
        let after = l + 1 + 1 in
        let m_n = x.m_n in
        let n_k = x.n_k in
        let k_l = x.k_l in
        let l_q = x.l_q in
        let inside = x.inside in
        -- shapes
        let s1 = shape (of range ∷ slots) ks loops in
        let s2 = shape slots ks over in
        let s3 = shape (of gathered ∷ slots) ks over in
        let s4 = shape slots outer over in
        let s5 = shape slots inner over in
        let s6 = shape (of condition ∷ slots) inner over in
        let s7 = shape (of step ∷ slots) inner over in
        let s8 = turned each gathered step slots ks over in
        let s9 = shape slots outer loops in
        let r = shape (of result ∷ slots) ks loops in
        let r' = shape (of result ∷ slots) outer loops in
        let f = shape (failing ∷ slots) ks loops in
        let f' = shape (failing ∷ slots) inner loops in
        let s9' = shape slots inner loops in
        -- instructions
        let i1 : Stands code table m (LoopStart q) s1 (to (m + 1) s2 ∷ to q f ∷ []) =
        record { at = x.starts; is = x.of_range; found = loop_starts ks slots loops m q vars range each x.over } in
        let i2 : Stands code table n (Store (length ks)) s3 (to (n + 1) s4 ∷ []) =
        record { at = x.first; is = x.of_init; found = refl } in
        let i3 : Stands code table (n + 1) (turn_instruction vars (suc (length ks)) after) s4 (to (n + 1 + 1) s5 ∷ to after s9 ∷ []) =
        record { at = x.turns; is = x.in_turn; found = loop_goes_on outer slots loops (n + 1) after vars range each x.over } in
        let i4 : Stands code table k (LoopTest after q) s6 (to (k + 1) s5 ∷ to after s9' ∷ to q f' ∷ []) =
        record { at = x.tested; is = x.of_condition; found = loop_tests inner slots loops k condition x.condition_is (of range) after q } in
        let i5 : Stands code table l (Store (length ks)) s7 (to (l + 1) s8 ∷ []) =
        record { at = x.kept; is = x.of_step; found = refl } in
        let i6 : Stands code table (l + 1) (Jump (n + 1)) s8 (to (n + 1) s8 ∷ []) =
        record { at = x.again; is = x.in_back; found = refl } in
        -- what serves
        let fails : Serves f (table q) = serves_trans f r (table q) (error_serves ks slots loops result) x.serves in
        let fails' : Serves f' (table q) =
        serves_trans f' f (table q)
        (serves_trans f' (shape (failing ∷ slots) outer loops) f (outside_serves outer (failing ∷ slots) loops each) (less_serves ks (failing ∷ slots) loops gathered))
        fails in
        let ends : Serves r' (table q) =
        serves_trans r' r (table q) (less_serves ks (of result ∷ slots) loops gathered) x.serves in
        -- what is settled
        let t2 = known code table (m + 1) s2 (first_settles code table m (LoopStart q) s1 (to (m + 1) s2 ∷ to q f ∷ []) i1 (m + 1) (to (m + 1) s2) (to q f ∷ []) (omega arith) refl refl) x.in_init in
        let t4 = known code table (n + 1) s4 (first_settles code table n (Store (length ks)) s3 (to (n + 1) s4 ∷ []) i2 (n + 1) (to (n + 1) s4) [] (omega arith) refl refl) x.in_turn in
        let t5 = known code table (n + 1 + 1) s5 (first_settles code table (n + 1) (turn_instruction vars (suc (length ks)) after) s4 (to (n + 1 + 1) s5 ∷ to after s9 ∷ []) i3 (n + 1 + 1) (to (n + 1 + 1) s5) (to after s9 ∷ []) (omega arith) refl refl) x.in_condition in
        let t9 = known code table after s9 (second_settles code table (n + 1) (turn_instruction vars (suc (length ks)) after) s4 (to (n + 1 + 1) s5 ∷ to after s9 ∷ []) i3 after (to (n + 1 + 1) s5) (to after s9) [] (omega arith) refl refl) x.in_result in
        let t7 = known code table (k + 1) s5 (first_settles code table k (LoopTest after q) s6 (to (k + 1) s5 ∷ to after s9' ∷ to q f' ∷ []) i4 (k + 1) (to (k + 1) s5) (to after s9' ∷ to q f' ∷ []) (omega arith) refl refl) x.in_step in
        let t8 = known code table (l + 1) s8 (first_settles code table l (Store (length ks)) s7 (to (l + 1) s8 ∷ []) i5 (l + 1) (to (l + 1) s8) [] (omega arith) refl refl) x.in_back in
        -- positions
        let last = x.result_flows t9 in
        let g6 = good_at code table (l + 1) (Jump (n + 1)) s8 (to (n + 1) s8 ∷ []) i6 t8
        (lead code table (n + 1) s8 s4 (omega arith) x.in_turn (turned_serves ks slots over each gathered step x.step_is), tt) in
        let from_step : Flows code table (k + 1) q r' =
        then_flows code table (k + 1) l q s7 r' (x.step_flows t7) x.of_step (λ t.
        one_more code table l q r'
        (good_at code table l (Store (length ks)) s7 (to (l + 1) s8 ∷ []) i5 t (lead code table (l + 1) s8 s8 (omega arith) x.in_back (serves_same s8 s8 refl), tt))
        (one_more code table (l + 1) q r' g6 last)) in
        let from_condition : Flows code table (n + 1 + 1) q r' =
        then_flows code table (n + 1 + 1) k q s6 r' (x.condition_flows t5) x.of_condition (λ t.
        one_more code table k q r'
        (good_at code table k (LoopTest after q) s6 (to (k + 1) s5 ∷ to after s9' ∷ to q f' ∷ []) i4 t (
          lead code table (k + 1) s5 s5 (omega arith) x.in_step (serves_same s5 s5 refl),
          (lead code table after s9' s9 (omega arith) x.in_result (outside_serves outer slots loops each), (record { inside = inside; serves = fails' }, tt)),
        ))
        from_step) in
        let from_turn : Flows code table (n + 1) q r' =
        one_more code table (n + 1) q r'
        (good_at code table (n + 1) (turn_instruction vars (suc (length ks)) after) s4 (to (n + 1 + 1) s5 ∷ to after s9 ∷ []) i3 t4 (
          lead code table (n + 1 + 1) s5 s5 (omega arith) x.in_condition (serves_same s5 s5 refl),
          (lead code table after s9 s9 (omega arith) x.in_result (serves_same s9 s9 refl), tt),
        ))
        from_condition in
        let from_init : Flows code table (m + 1) q r' =
        then_flows code table (m + 1) n q s3 r' (x.init_flows t2) x.of_init (λ t.
        one_more code table n q r'
        (good_at code table n (Store (length ks)) s3 (to (n + 1) s4 ∷ []) i2 t (lead code table (n + 1) s4 s4 (omega arith) x.in_turn (serves_same s4 s4 refl), tt))
        from_turn) in
        let whole : Flows code table p q r' =
        then_flows code table p m q s1 r' x.range_flows x.of_range (λ t.
        one_more code table m q r'
        (good_at code table m (LoopStart q) s1 (to (m + 1) s2 ∷ to q f ∷ []) i1 t (
          lead code table (m + 1) s2 s2 (omega arith) x.in_init (serves_same s2 s2 refl),
          (record { inside = inside; serves = fails }, tt),
        ))
        from_init) in
        -- at the end the ways have the locals outside in common
        record {
          good = whole.good;
          out = record {
            least = λ later u h.
                let from_result : Serves r' u = whole.out.least later u h in
                let from_range : Serves f u =
                (served code table m (LoopStart q) s1 (to (m + 1) s2 ∷ to q f ∷ []) i1 q u (omega arith) h).1.0 refl in
                record { slots = from_result.slots; locals = from_range.locals; loops = from_range.loops };
            some = whole.out.some;
          };
        }
