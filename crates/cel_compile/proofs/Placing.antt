-- Where an expression's code stands in longer code: all arithmetic on positions is here.
use Rattle.std.proofs.Common.{◌≡◌, ℕ, suc, ◌+◌, ◌<◌, List, [], ◌∷◌, ◌++◌, length, Some, refl, sym, ap, ◌∙◌, subst, arith, append_assoc, length-append, slice_get}
use Rattle.std.proofs.Math.Seq.{get_or-append_seam}
use Rattle.std.proofs.lemmas.Option.{slice_get-get_or}
use Rattle.cel_ops.specs.declared.operation.Operation.TheVariants as operations
use Rattle.cel_overload.specs.declared.overload.Overload.TheVariants as overloads
use Rattle.cel_types.specs.Elaborated.{TypedTree, typed_constant, typed_local, typed_attribute, typed_field, typed_has, typed_call, typed_list, typed_map, typed_loop, TypedTrees, no_typed, typed}
use Rattle.cel_types.specs.Names.{variable_count}
use Rattle.cel_types.specs.declared.typed.Variables.{Variables}
use Rattle.cel_value.specs.Types.{ValueType}
use Rattle.machine_code.specs.Instructions.{Instruction, Const, Attr, Load, Store, Operate, Field, HasField, Jump, IfFalse, IfTrue, Test, LoopStart, LoopTest}
use Rattle.cel_compile.specs.Codes.{instruction_of, list_instruction, map_instruction, turn_instruction, code_of, codes_of}
use Rattle.cel_compile.specs.private.Extents.{extent, extents}

-- the instructions stand in the code at this position
abbrev pub HasAt : List Instruction → ℕ → List Instruction → Type 0
HasAt code p [] = Unit {0}
HasAt code p (i ∷ is) = (slice_get code p ≡ Some i) × HasAt code (p + 1) is

abbrev mutual
  -- the code of an expression, with so many locals in scope, stands from p to q
  pub Placed : List Instruction → ℕ → ℕ → TypedTree → ℕ → Type 0
  Placed code p d (typed_constant t v) q = (slice_get code p ≡ Some (Const v)) × (q ≡ p + 1)
  Placed code p d (typed_local t outside) q =
      (slice_get code p ≡ Some (Load outside)) × (q ≡ p + 1)
  Placed code p d (typed_attribute t a) q = (slice_get code p ≡ Some (Attr a)) × (q ≡ p + 1)
  Placed code p d (typed_field t on name) q =
      (m : ℕ) × Placed code p d on m × (slice_get code m ≡ Some (Field name)) × (q ≡ m + 1)
  Placed code p d (typed_has t on name) q =
      (m : ℕ) × Placed code p d on m × (slice_get code m ≡ Some (HasField name)) × (q ≡ m + 1)
  Placed code p d (typed_call t (overloads.Operate operations.And) (typed a (typed b no_typed))) q = (m n : ℕ)
      × Placed code p d a m × (slice_get code m ≡ Some (IfFalse q))
      × Placed code (m + 1) d b n × (slice_get code n ≡ Some (Operate operations.And)) × (q ≡ n + 1)
  Placed code p d (typed_call t (overloads.Operate operations.Or) (typed a (typed b no_typed))) q = (m n : ℕ)
      × Placed code p d a m × (slice_get code m ≡ Some (IfTrue q))
      × Placed code (m + 1) d b n × (slice_get code n ≡ Some (Operate operations.Or)) × (q ≡ n + 1)
  Placed code p d (typed_call t overloads.Conditional (typed c (typed a (typed b no_typed)))) q =
      (m n : ℕ) × Placed code p d c m × (slice_get code m ≡ Some (Test (n + 1) q))
      × Placed code (m + 1) d a n × (slice_get code n ≡ Some (Jump q))
      × Placed code (n + 1) d b q
  Placed code p d (typed_call t o operands) q = (m : ℕ) × PlacedAll code p d operands m
      × (slice_get code m ≡ Some (instruction_of o)) × (q ≡ m + 1)
  Placed code p d (typed_list t elements) q = (m : ℕ) × PlacedAll code p d elements m
      × (slice_get code m ≡ Some (list_instruction t elements)) × (q ≡ m + 1)
  Placed code p d (typed_map t entries) q = (m : ℕ) × PlacedAll code p d entries m
      × (slice_get code m ≡ Some (map_instruction t entries)) × (q ≡ m + 1)
  Placed code p d (typed_loop t vars range init condition step result) q = (m n k l : ℕ)
      × Placed code p d range m × (slice_get code m ≡ Some (LoopStart q))
      × Placed code (m + 1) d init n × (slice_get code n ≡ Some (Store d))
      × (slice_get code (n + 1) ≡ Some (turn_instruction vars (suc d) (l + 1 + 1)))
      × Placed code (n + 1 + 1) (variable_count vars + suc d) condition k
      × (slice_get code k ≡ Some (LoopTest (l + 1 + 1) q))
      × Placed code (k + 1) (variable_count vars + suc d) step l × (slice_get code l ≡ Some (Store d))
      × (slice_get code (l + 1) ≡ Some (Jump (n + 1)))
      × Placed code (l + 1 + 1) (suc d) result q

  -- the codes of expressions one after the other
  pub PlacedAll : List Instruction → ℕ → ℕ → TypedTrees → ℕ → Type 0
  PlacedAll code p d no_typed q = q ≡ p
  PlacedAll code p d (typed e es) q = (m : ℕ) × Placed code p d e m × PlacedAll code m d es q

pub has_all : (is pre : List Instruction) → HasAt (pre ++ is) (length pre) is
has_all [] pre = tt
has_all (i ∷ is) pre =
    let within : length pre < length (pre ++ i ∷ is) = omega (arith, length-append pre (i ∷ is)) in
    let here = slice_get-get_or (pre ++ i ∷ is) (length pre) i within ∙ ap Some (get_or-append_seam pre i is i) in
    let n : length (pre ++ i ∷ []) ≡ length pre + 1 = omega (arith, length-append pre (i ∷ [])) in
    let rest = has_all is (pre ++ i ∷ []) in
    let rest' = subst (λ l. HasAt l (length (pre ++ i ∷ [])) is) (append_assoc pre (i ∷ []) is) rest in
    (here, subst (λ m. HasAt (pre ++ i ∷ is) m is) n rest')

module _ (code : List Instruction) where
  pub has_front : (p : ℕ) (a b : List Instruction) → HasAt code p (a ++ b) → HasAt code p a
  has_front p [] b h = tt
  has_front p (i ∷ a) b h = (h.0, has_front (p + 1) a b h.1)

  has_back : (p : ℕ) (a b : List Instruction) → HasAt code p (a ++ b) → HasAt code (p + length a) b
  has_back p [] b h = let e : p ≡ p + 0 = omega arith in subst (λ n. HasAt code n b) e h
  has_back p (i ∷ a) b h =
      let e : p + 1 + length a ≡ p + length (i ∷ a) = omega arith in
      subst (λ n. HasAt code n b) e (has_back (p + 1) a b h.1)

mutual
  -- an expression has as many instructions as its extent
  pub extent_is : (e : TypedTree) (p d : ℕ) → length (code_of p d e) ≡ extent e
  extent_is (typed_constant t v) p d = refl
  extent_is (typed_local t outside) p d = refl
  extent_is (typed_attribute t a) p d = refl
  extent_is (typed_field t on name) p d = simp (length-append, extent_is on) (omega arith)
  extent_is (typed_has t on name) p d = simp (length-append, extent_is on) (omega arith)
  extent_is (typed_call t (overloads.Operate operations.And) (typed a (typed b no_typed))) p d =
      simp (length-append, extent_is a, extent_is b) (omega arith)
  extent_is (typed_call t (overloads.Operate operations.Or) (typed a (typed b no_typed))) p d =
      simp (length-append, extent_is a, extent_is b) (omega arith)
  extent_is (typed_call t overloads.Conditional (typed c (typed a (typed b no_typed)))) p d =
      simp (length-append, extent_is c, extent_is a, extent_is b) (omega arith)
  extent_is (typed_call t o operands) p d =
      length-append (codes_of p d operands) (instruction_of o ∷ []) ∙ ap (λ n. n + 1) (extents_is operands p d)
  extent_is (typed_list t elements) p d = simp (length-append, extents_is elements) (omega arith)
  extent_is (typed_map t entries) p d = simp (length-append, extents_is entries) (omega arith)
  extent_is (typed_loop t vars range init condition step result) p d =
      simp (length-append, extent_is range, extent_is init, extent_is condition, extent_is step, extent_is result) (omega arith)

  pub extents_is : (es : TypedTrees) (p d : ℕ) → length (codes_of p d es) ≡ extents es
  extents_is no_typed p d = refl
  extents_is (typed e es) p d = simp (length-append, extent_is e, extents_is es) (omega arith)

-- ---- code whose targets are extents

pub and_code : (t : ValueType) (a b : TypedTree) (p d : ℕ) → code_of p d (typed_call t (overloads.Operate operations.And) (typed a (typed b no_typed)))
    ≡ code_of p d a ++ IfFalse (p + extent a + 1 + extent b + 1) ∷ (code_of (p + extent a + 1) d b ++ Operate operations.And ∷ [])
and_code t a b p d = rw (extent_is a p d, extent_is b (p + extent a + 1) d) refl

pub or_code : (t : ValueType) (a b : TypedTree) (p d : ℕ) → code_of p d (typed_call t (overloads.Operate operations.Or) (typed a (typed b no_typed)))
    ≡ code_of p d a ++ IfTrue (p + extent a + 1 + extent b + 1) ∷ (code_of (p + extent a + 1) d b ++ Operate operations.Or ∷ [])
or_code t a b p d = rw (extent_is a p d, extent_is b (p + extent a + 1) d) refl

pub choice_code : (t : ValueType) (c a b : TypedTree) (p d : ℕ) → code_of p d (typed_call t overloads.Conditional (typed c (typed a (typed b no_typed))))
    ≡ code_of p d c ++ Test (p + extent c + 1 + extent a + 1) (p + extent c + 1 + extent a + 1 + extent b)
    ∷ (code_of (p + extent c + 1) d a ++ Jump (p + extent c + 1 + extent a + 1 + extent b) ∷ code_of (p + extent c + 1 + extent a + 1) d b)
choice_code t c a b p d = rw (extent_is c p d, extent_is a (p + extent c + 1) d, extent_is b (p + extent c + 1 + extent a + 1) d) refl

-- the code of a comprehension, with the positions of its turn, of what follows the last turn and of its end
abbrev pub loop_code : (vars : Variables) (range init condition step result : TypedTree) (p d turn after end : ℕ) → List Instruction
loop_code vars range init condition step result p d turn after end =
    code_of p d range ++ LoopStart end ∷ (code_of (p + extent range + 1) d init ++ Store d ∷ (turn_instruction vars (d + 1) after
    ∷ (code_of (turn + 1) (d + 1 + variable_count vars) condition ++ LoopTest after end
    ∷ (code_of (turn + 1 + extent condition + 1) (d + 1 + variable_count vars) step ++ Store d ∷ (Jump turn ∷ code_of after (d + 1) result)))))

pub loop_code_is : (t : ValueType) (vars : Variables) (range init condition step result : TypedTree) (p d turn after : ℕ)
    → turn ≡ p + extent range + 1 + extent init + 1 → after ≡ turn + 1 + extent condition + 1 + extent step + 1 + 1
    → code_of p d (typed_loop t vars range init condition step result) ≡ loop_code vars range init condition step result p d turn after (after + extent result)
loop_code_is t vars range init condition step result p d turn after turns afters =
    rw (
      extent_is range p d,
      extent_is init (p + extent range + 1) d,
      ← turns,
      extent_is condition (turn + 1) (d + 1 + variable_count vars),
      extent_is step (turn + 1 + extent condition + 1) (d + 1 + variable_count vars),
      ← afters,
      extent_is result after (d + 1),
    ) refl

pub codes_are : (e : TypedTree) (es : TypedTrees) (p d : ℕ) → codes_of p d (typed e es) ≡ code_of p d e ++ codes_of (p + extent e) d es
codes_are e es p d = rw (extent_is e p d) refl

module _ (code : List Instruction) where
  -- what stands behind an expression's code
  behind : (e : TypedTree) (p d : ℕ) (is : List Instruction) → HasAt code p (code_of p d e ++ is) → HasAt code (p + extent e) is
  behind e p d is h = rw (extent_is e p d) at (has_back code p (code_of p d e) is h)

  behind_all : (es : TypedTrees) (p d : ℕ) (is : List Instruction) → HasAt code p (codes_of p d es ++ is) → HasAt code (p + extents es) is
  behind_all es p d is h = rw (extents_is es p d) at (has_back code p (codes_of p d es) is h)

  mutual
    -- the code of an expression that stands at a position is placed from there to its extent
    pub placed : (e : TypedTree) (p d q : ℕ) → q ≡ p + extent e → HasAt code p (code_of p d e) → Placed code p d e q
    placed (typed_constant t v) p d q e h = (h.0, e)
    placed (typed_local t outside) p d q e h = (h.0, e)
    placed (typed_attribute t a) p d q e h = (h.0, e)
    placed (typed_field t on name) p d q e h =
        (p + extent on, placed on p d (p + extent on) refl (has_front code p _ _ h), (behind on p d _ h).0, omega arith)
    placed (typed_has t on name) p d q e h =
        (p + extent on, placed on p d (p + extent on) refl (has_front code p _ _ h), (behind on p d _ h).0, omega arith)
    placed (typed_call t (overloads.Operate operations.And) (typed a (typed b no_typed))) p d q e stands =
        let m = p + extent a in
        let n = m + 1 + extent b in
        let h = subst (λ l. HasAt code p l) (and_code t a b p d) stands in
        let h1 = behind a p d _ h in
        let h2 = behind b (m + 1) d _ h1.1 in
        let e1 : n + 1 ≡ q = omega arith in (
          m,
          n,
          placed a p d m refl (has_front code p _ _ h),
          h1.0 ∙ ap (λ i. Some (IfFalse i)) e1,
          placed b (m + 1) d n refl (has_front code (m + 1) _ _ h1.1),
          h2.0,
          sym e1,
        )
    placed (typed_call t (overloads.Operate operations.Or) (typed a (typed b no_typed))) p d q e stands =
        let m = p + extent a in
        let n = m + 1 + extent b in
        let h = subst (λ l. HasAt code p l) (or_code t a b p d) stands in
        let h1 = behind a p d _ h in
        let h2 = behind b (m + 1) d _ h1.1 in
        let e1 : n + 1 ≡ q = omega arith in (
          m,
          n,
          placed a p d m refl (has_front code p _ _ h),
          h1.0 ∙ ap (λ i. Some (IfTrue i)) e1,
          placed b (m + 1) d n refl (has_front code (m + 1) _ _ h1.1),
          h2.0,
          sym e1,
        )
    placed (typed_call t overloads.Conditional (typed c (typed a (typed b no_typed)))) p d q e stands =
        let m = p + extent c in
        let n = m + 1 + extent a in
        let h = subst (λ l. HasAt code p l) (choice_code t c a b p d) stands in
        let h1 = behind c p d _ h in
        let h2 = behind a (m + 1) d _ h1.1 in
        let e1 : n + 1 + extent b ≡ q = omega arith in (
          m,
          n,
          placed c p d m refl (has_front code p _ _ h),
          h1.0 ∙ ap (λ i. Some (Test (n + 1) i)) e1,
          placed a (m + 1) d n refl (has_front code (m + 1) _ _ h1.1),
          h2.0 ∙ ap (λ i. Some (Jump i)) e1,
          placed b (n + 1) d q (sym e1) h2.1,
        )
    placed (typed_call t o operands) p d q e h =
        (p + extents operands, placed_all operands p d (p + extents operands) refl (has_front code p (codes_of p d operands) (instruction_of o ∷ []) h), (behind_all operands p d (instruction_of o ∷ []) h).0, omega arith)
    placed (typed_list t elements) p d q e h =
        (p + extents elements, placed_all elements p d (p + extents elements) refl (has_front code p (codes_of p d elements) (list_instruction t elements ∷ []) h), (behind_all elements p d (list_instruction t elements ∷ []) h).0, omega arith)
    placed (typed_map t entries) p d q e h =
        (p + extents entries, placed_all entries p d (p + extents entries) refl (has_front code p (codes_of p d entries) (map_instruction t entries ∷ []) h), (behind_all entries p d (map_instruction t entries ∷ []) h).0, omega arith)
    placed (typed_loop t vars range init condition step result) p d q e stands =
        let m = p + extent range in
        let n = m + 1 + extent init in
        let k = n + 1 + 1 + extent condition in
        let l = k + 1 + extent step in
        let h = subst (λ c. HasAt code p c) (loop_code_is t vars range init condition step result p d (n + 1) (l + 1 + 1) refl refl) stands in
        let h1 = behind range p d _ h in
        let h2 = behind init (m + 1) d _ h1.1 in
        let h3 = behind condition (n + 1 + 1) (d + 1 + variable_count vars) _ h2.1.1 in
        let h4 = behind step (k + 1) (d + 1 + variable_count vars) _ h3.1 in
        let e1 : l + 1 + 1 + extent result ≡ q = omega arith in
        let one : d + 1 ≡ suc d = omega arith in
        let two : d + 1 + variable_count vars ≡ variable_count vars + suc d = omega arith in (
          m,
          n,
          k,
          l,
          placed range p d m refl (has_front code p _ _ h),
          h1.0 ∙ ap (λ i. Some (LoopStart i)) e1,
          placed init (m + 1) d n refl (has_front code (m + 1) _ _ h1.1),
          h2.0,
          h2.1.0 ∙ ap (λ i. Some (turn_instruction vars i (l + 1 + 1))) one,
          subst (λ x. Placed code (n + 1 + 1) x condition k) two (placed condition (n + 1 + 1) (d + 1 + variable_count vars) k refl (has_front code (n + 1 + 1) _ _ h2.1.1)),
          h3.0 ∙ ap (λ i. Some (LoopTest (l + 1 + 1) i)) e1,
          subst (λ x. Placed code (k + 1) x step l) two (placed step (k + 1) (d + 1 + variable_count vars) l refl (has_front code (k + 1) _ _ h3.1)),
          h4.0,
          h4.1.0,
          subst (λ x. Placed code (l + 1 + 1) x result q) one (placed result (l + 1 + 1) (d + 1) q (sym e1) h4.1.1),
        )

    pub placed_all : (es : TypedTrees) (p d q : ℕ) → q ≡ p + extents es → HasAt code p (codes_of p d es) → PlacedAll code p d es q
    placed_all no_typed p d q e h = omega arith
    placed_all (typed e es) p d q eq stands =
        let h = subst (λ l. HasAt code p l) (codes_are e es p d) stands in (
          p + extent e,
          placed e p d (p + extent e) refl (has_front code p _ _ h),
          placed_all es (p + extent e) d q (omega arith) (behind e p d _ h),
        )
