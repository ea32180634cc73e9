-- Lists of the code's expressions, as the definitions see them.
use Rattle.std.proofs.Common.{◌≡◌, ℕ, ◌+◌, ◌/◌, ◌<◌, ◌≤◌, ◌^◌, ◌↔◌, ◌⊎◌, inl, inr, Bool, true, false, List, [], ◌∷◌, ◌++◌, length, drop, get_or, refl, sym, ap, ◌∙◌, subst, arith}
use Rattle.std.specs.Prelude.{IsTrue}
use Rattle.std.proofs.lemmas.List.{drop_all, drop_more}
use Rattle.cel_value.specs.Types.{ValueType, list_type, map_type, type_eq}
use Rattle.cel_value.specs.declared.cel_type.KeyType.{KeyType}
use Rattle.cel_value.specs.private.EqualityLaws.{type_eq_decides}
use Rattle.cel_overload.specs.declared.overload.Overload.{Overload}
use Rattle.cel_ops.specs.declared.operation.Operation.TheVariants as operations
use Rattle.cel_overload.specs.declared.overload.Overload.TheVariants as overloads
use Rattle.cel_types.specs.Elaborated.{TypedTree, TypedTrees, typed_constant, typed_local, typed_attribute, typed_field, typed_has, typed_call, typed_list, typed_map, typed_loop, no_typed, typed}
use Rattle.cel_types.specs.View.{expr_view}
use Rattle.cel_types.specs.private.ExprViews.{exprs_view}
use Rattle.cel_types.specs.declared.typed.TypedExpr.{TypedExpr}
use Rattle.machine_code.specs.Instructions.{code_view, MakeList, MakeMap}
use Rattle.machine_code.specs.declared.instr.Instr.{Instr}
use Rattle.cel_compile.specs.Codes.{count, instruction_of, list_instruction, map_instruction, pairs}
use Rattle.cel_compile.specs.private.Extents.{extent, extents}
use Rattle.cel_compile.specs.Slots.{HasFewLocals, HaveFewLocals}
use Rattle.cel_compile.specs.declared.lengths.Lengths.{Lengths}
use Rattle.cel_compile.specs.private.Emitting.{Grows, GrowsAll, HasRoom, HaveRoom}
use Rattle.cel_compile.proofs.Built.{first_built, left, next, nothing, then, wrote}
use Rattle.cel_compile.proofs.Sound.{some_list, some_map}

-- ---- numbers of expressions

pub count_of : (xs : List TypedExpr) → count (exprs_view xs) ≡ length xs
count_of [] = refl
count_of (x ∷ xs) = let rest = count_of xs in omega (arith, rest)

pub pairs_of : (xs : List TypedExpr) → pairs (exprs_view xs) ≡ length xs / 2
pairs_of [] = refl
pairs_of (x ∷ []) = refl
pairs_of (x ∷ y ∷ xs) = let rest = pairs_of xs in omega (arith, rest)

pub made_list : (t : ValueType) (xs : List TypedExpr) (n : ℕ) → 0 < length xs → n ≡ length xs → MakeList n ≡ list_instruction t (exprs_view xs)
made_list t [] n some e = absurd (omega arith)
made_list t (x ∷ xs) n some e =
    ap MakeList (e ∙ sym (count_of (x ∷ xs))) ∙ sym (some_list t (expr_view x) (exprs_view xs))

-- a literal of another type than a list's
pub other_list : (t : ValueType) (es : TypedTrees) → ((s : ValueType) → false ≡ type_eq (list_type s) t) → MakeList (count es) ≡ list_instruction t es
other_list (list_type s) es differs =
    let same : type_eq (list_type s) (list_type s) ≡ true = (type_eq_decides s s).1 refl in
    let not_same : false ≡ type_eq (list_type s) (list_type s) = differs s in
    absurd cc
other_list t es differs = refl

pub made_map : (t : ValueType) (xs : List TypedExpr) (n : ℕ) → 0 < length xs → n ≡ length xs / 2 → MakeMap n ≡ map_instruction t (exprs_view xs)
made_map t [] n some e = absurd (omega arith)
made_map t (x ∷ xs) n some e =
    ap MakeMap (e ∙ sym (pairs_of (x ∷ xs))) ∙ sym (some_map t (expr_view x) (exprs_view xs))

-- a literal of another type than a map's
pub other_map : (t : ValueType) (es : TypedTrees) → ((k : KeyType) (s : ValueType) → false ≡ type_eq (map_type k s) t) → MakeMap (pairs es) ≡ map_instruction t es
other_map (map_type k s) es differs =
    let same : type_eq (map_type k s) (map_type k s) ≡ true = (type_eq_decides (map_type k s) (map_type k s)).1 refl in
    let not_same : false ≡ type_eq (map_type k s) (map_type k s) = differs k s in
    absurd cc
other_map t es differs = refl

some_extent : (e : TypedTree) → 1 ≤ extent e
some_extent (typed_constant t v) = omega arith
some_extent (typed_local t outside) = omega arith
some_extent (typed_attribute t a) = omega arith
some_extent (typed_field t on name) = omega arith
some_extent (typed_has t on name) = omega arith
some_extent (typed_call t (overloads.Operate operations.And) (typed a (typed b no_typed))) = omega arith
some_extent (typed_call t (overloads.Operate operations.Or) (typed a (typed b no_typed))) = omega arith
some_extent (typed_call t overloads.Conditional (typed c (typed a (typed b no_typed)))) = omega arith
some_extent (typed_call t o operands) = let some : 1 ≤ extents operands + 1 = omega arith in some
some_extent (typed_list t elements) = omega arith
some_extent (typed_map t entries) = omega arith
some_extent (typed_loop t vars range init condition step result) = omega arith

-- there are no more expressions than instructions
few_expressions : (xs : List TypedExpr) → length xs ≤ extents (exprs_view xs)
few_expressions [] = omega arith
few_expressions (x ∷ xs) = let rest = few_expressions xs in let here = some_extent (expr_view x) in omega (arith, rest, here)

-- ---- operands

pub two_operands : (xs : List TypedExpr) (a b d e : TypedExpr) → 2 ≤ length xs → length xs < 3 → a ≡ get_or xs 0 d → b ≡ get_or xs 1 e
    → exprs_view xs ≡ typed (expr_view a) (typed (expr_view b) no_typed)
two_operands [] a b d e least less ea eb = absurd (omega arith)
two_operands (x ∷ []) a b d e least less ea eb = absurd (omega arith)
two_operands (x ∷ y ∷ []) a b d e least less ea eb = rw (ea, eb) refl
two_operands (x ∷ y ∷ z ∷ xs) a b d e least less ea eb = absurd (omega arith)

pub three_operands : (xs : List TypedExpr) (a b c d e f : TypedExpr) → 3 ≤ length xs → length xs < 4 → a ≡ get_or xs 0 d → b ≡ get_or xs 1 e → c ≡ get_or xs 2 f
    → exprs_view xs ≡ typed (expr_view a) (typed (expr_view b) (typed (expr_view c) no_typed))
three_operands [] a b c d e f least less ea eb ec = absurd (omega arith)
three_operands (x ∷ []) a b c d e f least less ea eb ec = absurd (omega arith)
three_operands (x ∷ y ∷ []) a b c d e f least less ea eb ec = absurd (omega arith)
three_operands (x ∷ y ∷ z ∷ []) a b c d e f least less ea eb ec = rw (ea, eb, ec) refl
three_operands (x ∷ y ∷ z ∷ w ∷ xs) a b c d e f least less ea eb ec = absurd (omega arith)

-- the room of a call that does not jump
pub record PlainRoom (d : ℕ) (es : TypedTrees) (i : List Instr) (l : List Lengths) : Type 0 where
  pub operands : HaveRoom i l d es
  pub fits : length i + (extents es + 1) < 2 ^ 16

module _ (bj bc : Bool) (d : ℕ) (t : ValueType) (i0 : List Instr) (l0 : List Lengths) where
  pub plain_room : (o : Overload) (xs : List TypedExpr)
      → (IsTrue bj ↔ (((o ≡ (overloads.Operate operations.And)) ⊎ (o ≡ (overloads.Operate operations.Or))) × (length xs ≡ 2))) → bj ≡ false
      → (IsTrue bc ↔ ((o ≡ overloads.Conditional) × (length xs ≡ 3))) → bc ≡ false
      → HasRoom i0 l0 d (typed_call t o (exprs_view xs)) → PlainRoom d (exprs_view xs) i0 l0
  plain_room (overloads.Operate operations.And) (x ∷ y ∷ []) hj nj hc nc room = let h : bj ≡ true = hj.1 (inl refl, refl) in absurd cc
  plain_room (overloads.Operate operations.Or) (x ∷ y ∷ []) hj nj hc nc room = let h : bj ≡ true = hj.1 (inr refl, refl) in absurd cc
  plain_room overloads.Conditional (x ∷ y ∷ z ∷ []) hj nj hc nc room = let h : bc ≡ true = hc.1 (refl, refl) in absurd cc
  plain_room o xs hj nj hc nc room =
      let fits : length i0 + (extents (exprs_view xs) + 1) < 2 ^ 16 = room.2 in
      record { operands = (room.0, room.1, omega (arith, fits)); fits = fits }

  pub plain_grows : (o : Overload) (xs : List TypedExpr) (i1 i2 : List Instr) (l1 : List Lengths)
      → (IsTrue bj ↔ (((o ≡ (overloads.Operate operations.And)) ⊎ (o ≡ (overloads.Operate operations.Or))) × (length xs ≡ 2))) → bj ≡ false
      → (IsTrue bc ↔ ((o ≡ overloads.Conditional) × (length xs ≡ 3))) → bc ≡ false
      → GrowsAll i0 i1 l0 l1 d (exprs_view xs) → code_view i2 ≡ code_view i1 ++ instruction_of o ∷ []
      → Grows i0 i2 l0 l1 d (typed_call t o (exprs_view xs))
  plain_grows (overloads.Operate operations.And) (x ∷ y ∷ []) i1 i2 l1 hj nj hc nc g put = let h : bj ≡ true = hj.1 (inl refl, refl) in absurd cc
  plain_grows (overloads.Operate operations.Or) (x ∷ y ∷ []) i1 i2 l1 hj nj hc nc g put = let h : bj ≡ true = hj.1 (inr refl, refl) in absurd cc
  plain_grows overloads.Conditional (x ∷ y ∷ z ∷ []) i1 i2 l1 hj nj hc nc g put = let h : bc ≡ true = hc.1 (refl, refl) in absurd cc
  plain_grows o xs i1 i2 l1 hj nj hc nc g put = then g (wrote (instruction_of o) put)

pub plain_put : {d : ℕ} {es : TypedTrees} {i0 i1 : List Instr} {l0 l1 : List Lengths} → PlainRoom d es i0 l0 → GrowsAll i0 i1 l0 l1 d es → length i1 < 65535
plain_put room g = let fits = room.fits in let longer = g.longer in omega (arith, fits, longer)

-- ---- literals

pub list_room : (d : ℕ) (t : ValueType) (es : TypedTrees) (i : List Instr) (l : List Lengths) → HasRoom i l d (typed_list t es) → PlainRoom d es i l
list_room d t es i l room = let fits = room.2 in record { operands = (room.0, room.1, omega (arith, fits)); fits = fits }

pub map_room : (d : ℕ) (t : ValueType) (es : TypedTrees) (i : List Instr) (l : List Lengths) → HasRoom i l d (typed_map t es) → PlainRoom d es i l
map_room d t es i l room = let fits = room.2 in record { operands = (room.0, room.1, omega (arith, fits)); fits = fits }

pub few_elements : {d : ℕ} {i : List Instr} {l : List Lengths} (xs : List TypedExpr) → PlainRoom d (exprs_view xs) i l → length xs < 2 ^ 16
few_elements xs room = let fits = room.fits in let few = few_expressions xs in omega (arith, fits, few)

-- ---- expressions in order

-- what is left to emit has room, and then all are emitted
abbrev pub GoesOn : (old now : List Instr) → (before after : List Lengths) → ℕ → (left whole : List TypedExpr) → Type 0
GoesOn old now before after d left whole = HaveRoom now after d (exprs_view left)
    × ((end : List Instr) (last : List Lengths) → GrowsAll now end after last d (exprs_view left) → GrowsAll old end before last d (exprs_view whole))

pub begins_on : (d : ℕ) (xs : List TypedExpr) (i : List Instr) (l : List Lengths) → HaveRoom i l d (exprs_view xs) → GoesOn i i l l d xs xs
begins_on d xs i l room = (room, λ end last g. g)

module _ (d : ℕ) (xs : List TypedExpr) (k : ℕ) (x : TypedExpr) (old now : List Instr) (l0 l1 : List Lengths) (within : k < length xs)
    (so_far : GoesOn old now l0 l1 d (drop k xs) xs) where
  room : HaveRoom now l1 d (typed (expr_view (get_or xs k x)) (exprs_view (drop (k + 1) xs)))
  room = subst (λ l. HaveRoom now l1 d (exprs_view l)) (drop_more xs k x within) so_far.0

  pub next_room : HasRoom now l1 d (expr_view (get_or xs k x))
  next_room = let fits = room.2 in (next l1 _ _ room.0, room.1.0, omega (arith, fits))

  pub goes_on : (after : List Instr) (l2 : List Lengths) → Grows now after l1 l2 d (expr_view (get_or xs k x)) → GoesOn old after l0 l2 d (drop (k + 1) xs) xs
  goes_on after l2 here =
      let fits = room.2 in
      let longer = here.longer in (
        (left here room.0, room.1.1, omega (arith, fits, longer)),
        λ end last rest. so_far.1 end last (subst (λ l. GrowsAll now end l1 last d (exprs_view l)) (sym (drop_more xs k x within))
            (first_built d (expr_view (get_or xs k x)) (exprs_view (drop (k + 1) xs)) here rest)),
      )

pub all_emitted : (d : ℕ) (xs : List TypedExpr) (k : ℕ) (old now : List Instr) (l0 l1 : List Lengths) → length xs ≤ k → GoesOn old now l0 l1 d (drop k xs) xs
    → GrowsAll old now l0 l1 d (exprs_view xs)
all_emitted d xs k old now l0 l1 past so_far =
    so_far.1 now l1 (subst (λ l. GrowsAll now now l1 l1 d (exprs_view l)) (sym (drop_all k xs past)) (nothing now l1))

-- ---- locals

module _ (depth : ℕ) (xs : List TypedExpr) (i : ℕ) (d : TypedExpr) (within : i < length xs) (r : Bool)
    (here : IsTrue r ↔ HasFewLocals depth (expr_view (get_or xs i d)))
    (so_far : HaveFewLocals depth (exprs_view (drop i xs)) ↔ HaveFewLocals depth (exprs_view xs)) where
  pub not_here : r ≡ false → IsTrue false ↔ HaveFewLocals depth (exprs_view xs)
  not_here is = (
    λ h. absurd cc,
    λ h. let rest = subst (λ l. HaveFewLocals depth (exprs_view l)) (drop_more xs i d within) (so_far.1 h) in sym is ∙ here.1 rest.0,
  )

  pub still : r ≡ true → HaveFewLocals depth (exprs_view (drop (i + 1) xs)) ↔ HaveFewLocals depth (exprs_view xs)
  still is = (
    λ h. so_far.0 (subst (λ l. HaveFewLocals depth (exprs_view l)) (sym (drop_more xs i d within)) (here.0 is, h)),
    λ h. (subst (λ l. HaveFewLocals depth (exprs_view l)) (drop_more xs i d within) (so_far.1 h)).1,
  )
