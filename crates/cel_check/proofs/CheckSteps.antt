-- What the single steps of the check come to.
use Rattle.std.proofs.Common.{nat_lt, arith, ◌≤◌, rules, ◌≡◌, ◌<◌, ◌+◌, ◌-◌, ◌&&◌, ℕ, ℤ, Bool, Bor, true, false, List, [], ◌∷◌, ◌++◌, drop, take, length, get_or, Option, Some, None, refl, sym, ap, ap₂, ◌∙◌}
use Rattle.std.proofs.lemmas.List.{drop_more, length-drop, map-append, take_all, take_more}
use Rattle.std.specs.Prelude.{is_some, IsTrue, IsUtf8, ◌==◌}
use Rattle.cel_overload.specs.View.{types_of}
use Rattle.proto_wire.specs.declared.refusal.Refusal.{Refusal}
use Rattle.std.specs.Option.{option_or}
use Rattle.std.proofs.lemmas.Bool.Decides.{nat_tests}
use Rattle.std.specs.Str.{bytes_eq}
use Rattle.std.specs.declared.alloc.Global.{Global}
use Rattle.std.specs.declared.boxed.Box.{Box}
use Rattle.std.specs.declared.vec.Vec.{Vec}
use Rattle.cel_overload.specs.declared.overload.Overload.{Overload}
use Rattle.cel_tree.specs.Tree.{CelTree, constant, ident, select, call, list_literal, map_literal, comprehension}
use Rattle.cel_tree.specs.View.{target_of, tree_view}
use Rattle.cel_tree.specs.private.TreeViews.{boxed_view, tree_entries_view, trees_view}
use Rattle.cel_tree.specs.declared.tree.Tree.{Tree}
use Rattle.cel_tree.specs.declared.tree.TreeEntry.{TreeEntry}
use Rattle.std.specs.declared.sync.ArcStr.{ArcStr}
use Rattle.cel_tree.specs.Checked.{CelTypeEntry, of_type}
use Rattle.cel_value.specs.Texts.{points_of, text_view}
use Rattle.cel_value.specs.Types.{ValueType, type_eq, type_view}
use Rattle.cel_value.specs.declared.cel_type.CelType.{CelType}
use Rattle.cel_types.specs.Elaborated.{kind, kinds, typed_call, typed_list, typed_map}
use Rattle.cel_types.specs.Names.{local}
use Rattle.cel_types.specs.Typing.{IsMap, Kinds, has_target, most_locals, name_type}
use Rattle.cel_types.specs.View.{expr_view, loop_of}
use Rattle.cel_types.specs.private.ExprViews.{exprs_view, parts_view}
use Rattle.cel_check.specs.declared.checker.names.Name.{Name}
use Rattle.cel_check.specs.declared.checker.names.Name.TheVariants as names
use Rattle.cel_check.specs.declared.checker.scope.Scope.{Scope, Empty, Local, the_lemmas}
use Rattle.cel_types.specs.declared.typed.TypedExpr.{TypedExpr, the_lemmas as expr_lemmas}
use Rattle.cel_types.specs.declared.typed.TypedExpr as exprs
use Rattle.cel_types.specs.declared.typed.TypedLoop.{TypedLoop}
use Rattle.cel_check.specs.private.Kinds.{IsMapOf, NoMapOf, NotStated, in_turn}
use Rattle.cel_check.specs.Places.{first_crowded, first_crowded_each, first_crowded_entry, id_of}
use Rattle.cel_check.specs.private.Scopes.{IsName, crowded_inside, name_view, scope_view}
use Rattle.cel_types.proofs.CheckNames.{empty_name}

pub view_empty : scope_view Empty ≡ []
view_empty = search (rules, the_lemmas)

pub view_local : (n : Bor (ArcStr Global)) (t : Bor CelType) (o : Bor Scope)
    → scope_view (Local n t o) ≡ (text_view n.now, type_view t.now) ∷ scope_view o.now
view_local n t o = search (rules, the_lemmas)

-- a name that is found has a type
pub name_types : (name : List ℕ) (ks : Kinds) (n : Name) → IsName name ks n
    → name_type name (local name ks) ≡ Some (kind (name_view n))
name_types name ks (names.Local f) (is, at) = rw is refl
name_types name ks (names.Attribute id) (none, slot, named) = rw (none, named) refl

-- the types of expressions, one more at the end
pub kinds_push : (es : List TypedExpr) (e : TypedExpr)
    → kinds (exprs_view (es ++ (e ∷ []))) ≡ kinds (exprs_view es) ++ (kind (expr_view e) ∷ [])
kinds_push [] e = refl
kinds_push (x ∷ es) e = ap (λ ts. kind (expr_view x) ∷ ts) (kinds_push es e)

-- types in turn from one place on
pub in_turn_at : (s t : ValueType) (es : List TypedExpr) (i : ℕ) (d : TypedExpr) → i < length es
    → in_turn s t (kinds (exprs_view (drop i es)))
    ≡ (type_eq (kind (expr_view (get_or es i d))) s
    && in_turn t s (kinds (exprs_view (drop (i + 1) es))))
in_turn_at s t es i d within = ap (λ l. in_turn s t (kinds (exprs_view l))) (drop_more es i d within)

-- the types of expressions so far, and one more
pub types_push : (ts : List (Bor CelType)) (t : Bor CelType) (es : List TypedExpr) (i : ℕ)
    (e : TypedExpr) → i < length es → e ≡ get_or es i e
    → types_of ts ≡ kinds (exprs_view (take i es)) → type_view t.now ≡ kind (expr_view e)
    → types_of (ts ++ (t ∷ [])) ≡ kinds (exprs_view (take (i + 1) es))
types_push ts t es i e within is so_far same =
    let more : take (i + 1) es ≡ take i es ++ (e ∷ []) =
    take_more es i e within ∙ ap (λ x. take i es ++ (x ∷ [])) (sym is) in
    map-append (λ t. type_view t.now) ts (t ∷ []) ∙ ap₂ (λ x y. x ++ (y ∷ [])) so_far same
    ∙ sym (ap (λ l. kinds (exprs_view l)) more ∙ kinds_push (take i es) e)

-- whether a text is empty, asked of its points
pub empty_same : (bs : List ℕ) → IsUtf8 bs → (b : Bool) → b ≡ (length bs == 0) → b ≡ bytes_eq [] (points_of bs)
empty_same bs u b e =
    elim (points_of bs) as (λ ps. ((IsTrue b → ps ≡ []) × (ps ≡ [] → IsTrue b)) → b ≡ bytes_eq [] ps) [
      | [] ↦ λ both. both.1 refl
      | p ∷ ps ↦ λ both. elim b as (λ c. (IsTrue c → p ∷ ps ≡ []) → c ≡ false) [
        | true ↦ λ none. absurd (let clash : p ∷ ps ≡ [] = none refl in cc)
        | false ↦ λ none. refl
      ] both.0
    ] (empty_name bs u b e)

-- ---- nodes that have too many locals in scope

pub below_none : (n : ℕ) → most_locals < n → nat_lt most_locals n ≡ true
below_none n many = grind (arith, nat_tests)

-- if the expression itself has too many, it is named
pub here_first : (n : ℕ) (t : CelTree) → most_locals < n → Some (id_of t) ≡ first_crowded n t
here_first n (constant id v) many = rw (below_none n many) refl
here_first n (ident id name) many = rw (below_none n many) refl
here_first n (select id operand field test_only) many = rw (below_none n many) refl
here_first n (call id name on args) many = rw (below_none n many) refl
here_first n (list_literal id elements) many = rw (below_none n many) refl
here_first n (map_literal id entries) many = rw (below_none n many) refl
here_first n (comprehension id x y acc range init condition step result) many = rw (below_none n many) refl

pub at_most : (n : ℕ) → n ≤ most_locals → nat_lt most_locals n ≡ false
at_most n few = grind (arith, nat_tests)

-- otherwise the first node inside that has too many is named
pub inside_first : (n : ℕ) (t : CelTree) → n ≤ most_locals → crowded_inside n t ≡ first_crowded n t
inside_first n (constant id v) few = rw (at_most n few) refl
inside_first n (ident id name) few = rw (at_most n few) refl
inside_first n (select id operand field test_only) few = rw (at_most n few) refl
inside_first n (call id name on args) few = rw (at_most n few) refl
inside_first n (list_literal id elements) few = rw (at_most n few) refl
inside_first n (map_literal id entries) few = rw (at_most n few) refl
inside_first n (comprehension id x y acc range init condition step result) few = rw (at_most n few) refl

-- the first of trees from one place on
pub crowded_at : (ts : List Tree) (i : ℕ) (d : Tree) (n : ℕ) (found : Option ℤ) → i < length ts → d ≡ get_or ts i d
    → found ≡ first_crowded n (tree_view d)
    → first_crowded_each n (trees_view (drop i ts)) ≡ first_crowded_each n (trees_view ts)
    → option_or found (first_crowded_each n (trees_view (drop (i + 1) ts))) ≡ first_crowded_each n (trees_view ts)
crowded_at ts i d n found within is here so_far =
    ap (λ x. option_or x (first_crowded_each n (trees_view (drop (i + 1) ts))))
    (here ∙ ap (λ t. first_crowded n (tree_view t)) is)
    ∙ ap (λ l. first_crowded_each n (trees_view l)) (sym (drop_more ts i d within)) ∙ so_far

-- the first of entries from one place on
pub crowded_entry_at : (es : List TreeEntry) (i : ℕ) (d : TreeEntry) (n : ℕ) (key value : Option ℤ) → i < length es
    → d ≡ get_or es i d → key ≡ first_crowded n (tree_view d.key) → value ≡ first_crowded n (tree_view d.value)
    → first_crowded_entry n (tree_entries_view (drop i es)) ≡ first_crowded_entry n (tree_entries_view es)
    → option_or key (option_or value (first_crowded_entry n (tree_entries_view (drop (i + 1) es))))
    ≡ first_crowded_entry n (tree_entries_view es)
crowded_entry_at es i d n key value within is here there so_far =
    let rest = first_crowded_entry n (tree_entries_view (drop (i + 1) es)) in
    ap₂ (λ x y. option_or x (option_or y rest))
    (here ∙ ap (λ t. first_crowded n (tree_view t.key)) is)
    (there ∙ ap (λ t. first_crowded n (tree_view t.value)) is)
    ∙ ap (λ l. first_crowded_entry n (tree_entries_view l)) (sym (drop_more es i d within)) ∙ so_far

-- ---- how expressions are seen

pub view_list : (t : CelType) (es : Vec TypedExpr Global)
    → expr_view (exprs.List t es) ≡ typed_list (type_view t) (exprs_view es.items)
view_list t es = search (rules, expr_lemmas)

pub view_map : (t : CelType) (es : Vec TypedExpr Global)
    → expr_view (exprs.Map t es) ≡ typed_map (type_view t) (exprs_view es.items)
view_map t es = search (rules, expr_lemmas)

pub view_call : (t : CelType) (o : Overload) (es : Vec TypedExpr Global)
    → expr_view (exprs.Call t o es) ≡ typed_call (type_view t) o (exprs_view es.items)
view_call t o es = search (rules, expr_lemmas)

pub view_loop : (t : CelType) (p : Box TypedLoop Global)
    → expr_view (exprs.Loop t p) ≡ loop_of (type_view t) (parts_view p.value)
view_loop t p = search (rules, expr_lemmas)

-- a call has a target where there is one in its box
pub target_some : (on : Option (Box Tree Global))
    → is_some on ≡ has_target (target_of (boxed_view on))
target_some None = refl
target_some (Some b) = refl

-- ---- the first of expressions

pub no_exprs : (es : List TypedExpr) → length es < 1 → es ≡ []
no_exprs [] few = refl
no_exprs (e ∷ es) few = absurd (omega (arith, few))

pub first_expr : (es : List TypedExpr) (d : TypedExpr) → 1 ≤ length es → d ≡ get_or es 0 d
    → es ≡ d ∷ drop 1 es
first_expr [] d some is = absurd (omega (arith, some))
first_expr (e ∷ es) d some is = ap (λ x. x ∷ es) (sym is)

pub two_exprs : (es : List TypedExpr) (d e : TypedExpr) → 2 ≤ length es → d ≡ get_or es 0 d
    → e ≡ get_or es 1 e → es ≡ d ∷ e ∷ drop 2 es
two_exprs [] d e some first second = absurd (omega (arith, some))
two_exprs (x ∷ []) d e some first second = absurd (omega (arith, some))
two_exprs (x ∷ y ∷ es) d e some first second =
    ap₂ (λ a b. a ∷ b ∷ es) (sym first) (sym second)

-- what is left behind the first ones is all of it
pub all_left : (n : ℕ) (es : List TypedExpr) → take (length es - n) (drop n es) ≡ drop n es
all_left n es =
    let long = length-drop n es in take_all (length es - n) (drop n es) (omega (arith, long))

-- fewer than two are no pair
pub short_map : (entry : Option CelTypeEntry) (es : List TypedExpr) (t : ValueType) → length es < 2
    → (entry ≡ Some (of_type t)) × IsMap t → IsMapOf entry (kinds (exprs_view es)) t
short_map entry [] t few is = is
short_map entry (x ∷ []) t few is = is
short_map entry (x ∷ y ∷ es) t few is = absurd (omega (arith, few))

pub short_fault : (entry : Option CelTypeEntry) (es : List TypedExpr) (e : Refusal) → length es < 2
    → NotStated entry IsMap e → NoMapOf entry (kinds (exprs_view es)) e
short_fault entry [] e few f = f
short_fault entry (x ∷ []) e few f = f
short_fault entry (x ∷ y ∷ es) e few f = absurd (omega (arith, few))
