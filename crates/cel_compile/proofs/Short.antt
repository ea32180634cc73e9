-- The code of an elaboration is short: fewer than two instructions a node, and few locals.
use Rattle.std.proofs.Common.{◌≡◌, ℕ, ◌+◌, ◌*◌, ◌<◌, ◌≤◌, ◌⊎◌, [], inl, inr, max, refl, ap, arith, length}
use Rattle.std.proofs.Math.Nat.{le-max_left, le-max_right}
use Rattle.cel_value.specs.Types.{ValueType}
use Rattle.cel_overload.specs.declared.overload.Overload.{Overload}
use Rattle.cel_ops.specs.declared.operation.Operation.TheVariants as operations
use Rattle.cel_overload.specs.declared.overload.Overload.TheVariants as overloads
use Rattle.cel_tree.specs.Checked.{CelChecked}
use Rattle.cel_tree.specs.Message.{ExprParts, IsExprOf, checked_parts, most_nodes, unchecked_parts}
use Rattle.cel_tree.specs.Tree.{CelTree, constant, ident, select, call, list_literal, map_literal, comprehension, CelTarget, no_target, target, CelTrees, no_trees, tree, CelTreeEntries, no_tree_entries, tree_entry}
use Rattle.cel_tree.specs.Trees.{entries_count, node_count, target_count, trees_count}
use Rattle.cel_types.specs.Elaborated.{Elaborates, ElaboratesEach, ElaboratesPairs, ElaboratesTarget, IsElaborated, TypedTree, TypedTrees, kind, no_typed, typed, typed_attribute, typed_call, typed_constant, typed_field, typed_has, typed_list, typed_local, typed_loop, typed_map}
use Rattle.cel_types.specs.Names.{variable_count, variables_of}
use Rattle.cel_types.specs.Typing.{Kinds, Maps, locals_in, locals_in_each, locals_in_entries, locals_in_target, maps_of}
use Rattle.cel_types.proofs.CheckLaws.{typed_agreeing}
use Rattle.proto_wire.specs.Refusal.{MemoryOr}
use Rattle.proto_wire.specs.declared.refusal.Refusal.{Refusal}
use Rattle.proto_wire.specs.declared.refusal.Refusal.TheVariants.{Memory, TooLarge}
use Rattle.cel_compile.specs.Codes.{code_of, count}
use Rattle.cel_compile.specs.private.Extents.{extent, extents}
use Rattle.cel_compile.specs.Slots.{HasFewLocals, HaveFewLocals}
use Rattle.cel_compile.proofs.Placing.{extent_is}

-- ---- lengths

-- a call has one instruction beside its operands', or two where it has as many operands
call_extent : (t : ValueType) (o : Overload) (es : TypedTrees) → extent (typed_call t o es) < extents es + count es + 2
call_extent t (overloads.Operate operations.And) (typed a (typed b no_typed)) = omega arith
call_extent t (overloads.Operate operations.Or) (typed a (typed b no_typed)) = omega arith
call_extent t overloads.Conditional (typed c (typed a (typed b no_typed))) = omega arith
call_extent t o es =
    let one : extent (typed_call t o es) ≡ extents es + 1 = refl in omega (arith, one)

mutual
  -- fewer than two instructions for each node
  extent_bound : (m : Maps) (ks : Kinds) (t : CelTree) (e : TypedTree) → Elaborates m ks t e → extent e < 2 * node_count t
  extent_bound m ks (constant id v) (typed_constant t w) g = omega arith
  extent_bound m ks (constant id v) _ g = absurd g
  extent_bound m ks (ident id name) (typed_local t outside) g = omega arith
  extent_bound m ks (ident id name) (typed_attribute t a) g = omega arith
  extent_bound m ks (ident id name) _ g = absurd g
  extent_bound m ks (select id operand field test_only) (typed_attribute t a) g = omega arith
  extent_bound m ks (select id operand field test_only) (typed_field t on name) g =
      let inside = extent_bound m ks operand on g.4 in omega (arith, inside)
  extent_bound m ks (select id operand field test_only) (typed_has t on name) g =
      let inside = extent_bound m ks operand on g.4 in omega (arith, inside)
  extent_bound m ks (select id operand field test_only) _ g = absurd g
  extent_bound m ks (call id name on args) (typed_call t o operands) g =
      let own = call_extent t o operands in
      let inside = target_bound m ks on args operands (λ es each. each_bound m ks args es each) g.2 in
      omega (arith, own, inside)
  extent_bound m ks (call id name on args) _ g = absurd g
  extent_bound m ks (list_literal id elements) (typed_list t es) g =
      let inside = each_bound m ks elements es g.1 in omega (arith, inside)
  extent_bound m ks (list_literal id elements) _ g = absurd g
  extent_bound m ks (map_literal id entries) (typed_map t pairs) g =
      let inside = pairs_bound m ks entries pairs g.1 in omega (arith, inside)
  extent_bound m ks (map_literal id entries) _ g = absurd g
  extent_bound m ks (comprehension id x y acc range init condition step result) (typed_loop t vars r i c s e) g =
      let of_range = extent_bound m ks range r g.6 in
      let of_init = extent_bound m ks init i g.7 in
      let of_condition = extent_bound m _ condition c g.8 in
      let of_step = extent_bound m _ step s g.9 in
      let of_result = extent_bound m _ result e g.10 in
      omega (arith, of_range, of_init, of_condition, of_step, of_result)
  extent_bound m ks (comprehension id x y acc range init condition step result) _ g = absurd g

  target_bound : (m : Maps) (ks : Kinds) (on : CelTarget) (args : CelTrees) (es : TypedTrees)
      → ((fs : TypedTrees) → ElaboratesEach m ks args fs → extents fs + count fs ≤ 2 * trees_count args)
      → ElaboratesTarget m ks on (ElaboratesEach m ks args) es → extents es + count es ≤ 2 * (target_count on + trees_count args)
  target_bound m ks no_target args es others g = let inside = others es g in omega (arith, inside)
  target_bound m ks (target on) args no_typed others g = absurd g
  target_bound m ks (target on) args (typed e es) others g =
      let first = extent_bound m ks on e g.0 in
      let inside = others es g.1 in
      omega (arith, first, inside)

  each_bound : (m : Maps) (ks : Kinds) (ts : CelTrees) (es : TypedTrees) → ElaboratesEach m ks ts es → extents es + count es ≤ 2 * trees_count ts
  each_bound m ks no_trees no_typed g = omega arith
  each_bound m ks no_trees (typed e es) g = absurd g
  each_bound m ks (tree t ts) no_typed g = absurd g
  each_bound m ks (tree t ts) (typed e es) g =
      let first = extent_bound m ks t e g.0 in
      let others = each_bound m ks ts es g.1 in
      omega (arith, first, others)

  pairs_bound : (m : Maps) (ks : Kinds) (ts : CelTreeEntries) (es : TypedTrees) → ElaboratesPairs m ks ts es → extents es + count es ≤ 2 * entries_count ts
  pairs_bound m ks no_tree_entries no_typed g = omega arith
  pairs_bound m ks no_tree_entries (typed e es) g = absurd g
  pairs_bound m ks (tree_entry id key value ts) no_typed g = absurd g
  pairs_bound m ks (tree_entry id key value ts) (typed e no_typed) g = absurd g
  pairs_bound m ks (tree_entry id key value ts) (typed e (typed f es)) g =
      let of_key = extent_bound m ks key e g.0 in
      let of_value = extent_bound m ks value f g.1 in
      let others = pairs_bound m ks ts es g.2 in
      omega (arith, of_key, of_value, others)

-- ---- locals

-- where the greatest of two numbers and one more is small, so are both
left : (a b n d : ℕ) → d + max a b ≤ n → d + a ≤ n
left a b n d le = let most = le-max_left a b in omega (arith, most, le)

right : (a b n d : ℕ) → d + max a b ≤ n → d + b ≤ n
right a b n d le = let most = le-max_right a b in omega (arith, most, le)

mutual
  few : (m : Maps) (ks : Kinds) (t : CelTree) (e : TypedTree) (d : ℕ) → Elaborates m ks t e → d + locals_in t ≤ 255 → HasFewLocals d e
  few m ks (constant id v) (typed_constant t w) d g le = tt
  few m ks (constant id v) _ d g le = absurd g
  few m ks (ident id name) (typed_local t outside) d g le = tt
  few m ks (ident id name) (typed_attribute t a) d g le = tt
  few m ks (ident id name) _ d g le = absurd g
  few m ks (select id operand field test_only) (typed_attribute t a) d g le = tt
  few m ks (select id operand field test_only) (typed_field t on name) d g le = few m ks operand on d g.4 le
  few m ks (select id operand field test_only) (typed_has t on name) d g le = few m ks operand on d g.4 le
  few m ks (select id operand field test_only) _ d g le = absurd g
  few m ks (call id name on args) (typed_call t o operands) d g le =
      few_target m ks on args operands d (λ es each. few_each m ks args es d each (right (locals_in_target on) (locals_in_each args) 255 d le)) g.2
      (left (locals_in_target on) (locals_in_each args) 255 d le)
  few m ks (call id name on args) _ d g le = absurd g
  few m ks (list_literal id elements) (typed_list t es) d g le = few_each m ks elements es d g.1 le
  few m ks (list_literal id elements) _ d g le = absurd g
  few m ks (map_literal id entries) (typed_map t pairs) d g le = few_pairs m ks entries pairs d g.1 le
  few m ks (map_literal id entries) _ d g le = absurd g
  few m ks (comprehension id x y acc range init condition step result) (typed_loop t vars r i c s e) d g le =
      let n = variable_count (variables_of y) in
      let many : variable_count vars ≡ n = ap variable_count g.1 in
      let a = locals_in range in
      let b = locals_in init in
      let u = n + 1 + locals_in condition in
      let v = n + 1 + locals_in step in
      let w = 1 + locals_in result in
      let l1 = right a (max b (max u (max v w))) 255 d le in
      let l2 = right b (max u (max v w)) 255 d l1 in
      let l3 = right u (max v w) 255 d l2 in
      let of_condition = left u (max v w) 255 d l2 in
      let of_step = left v w 255 d l3 in
      let of_result = right v w 255 d l3 in (
        omega (arith, many, of_condition),
        few m ks range r d g.6 (left a (max b (max u (max v w))) 255 d le),
        few m ks init i d g.7 (left b (max u (max v w)) 255 d l1),
        few m _ condition c (d + 1 + variable_count vars) g.8 (omega (arith, many, of_condition)),
        few m _ step s (d + 1 + variable_count vars) g.9 (omega (arith, many, of_step)),
        few m _ result e (d + 1) g.10 (omega (arith, of_result)),
      )
  few m ks (comprehension id x y acc range init condition step result) _ d g le = absurd g

  few_target : (m : Maps) (ks : Kinds) (on : CelTarget) (args : CelTrees) (es : TypedTrees) (d : ℕ)
      → ((fs : TypedTrees) → ElaboratesEach m ks args fs → HaveFewLocals d fs)
      → ElaboratesTarget m ks on (ElaboratesEach m ks args) es → d + locals_in_target on ≤ 255 → HaveFewLocals d es
  few_target m ks no_target args es d others g le = others es g
  few_target m ks (target on) args no_typed d others g le = absurd g
  few_target m ks (target on) args (typed e es) d others g le = (few m ks on e d g.0 le, others es g.1)

  few_each : (m : Maps) (ks : Kinds) (ts : CelTrees) (es : TypedTrees) (d : ℕ) → ElaboratesEach m ks ts es → d + locals_in_each ts ≤ 255
      → HaveFewLocals d es
  few_each m ks no_trees no_typed d g le = tt
  few_each m ks no_trees (typed e es) d g le = absurd g
  few_each m ks (tree t ts) no_typed d g le = absurd g
  few_each m ks (tree t ts) (typed e es) d g le = (
    few m ks t e d g.0 (left (locals_in t) (locals_in_each ts) 255 d le),
    few_each m ks ts es d g.1 (right (locals_in t) (locals_in_each ts) 255 d le),
  )

  few_pairs : (m : Maps) (ks : Kinds) (ts : CelTreeEntries) (es : TypedTrees) (d : ℕ) → ElaboratesPairs m ks ts es
      → d + locals_in_entries ts ≤ 255 → HaveFewLocals d es
  few_pairs m ks no_tree_entries no_typed d g le = tt
  few_pairs m ks no_tree_entries (typed e es) d g le = absurd g
  few_pairs m ks (tree_entry id key value ts) no_typed d g le = absurd g
  few_pairs m ks (tree_entry id key value ts) (typed e no_typed) d g le = absurd g
  few_pairs m ks (tree_entry id key value ts) (typed e (typed f es)) d g le =
      let a = locals_in key in
      let b = locals_in value in
      let c = locals_in_entries ts in
      let rest = right a (max b c) 255 d le in (
        few m ks key e d g.0 (left a (max b c) 255 d le),
        (few m ks value f d g.1 (left b c 255 d rest), few_pairs m ks ts es d g.2 (right b c 255 d rest)),
      )

-- ---- expressions that were read

pub short_code : (c : CelChecked) (e : TypedTree) (p d : ℕ) → IsElaborated c e → length (code_of p d e) < 2 * node_count c.tree
short_code c e p d is =
    let long = extent_is e p d in
    let bound = extent_bound (maps_of c) [] c.tree e is.elaborates in
    omega (arith, long, bound)

few_nodes : (parts : ExprParts) (c : CelChecked) → IsExprOf parts c → node_count c.tree ≤ most_nodes
few_nodes (checked_parts parts) c (fs, message, says) = says.few
few_nodes (unchecked_parts parts) c read = read.few

pub fitting_code : (parts : ExprParts) (c : CelChecked) (e : TypedTree) → IsExprOf parts c → IsElaborated c e
    → (length (code_of 0 0 e) ≤ 65535) × HasFewLocals 0 e
fitting_code parts c e read is =
    let short = short_code c e 0 0 is in
    let nodes = few_nodes parts c read in
    let locals = (typed_agreeing c (kind e) is.typed).few in
    (omega (arith, short, nodes), few (maps_of c) [] c.tree e 0 is.elaborates (omega (arith, locals)))

-- the number of instructions is the extent
pub refused_length : (e : TypedTree) (r : Refusal) → MemoryOr (λ f. (f ≡ TooLarge) × ((65535 < extent e) ⊎ (HasFewLocals 0 e → ⊥))) r
    → MemoryOr (λ f. (f ≡ TooLarge) × ((65535 < length (code_of 0 0 e)) ⊎ (HasFewLocals 0 e → ⊥))) r
refused_length e r (inl memory) = inl memory
refused_length e r (inr (large, inl long)) = let same = extent_is e 0 0 in inr (large, inl (omega (arith, long, same)))
refused_length e r (inr (large, inr many)) = inr (large, inr many)

-- so `compile` refuses it only when memory runs out
pub room_alone : (parts : ExprParts) (c : CelChecked) (e : TypedTree) → IsExprOf parts c → IsElaborated c e
    → (r : Refusal) → MemoryOr (λ f. (f ≡ TooLarge) × ((65535 < extent e) ⊎ (HasFewLocals 0 e → ⊥))) r → r ≡ Memory
room_alone parts c e read is r (inl memory) = memory
room_alone parts c e read is r (inr (large, inl long)) =
    let same = extent_is e 0 0 in
    let fits = (fitting_code parts c e read is).0 in
    absurd (omega (arith, long, same, fits))
room_alone parts c e read is r (inr (large, inr many)) = absurd (many (fitting_code parts c e read is).1)
