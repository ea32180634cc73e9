use Rattle.std.proofs.Common.{◌≡◌, ◌+◌, ◌∷◌, ◌++◌, [], List, rules, get_or, refl, ap, subst, arith}
use Rattle.std.proofs.lemmas.Grind.{common_steps}
use Rattle.std.proofs.lemmas.Result.{MatchResult-weaker}
use Rattle.cel_tree.specs.View.{constant_view}
use Rattle.cel_value.specs.Texts.{text_view}
use Rattle.cel_value.specs.Types.{type_view}
use Rattle.cel_overload.specs.declared.overload.Overload.TheVariants as overloads
use Rattle.cel_types.specs.Elaborated.{no_typed, typed, typed_attribute, typed_call, typed_constant, typed_field, typed_has, typed_list, typed_local, typed_map}
use Rattle.cel_types.specs.Names.{variable_count}
use Rattle.cel_types.specs.View.{expr_view, loop_of}
use Rattle.cel_types.specs.private.ExprViews.{exprs_view, parts_view}
use Rattle.cel_types.specs.declared.typed.TypedExpr as exprs
use Rattle.machine_code.specs.declared.instr.Instr.TheVariants as instrs
use Rattle.cel_compile.specs.declared.lengths.Lengths.{Lengths}
use Rattle.cel_compile.specs.private.Extents.{extent}
use Rattle.cel_compile.specs.private.Emitting.{Grows, GrowsAll, HasRoom}
use Rattle.cel_compile.specs.private.Lengths.{lengths_are, lengths_of}
use Rattle.cel_compile.proofs.Built.{choice_built, choice_first, choice_jump, choice_room, choice_second, choice_test, choice_third, junction_built, junction_first, junction_last, junction_put, junction_room, junction_second, loop_room, next, one, takes_of, then}
use Rattle.cel_compile.proofs.BuiltLoops.{back_room, condition_room, init_room, loop_built, range_room, result_room, step_room}
use Rattle.cel_compile.proofs.Operands.{all_emitted, begins_on, few_elements, goes_on, list_room, map_room, next_room, plain_grows, plain_put, plain_room, three_operands, two_operands}
use Rattle.cel_compile.proofs.compiler.+emit.Goals as goal

pub emit-emit_call-requires : goal.emit-emit_call-requires
emit-emit_call-requires t c =
    let seen : expr_view c.args.expr.now ≡ typed_call (type_view c.in-Call.cel_type) c.in-Call.overload (exprs_view c.in-Call.operands.items) = rw (c.in-Call.is) (search (rules, exprs.the_lemmas)) in
    let room : HasRoom c.args.code.now c.args.lengths.now.items c.args.depth (typed_call (type_view c.in-Call.cel_type) c.in-Call.overload (exprs_view c.in-Call.operands.items)) = subst (λ e. HasRoom c.args.code.now c.args.lengths.now.items c.args.depth e) seen c.requires.room in
    (first_of (search (rules, exprs.the_lemmas), grind (arith, exprs.the_lemmas), grind (arith, common_steps)), (type_view c.in-Call.cel_type, rw (c.deref-in-Call.ensures.value) room))

pub emit-list_instr-requires : goal.emit-list_instr-requires
emit-list_instr-requires t c =
    let seen : expr_view c.args.expr.now ≡ typed_list (type_view c.in-List.cel_type) (exprs_view c.in-List.elements.items) = rw (c.in-List.is) (search (rules, exprs.the_lemmas)) in
    let room : HasRoom c.args.code.now c.args.lengths.now.items c.args.depth (typed_list (type_view c.in-List.cel_type) (exprs_view c.in-List.elements.items)) = subst (λ e. HasRoom c.args.code.now c.args.lengths.now.items c.args.depth e) seen c.requires.room in
    rw (c.deref-in-List-2.ensures.value) (few_elements c.in-List.elements.items (list_room c.args.depth (type_view c.in-List.cel_type) (exprs_view c.in-List.elements.items) c.args.code.now c.args.lengths.now.items room))

pub emit-map_instr-requires : goal.emit-map_instr-requires
emit-map_instr-requires t c =
    let seen : expr_view c.args.expr.now ≡ typed_map (type_view c.in-Map.cel_type) (exprs_view c.in-Map.pairs.items) = rw (c.in-Map.is) (search (rules, exprs.the_lemmas)) in
    let room : HasRoom c.args.code.now c.args.lengths.now.items c.args.depth (typed_map (type_view c.in-Map.cel_type) (exprs_view c.in-Map.pairs.items)) = subst (λ e. HasRoom c.args.code.now c.args.lengths.now.items c.args.depth e) seen c.requires.room in
    rw (c.deref-in-Map-2.ensures.value) (few_elements c.in-Map.pairs.items (map_room c.args.depth (type_view c.in-Map.cel_type) (exprs_view c.in-Map.pairs.items) c.args.code.now c.args.lengths.now.items room))

pub emit-emit_loop-requires : goal.emit-emit_loop-requires
emit-emit_loop-requires t c =
    let seen : expr_view c.args.expr.now ≡ loop_of (type_view c.in-Loop.cel_type) (parts_view c.in-Loop.parts.value) = rw (c.in-Loop.is) (search (rules, exprs.the_lemmas)) in
    let room : HasRoom c.args.code.now c.args.lengths.now.items c.args.depth (loop_of (type_view c.in-Loop.cel_type) (parts_view c.in-Loop.parts.value)) = subst (λ e. HasRoom c.args.code.now c.args.lengths.now.items c.args.depth e) seen c.requires.room in
    (first_of (search (rules, exprs.the_lemmas), grind (arith, exprs.the_lemmas), grind (arith, common_steps)), (type_view c.in-Loop.cel_type, rw (c.deref-in-Loop.ensures) room))

pub emit-returns-in_ok-constant_instr-in-Constant : goal.emit-returns-in_ok-constant_instr-in-Constant
emit-returns-in_ok-constant_instr-in-Constant t c =
    let seen : expr_view c.args.expr.now ≡ typed_constant (type_view c.in-Constant.cel_type) (constant_view c.in-Constant.value.now) = rw (c.in-Constant.is) (search (rules, exprs.the_lemmas)) in
    record { grows = MatchResult-weaker c.put.result c.put.ensures.found (λ u put. rw seen (one c.in_ok-constant_instr-in-Constant.field-0 _ put c.in_ok-constant_instr-in-Constant.ensures)) (λ e h. h) }

pub emit-returns-in-Local : goal.emit-returns-in-Local
emit-returns-in-Local t c =
    let seen : expr_view c.args.expr.now ≡ typed_local (type_view c.in-Local.cel_type) c.in-Local.outside = rw (c.in-Local.is) (search (rules, exprs.the_lemmas)) in
    record { grows = MatchResult-weaker c.put-in-Local.result c.put-in-Local.ensures.found (λ u put. rw seen (one (instrs.Load c.in-Local.outside) _ put refl)) (λ e h. h) }

pub emit-returns-in-Attribute : goal.emit-returns-in-Attribute
emit-returns-in-Attribute t c =
    let seen : expr_view c.args.expr.now ≡ typed_attribute (type_view c.in-Attribute.cel_type) c.in-Attribute.id = rw (c.in-Attribute.is) (search (rules, exprs.the_lemmas)) in
    record { grows = MatchResult-weaker c.put-in-Attribute.result c.put-in-Attribute.ensures.found (λ u put. rw seen (one (instrs.Attr c.in-Attribute.id) _ put refl)) (λ e h. h) }

pub emit-returns-in_ok-field_instr-in-Field : goal.emit-returns-in_ok-field_instr-in-Field
emit-returns-in_ok-field_instr-in-Field t c =
    let seen : expr_view c.args.expr.now ≡ typed_field (type_view c.in-Field.cel_type) (expr_view c.in-Field.map.value) (text_view c.in-Field.name.now) = rw (c.in-Field.is) (search (rules, exprs.the_lemmas)) in
    let inner : Grows c.args.code.now c.emit.new.code c.args.lengths.now.items c.emit.new.lengths.items c.args.depth (expr_view c.in-Field.map.value) = rw (← c.deref.ensures) (c.in_ok-emit-in-Field.ensures.grows) in
    record { grows = MatchResult-weaker c.put-in-Field.result c.put-in-Field.ensures.found (λ u put. rw seen (then inner (one c.in_ok-field_instr-in-Field.field-0 _ put c.in_ok-field_instr-in-Field.ensures))) (λ e h. h) }

pub emit-returns-in_ok-has_field_instr-in-HasField : goal.emit-returns-in_ok-has_field_instr-in-HasField
emit-returns-in_ok-has_field_instr-in-HasField t c =
    let seen : expr_view c.args.expr.now ≡ typed_has (type_view c.in-HasField.cel_type) (expr_view c.in-HasField.map.value) (text_view c.in-HasField.name.now) = rw (c.in-HasField.is) (search (rules, exprs.the_lemmas)) in
    let inner : Grows c.args.code.now c.emit-in-HasField.new.code c.args.lengths.now.items c.emit-in-HasField.new.lengths.items c.args.depth (expr_view c.in-HasField.map.value) = rw (← c.deref-in-HasField.ensures) (c.in_ok-emit-in-HasField.ensures.grows) in
    record { grows = MatchResult-weaker c.put-in-HasField.result c.put-in-HasField.ensures.found (λ u put. rw seen (then inner (one c.in_ok-has_field_instr-in-HasField.field-0 _ put c.in_ok-has_field_instr-in-HasField.ensures))) (λ e h. h) }

pub emit-returns-in_ok-instr-in-List : goal.emit-returns-in_ok-instr-in-List
emit-returns-in_ok-instr-in-List t c =
    let seen : expr_view c.args.expr.now ≡ typed_list (type_view c.in-List.cel_type) (exprs_view c.in-List.elements.items) = rw (c.in-List.is) (search (rules, exprs.the_lemmas)) in
    let all : GrowsAll c.args.code.now c.emit_all.new.code c.args.lengths.now.items c.emit_all.new.lengths.items c.args.depth (exprs_view c.in-List.elements.items) = rw (← c.deref-in-List.ensures.value) (c.in_ok-emit_all-in-List.ensures.grows) in
    record { grows = MatchResult-weaker c.put-in-List.result c.put-in-List.ensures.found (λ u put. rw seen (then all (one c.in_ok-instr-in-List.instr _ put (rw (← c.deref-in-List-2.ensures.value) (c.in_ok-instr-in-List.ensures))))) (λ e h. h) }

pub emit-returns-in_ok-instr-in-Map : goal.emit-returns-in_ok-instr-in-Map
emit-returns-in_ok-instr-in-Map t c =
    let seen : expr_view c.args.expr.now ≡ typed_map (type_view c.in-Map.cel_type) (exprs_view c.in-Map.pairs.items) = rw (c.in-Map.is) (search (rules, exprs.the_lemmas)) in
    let all : GrowsAll c.args.code.now c.emit_all-in-Map.new.code c.args.lengths.now.items c.emit_all-in-Map.new.lengths.items c.args.depth (exprs_view c.in-Map.pairs.items) = rw (← c.deref-in-Map.ensures.value) (c.in_ok-emit_all-in-Map.ensures.grows) in
    record { grows = MatchResult-weaker c.put-in-Map.result c.put-in-Map.ensures.found (λ u put. rw seen (then all (one c.in_ok-instr-in-Map.instr _ put (rw (← c.deref-in-Map-2.ensures.value) (c.in_ok-instr-in-Map.ensures))))) (λ e h. h) }

pub emit-returns-in-Loop : goal.emit-returns-in-Loop
emit-returns-in-Loop t c =
    let seen : expr_view c.args.expr.now ≡ loop_of (type_view c.in-Loop.cel_type) (parts_view c.in-Loop.parts.value) = rw (c.in-Loop.is) (search (rules, exprs.the_lemmas)) in
    record {
      grows = MatchResult-weaker c.emit_loop.result c.emit_loop.ensures.grows (λ u grows.
          let inner : Grows c.args.code.now c.emit_loop.new.code c.args.lengths.now.items c.emit_loop.new.lengths.items c.args.depth (loop_of (type_view c.in-Loop.cel_type) (parts_view c.in-Loop.parts.value)) =
          rw (← c.deref-in-Loop.ensures) (grows (type_view c.in-Loop.cel_type)) in
          rw seen inner) (λ e h. h);
    }

pub emit_all-loop-expr-init : goal.emit_all-loop-expr-init
emit_all-loop-expr-init t c =
    begins_on c.args.depth c.args.exprs.now c.args.code.now c.args.lengths.now.items c.requires.room

pub emit_all-emit-requires : goal.emit_all-emit-requires
emit_all-emit-requires t c =
    let room : HasRoom c.loop-expr.code c.loop-expr.lengths.items c.args.depth (expr_view (get_or c.args.exprs.now c.loop-expr.expr-index c.expr-item.result)) = next_room c.args.depth c.args.exprs.now c.loop-expr.expr-index c.expr-item.result c.args.code.now c.loop-expr.code c.args.lengths.now.items c.loop-expr.lengths.items c.loop-expr-test.true c.loop-expr.invariant in
    (first_of (search (rules, exprs.the_lemmas), grind (arith, exprs.the_lemmas), grind (arith, common_steps)), rw (c.expr-item.is) room)

pub emit_all-loop-expr-preserved : goal.emit_all-loop-expr-preserved
emit_all-loop-expr-preserved t c =
    let here : Grows c.loop-expr.code c.emit.new.code c.loop-expr.lengths.items c.emit.new.lengths.items c.args.depth (expr_view (get_or c.args.exprs.now c.loop-expr.expr-index c.expr-item.result)) =
    rw (← c.expr-item.is) (c.in_ok-emit.ensures.grows) in
    goes_on c.args.depth c.args.exprs.now c.loop-expr.expr-index c.expr-item.result c.args.code.now c.loop-expr.code c.args.lengths.now.items c.loop-expr.lengths.items c.loop-expr-test.true c.loop-expr.invariant c.emit.new.code c.emit.new.lengths.items here

pub emit_all-returns : goal.emit_all-returns
emit_all-returns t c =
    record { grows = all_emitted c.args.depth c.args.exprs.now c.loop-expr.expr-index c.args.code.now c.loop-expr.code c.args.lengths.now.items c.loop-expr.lengths.items (omega (arith, c.loop-expr-test.false)) c.loop-expr.invariant }

pub emit_call-emit_all-requires : goal.emit_call-emit_all-requires
emit_call-emit_all-requires t c =
    (first_of (search (rules, exprs.the_lemmas), grind (arith, exprs.the_lemmas), grind (arith, common_steps)), (plain_room c.is_junction.result c.is_choice.result c.args.depth c.requires.room.0 c.args.code.now c.args.lengths.now.items c.args.overload c.args.operands.now c.is_junction.ensures c.if-is_junction.false c.is_choice.ensures c.if-is_choice.false c.requires.room.1).operands)

pub emit_call-put_call-requires : goal.emit_call-put_call-requires
emit_call-put_call-requires t c =
    plain_put (plain_room c.is_junction.result c.is_choice.result c.args.depth c.requires.room.0 c.args.code.now c.args.lengths.now.items c.args.overload c.args.operands.now c.is_junction.ensures c.if-is_junction.false c.is_choice.ensures c.if-is_choice.false c.requires.room.1) c.in_ok-emit_all.ensures.grows

pub emit_call-returns : goal.emit_call-returns
emit_call-returns t c =
    record { grows = λ kind. plain_grows c.is_junction.result c.is_choice.result c.args.depth kind c.args.code.now c.args.lengths.now.items c.args.overload c.args.operands.now c.emit_all.new.code c.put_call.new.code c.emit_all.new.lengths.items c.is_junction.ensures c.if-is_junction.false c.is_choice.ensures c.if-is_choice.false c.in_ok-emit_all.ensures.grows c.in_ok-put_call.ensures.found }

pub emit_junction-take_targets-targets-requires : goal.emit_junction-take_targets-targets-requires
emit_junction-take_targets-targets-requires t c =
    let ops : exprs_view c.args.operands.now ≡ typed (expr_view c.index-operands-0.result) (typed (expr_view c.index-operands-1.result) no_typed) =
    two_operands c.args.operands.now c.index-operands-0.result c.index-operands-1.result _ _ (omega (arith, c.requires.two)) (omega (arith, c.requires.two)) c.index-operands-0.is c.index-operands-1.is in
    let room = junction_room c.args.depth (expr_view c.index-operands-0.result) (expr_view c.index-operands-1.result) c.requires.room.0 c.args.overload c.args.code.now c.args.lengths.now.items c.requires.junction (subst (λ l. HasRoom c.args.code.now c.args.lengths.now.items c.args.depth (typed_call c.requires.room.0 c.args.overload l)) ops c.requires.room.1) in
    let fits = room.fits in
    let begin = c.len.ensures.same in
    takes_of c.args.lengths.now.items (lengths_of (expr_view c.index-operands-1.result) ++ lengths_of (expr_view c.index-operands-0.result)) c.len.result (extent (expr_view c.index-operands-0.result) + 1 + extent (expr_view c.index-operands-1.result) + 1) (extent (expr_view c.index-operands-1.result)) room.ends (omega arith) (omega (arith, fits, begin))

pub emit_junction-emit-requires : goal.emit_junction-emit-requires
emit_junction-emit-requires t c =
    let ops : exprs_view c.args.operands.now ≡ typed (expr_view c.index-operands-0.result) (typed (expr_view c.index-operands-1.result) no_typed) =
    two_operands c.args.operands.now c.index-operands-0.result c.index-operands-1.result _ _ (omega (arith, c.requires.two)) (omega (arith, c.requires.two)) c.index-operands-0.is c.index-operands-1.is in
    let room = junction_room c.args.depth (expr_view c.index-operands-0.result) (expr_view c.index-operands-1.result) c.requires.room.0 c.args.overload c.args.code.now c.args.lengths.now.items c.requires.junction (subst (λ l. HasRoom c.args.code.now c.args.lengths.now.items c.args.depth (typed_call c.requires.room.0 c.args.overload l)) ops c.requires.room.1) in
    let take : (rest : List Lengths) → c.args.lengths.now.items ≡ rest ++ lengths_are (extent (expr_view c.index-operands-0.result) + 1 + extent (expr_view c.index-operands-1.result) + 1) (extent (expr_view c.index-operands-1.result)) ∷ [] → c.take_targets-targets.new.lengths.items ≡ rest = λ rest e. (c.take_targets-targets.ensures rest (extent (expr_view c.index-operands-0.result) + 1 + extent (expr_view c.index-operands-1.result) + 1) (extent (expr_view c.index-operands-1.result)) e).0 in
    (first_of (search (rules, exprs.the_lemmas), grind (arith, exprs.the_lemmas), grind (arith, common_steps)), junction_first room take)

pub emit_junction-put-requires : goal.emit_junction-put-requires
emit_junction-put-requires t c =
    let ops : exprs_view c.args.operands.now ≡ typed (expr_view c.index-operands-0.result) (typed (expr_view c.index-operands-1.result) no_typed) =
    two_operands c.args.operands.now c.index-operands-0.result c.index-operands-1.result _ _ (omega (arith, c.requires.two)) (omega (arith, c.requires.two)) c.index-operands-0.is c.index-operands-1.is in
    let room = junction_room c.args.depth (expr_view c.index-operands-0.result) (expr_view c.index-operands-1.result) c.requires.room.0 c.args.overload c.args.code.now c.args.lengths.now.items c.requires.junction (subst (λ l. HasRoom c.args.code.now c.args.lengths.now.items c.args.depth (typed_call c.requires.room.0 c.args.overload l)) ops c.requires.room.1) in
    let take : (rest : List Lengths) → c.args.lengths.now.items ≡ rest ++ lengths_are (extent (expr_view c.index-operands-0.result) + 1 + extent (expr_view c.index-operands-1.result) + 1) (extent (expr_view c.index-operands-1.result)) ∷ [] → c.take_targets-targets.new.lengths.items ≡ rest = λ rest e. (c.take_targets-targets.ensures rest (extent (expr_view c.index-operands-0.result) + 1 + extent (expr_view c.index-operands-1.result) + 1) (extent (expr_view c.index-operands-1.result)) e).0 in
    junction_put room take c.in_ok-emit.ensures.grows

pub emit_junction-emit-requires-2 : goal.emit_junction-emit-requires-2
emit_junction-emit-requires-2 t c =
    let ops : exprs_view c.args.operands.now ≡ typed (expr_view c.index-operands-0.result) (typed (expr_view c.index-operands-1.result) no_typed) =
    two_operands c.args.operands.now c.index-operands-0.result c.index-operands-1.result _ _ (omega (arith, c.requires.two)) (omega (arith, c.requires.two)) c.index-operands-0.is c.index-operands-1.is in
    let room = junction_room c.args.depth (expr_view c.index-operands-0.result) (expr_view c.index-operands-1.result) c.requires.room.0 c.args.overload c.args.code.now c.args.lengths.now.items c.requires.junction (subst (λ l. HasRoom c.args.code.now c.args.lengths.now.items c.args.depth (typed_call c.requires.room.0 c.args.overload l)) ops c.requires.room.1) in
    let take : (rest : List Lengths) → c.args.lengths.now.items ≡ rest ++ lengths_are (extent (expr_view c.index-operands-0.result) + 1 + extent (expr_view c.index-operands-1.result) + 1) (extent (expr_view c.index-operands-1.result)) ∷ [] → c.take_targets-targets.new.lengths.items ≡ rest = λ rest e. (c.take_targets-targets.ensures rest (extent (expr_view c.index-operands-0.result) + 1 + extent (expr_view c.index-operands-1.result) + 1) (extent (expr_view c.index-operands-1.result)) e).0 in
    (first_of (search (rules, exprs.the_lemmas), grind (arith, exprs.the_lemmas), grind (arith, common_steps)), junction_second room take c.in_ok-emit.ensures.grows c.put.new.code c.passing_over.result c.in_ok-put.ensures.found)

pub emit_junction-put_call-requires : goal.emit_junction-put_call-requires
emit_junction-put_call-requires t c =
    let ops : exprs_view c.args.operands.now ≡ typed (expr_view c.index-operands-0.result) (typed (expr_view c.index-operands-1.result) no_typed) =
    two_operands c.args.operands.now c.index-operands-0.result c.index-operands-1.result _ _ (omega (arith, c.requires.two)) (omega (arith, c.requires.two)) c.index-operands-0.is c.index-operands-1.is in
    let room = junction_room c.args.depth (expr_view c.index-operands-0.result) (expr_view c.index-operands-1.result) c.requires.room.0 c.args.overload c.args.code.now c.args.lengths.now.items c.requires.junction (subst (λ l. HasRoom c.args.code.now c.args.lengths.now.items c.args.depth (typed_call c.requires.room.0 c.args.overload l)) ops c.requires.room.1) in
    let take : (rest : List Lengths) → c.args.lengths.now.items ≡ rest ++ lengths_are (extent (expr_view c.index-operands-0.result) + 1 + extent (expr_view c.index-operands-1.result) + 1) (extent (expr_view c.index-operands-1.result)) ∷ [] → c.take_targets-targets.new.lengths.items ≡ rest = λ rest e. (c.take_targets-targets.ensures rest (extent (expr_view c.index-operands-0.result) + 1 + extent (expr_view c.index-operands-1.result) + 1) (extent (expr_view c.index-operands-1.result)) e).0 in
    junction_last room take c.in_ok-emit.ensures.grows c.put.new.code c.passing_over.result c.in_ok-put.ensures.found c.in_ok-emit-2.ensures.grows

pub emit_junction-returns : goal.emit_junction-returns
emit_junction-returns t c =
    let ops : exprs_view c.args.operands.now ≡ typed (expr_view c.index-operands-0.result) (typed (expr_view c.index-operands-1.result) no_typed) =
    two_operands c.args.operands.now c.index-operands-0.result c.index-operands-1.result _ _ (omega (arith, c.requires.two)) (omega (arith, c.requires.two)) c.index-operands-0.is c.index-operands-1.is in
    let room = junction_room c.args.depth (expr_view c.index-operands-0.result) (expr_view c.index-operands-1.result) c.requires.room.0 c.args.overload c.args.code.now c.args.lengths.now.items c.requires.junction (subst (λ l. HasRoom c.args.code.now c.args.lengths.now.items c.args.depth (typed_call c.requires.room.0 c.args.overload l)) ops c.requires.room.1) in
    let take : (rest : List Lengths) → c.args.lengths.now.items ≡ rest ++ lengths_are (extent (expr_view c.index-operands-0.result) + 1 + extent (expr_view c.index-operands-1.result) + 1) (extent (expr_view c.index-operands-1.result)) ∷ [] → c.take_targets-targets.new.lengths.items ≡ rest = λ rest e. (c.take_targets-targets.ensures rest (extent (expr_view c.index-operands-0.result) + 1 + extent (expr_view c.index-operands-1.result) + 1) (extent (expr_view c.index-operands-1.result)) e).0 in
    let last = next c.args.lengths.now.items (lengths_of (expr_view c.index-operands-1.result) ++ lengths_of (expr_view c.index-operands-0.result)) (lengths_are (extent (expr_view c.index-operands-0.result) + 1 + extent (expr_view c.index-operands-1.result) + 1) (extent (expr_view c.index-operands-1.result)) ∷ []) room.ends in
    let said = c.take_targets-targets.ensures last.0 (extent (expr_view c.index-operands-0.result) + 1 + extent (expr_view c.index-operands-1.result) + 1) (extent (expr_view c.index-operands-1.result)) last.1 in
    let begin = c.len.ensures.same in
    let end_is = said.1 in
    let last_is = said.2 in
    record {
      grows = λ kind. rw ops (junction_built room take c.in_ok-emit.ensures.grows c.put.new.code c.passing_over.result c.in_ok-put.ensures.found c.in_ok-emit-2.ensures.grows c.take_targets-targets.result.end kind c.args.overload c.requires.junction
          (omega (arith, end_is, begin)) c.passing_over.ensures c.in_ok-put_call.ensures.found);
    }

pub emit_choice-take_targets-targets-requires : goal.emit_choice-take_targets-targets-requires
emit_choice-take_targets-targets-requires t c =
    let ops : exprs_view c.args.operands.now ≡ typed (expr_view c.index-operands-0.result) (typed (expr_view c.index-operands-1.result) (typed (expr_view c.index-operands-2.result) no_typed)) =
    three_operands c.args.operands.now c.index-operands-0.result c.index-operands-1.result c.index-operands-2.result _ _ _ (omega (arith, c.requires.three)) (omega (arith, c.requires.three)) c.index-operands-0.is c.index-operands-1.is c.index-operands-2.is in
    let room = choice_room c.args.depth (expr_view c.index-operands-0.result) (expr_view c.index-operands-1.result) (expr_view c.index-operands-2.result) c.requires.room.0 c.args.code.now c.args.lengths.now.items (subst (λ l. HasRoom c.args.code.now c.args.lengths.now.items c.args.depth (typed_call c.requires.room.0 overloads.Conditional l)) ops c.requires.room.1) in
    let fits = room.fits in
    let begin = c.len.ensures.same in
    takes_of c.args.lengths.now.items ((lengths_of (expr_view c.index-operands-2.result) ++ lengths_of (expr_view c.index-operands-1.result)) ++ lengths_of (expr_view c.index-operands-0.result)) c.len.result (extent (expr_view c.index-operands-0.result) + 1 + extent (expr_view c.index-operands-1.result) + 1 + extent (expr_view c.index-operands-2.result)) (extent (expr_view c.index-operands-2.result)) room.ends (omega arith) (omega (arith, fits, begin))

pub emit_choice-emit-requires : goal.emit_choice-emit-requires
emit_choice-emit-requires t c =
    let ops : exprs_view c.args.operands.now ≡ typed (expr_view c.index-operands-0.result) (typed (expr_view c.index-operands-1.result) (typed (expr_view c.index-operands-2.result) no_typed)) =
    three_operands c.args.operands.now c.index-operands-0.result c.index-operands-1.result c.index-operands-2.result _ _ _ (omega (arith, c.requires.three)) (omega (arith, c.requires.three)) c.index-operands-0.is c.index-operands-1.is c.index-operands-2.is in
    let room = choice_room c.args.depth (expr_view c.index-operands-0.result) (expr_view c.index-operands-1.result) (expr_view c.index-operands-2.result) c.requires.room.0 c.args.code.now c.args.lengths.now.items (subst (λ l. HasRoom c.args.code.now c.args.lengths.now.items c.args.depth (typed_call c.requires.room.0 overloads.Conditional l)) ops c.requires.room.1) in
    let take : (rest : List Lengths) → c.args.lengths.now.items ≡ rest ++ lengths_are (extent (expr_view c.index-operands-0.result) + 1 + extent (expr_view c.index-operands-1.result) + 1 + extent (expr_view c.index-operands-2.result)) (extent (expr_view c.index-operands-2.result)) ∷ [] → c.take_targets-targets.new.lengths.items ≡ rest = λ rest e. (c.take_targets-targets.ensures rest (extent (expr_view c.index-operands-0.result) + 1 + extent (expr_view c.index-operands-1.result) + 1 + extent (expr_view c.index-operands-2.result)) (extent (expr_view c.index-operands-2.result)) e).0 in
    (first_of (search (rules, exprs.the_lemmas), grind (arith, exprs.the_lemmas), grind (arith, common_steps)), choice_first room take)

pub emit_choice-put-requires : goal.emit_choice-put-requires
emit_choice-put-requires t c =
    let ops : exprs_view c.args.operands.now ≡ typed (expr_view c.index-operands-0.result) (typed (expr_view c.index-operands-1.result) (typed (expr_view c.index-operands-2.result) no_typed)) =
    three_operands c.args.operands.now c.index-operands-0.result c.index-operands-1.result c.index-operands-2.result _ _ _ (omega (arith, c.requires.three)) (omega (arith, c.requires.three)) c.index-operands-0.is c.index-operands-1.is c.index-operands-2.is in
    let room = choice_room c.args.depth (expr_view c.index-operands-0.result) (expr_view c.index-operands-1.result) (expr_view c.index-operands-2.result) c.requires.room.0 c.args.code.now c.args.lengths.now.items (subst (λ l. HasRoom c.args.code.now c.args.lengths.now.items c.args.depth (typed_call c.requires.room.0 overloads.Conditional l)) ops c.requires.room.1) in
    let take : (rest : List Lengths) → c.args.lengths.now.items ≡ rest ++ lengths_are (extent (expr_view c.index-operands-0.result) + 1 + extent (expr_view c.index-operands-1.result) + 1 + extent (expr_view c.index-operands-2.result)) (extent (expr_view c.index-operands-2.result)) ∷ [] → c.take_targets-targets.new.lengths.items ≡ rest = λ rest e. (c.take_targets-targets.ensures rest (extent (expr_view c.index-operands-0.result) + 1 + extent (expr_view c.index-operands-1.result) + 1 + extent (expr_view c.index-operands-2.result)) (extent (expr_view c.index-operands-2.result)) e).0 in
    choice_test room take c.in_ok-emit.ensures.grows

pub emit_choice-emit-requires-2 : goal.emit_choice-emit-requires-2
emit_choice-emit-requires-2 t c =
    let ops : exprs_view c.args.operands.now ≡ typed (expr_view c.index-operands-0.result) (typed (expr_view c.index-operands-1.result) (typed (expr_view c.index-operands-2.result) no_typed)) =
    three_operands c.args.operands.now c.index-operands-0.result c.index-operands-1.result c.index-operands-2.result _ _ _ (omega (arith, c.requires.three)) (omega (arith, c.requires.three)) c.index-operands-0.is c.index-operands-1.is c.index-operands-2.is in
    let room = choice_room c.args.depth (expr_view c.index-operands-0.result) (expr_view c.index-operands-1.result) (expr_view c.index-operands-2.result) c.requires.room.0 c.args.code.now c.args.lengths.now.items (subst (λ l. HasRoom c.args.code.now c.args.lengths.now.items c.args.depth (typed_call c.requires.room.0 overloads.Conditional l)) ops c.requires.room.1) in
    let take : (rest : List Lengths) → c.args.lengths.now.items ≡ rest ++ lengths_are (extent (expr_view c.index-operands-0.result) + 1 + extent (expr_view c.index-operands-1.result) + 1 + extent (expr_view c.index-operands-2.result)) (extent (expr_view c.index-operands-2.result)) ∷ [] → c.take_targets-targets.new.lengths.items ≡ rest = λ rest e. (c.take_targets-targets.ensures rest (extent (expr_view c.index-operands-0.result) + 1 + extent (expr_view c.index-operands-1.result) + 1 + extent (expr_view c.index-operands-2.result)) (extent (expr_view c.index-operands-2.result)) e).0 in
    (first_of (search (rules, exprs.the_lemmas), grind (arith, exprs.the_lemmas), grind (arith, common_steps)), choice_second room take c.in_ok-emit.ensures.grows c.put.new.code (instrs.Test c.take_targets-targets.result.last c.take_targets-targets.result.end) c.in_ok-put.ensures.found)

pub emit_choice-put-requires-2 : goal.emit_choice-put-requires-2
emit_choice-put-requires-2 t c =
    let ops : exprs_view c.args.operands.now ≡ typed (expr_view c.index-operands-0.result) (typed (expr_view c.index-operands-1.result) (typed (expr_view c.index-operands-2.result) no_typed)) =
    three_operands c.args.operands.now c.index-operands-0.result c.index-operands-1.result c.index-operands-2.result _ _ _ (omega (arith, c.requires.three)) (omega (arith, c.requires.three)) c.index-operands-0.is c.index-operands-1.is c.index-operands-2.is in
    let room = choice_room c.args.depth (expr_view c.index-operands-0.result) (expr_view c.index-operands-1.result) (expr_view c.index-operands-2.result) c.requires.room.0 c.args.code.now c.args.lengths.now.items (subst (λ l. HasRoom c.args.code.now c.args.lengths.now.items c.args.depth (typed_call c.requires.room.0 overloads.Conditional l)) ops c.requires.room.1) in
    let take : (rest : List Lengths) → c.args.lengths.now.items ≡ rest ++ lengths_are (extent (expr_view c.index-operands-0.result) + 1 + extent (expr_view c.index-operands-1.result) + 1 + extent (expr_view c.index-operands-2.result)) (extent (expr_view c.index-operands-2.result)) ∷ [] → c.take_targets-targets.new.lengths.items ≡ rest = λ rest e. (c.take_targets-targets.ensures rest (extent (expr_view c.index-operands-0.result) + 1 + extent (expr_view c.index-operands-1.result) + 1 + extent (expr_view c.index-operands-2.result)) (extent (expr_view c.index-operands-2.result)) e).0 in
    choice_jump room take c.in_ok-emit.ensures.grows c.put.new.code (instrs.Test c.take_targets-targets.result.last c.take_targets-targets.result.end) c.in_ok-put.ensures.found c.in_ok-emit-2.ensures.grows

pub emit_choice-emit-requires-3 : goal.emit_choice-emit-requires-3
emit_choice-emit-requires-3 t c =
    let ops : exprs_view c.args.operands.now ≡ typed (expr_view c.index-operands-0.result) (typed (expr_view c.index-operands-1.result) (typed (expr_view c.index-operands-2.result) no_typed)) =
    three_operands c.args.operands.now c.index-operands-0.result c.index-operands-1.result c.index-operands-2.result _ _ _ (omega (arith, c.requires.three)) (omega (arith, c.requires.three)) c.index-operands-0.is c.index-operands-1.is c.index-operands-2.is in
    let room = choice_room c.args.depth (expr_view c.index-operands-0.result) (expr_view c.index-operands-1.result) (expr_view c.index-operands-2.result) c.requires.room.0 c.args.code.now c.args.lengths.now.items (subst (λ l. HasRoom c.args.code.now c.args.lengths.now.items c.args.depth (typed_call c.requires.room.0 overloads.Conditional l)) ops c.requires.room.1) in
    let take : (rest : List Lengths) → c.args.lengths.now.items ≡ rest ++ lengths_are (extent (expr_view c.index-operands-0.result) + 1 + extent (expr_view c.index-operands-1.result) + 1 + extent (expr_view c.index-operands-2.result)) (extent (expr_view c.index-operands-2.result)) ∷ [] → c.take_targets-targets.new.lengths.items ≡ rest = λ rest e. (c.take_targets-targets.ensures rest (extent (expr_view c.index-operands-0.result) + 1 + extent (expr_view c.index-operands-1.result) + 1 + extent (expr_view c.index-operands-2.result)) (extent (expr_view c.index-operands-2.result)) e).0 in
    (first_of (search (rules, exprs.the_lemmas), grind (arith, exprs.the_lemmas), grind (arith, common_steps)), choice_third room take c.in_ok-emit.ensures.grows c.put.new.code (instrs.Test c.take_targets-targets.result.last c.take_targets-targets.result.end) c.in_ok-put.ensures.found c.in_ok-emit-2.ensures.grows c.put-2.new.code (instrs.Jump c.take_targets-targets.result.end) c.in_ok-put-2.ensures.found)

pub emit_choice-returns : goal.emit_choice-returns
emit_choice-returns t c =
    let ops : exprs_view c.args.operands.now ≡ typed (expr_view c.index-operands-0.result) (typed (expr_view c.index-operands-1.result) (typed (expr_view c.index-operands-2.result) no_typed)) =
    three_operands c.args.operands.now c.index-operands-0.result c.index-operands-1.result c.index-operands-2.result _ _ _ (omega (arith, c.requires.three)) (omega (arith, c.requires.three)) c.index-operands-0.is c.index-operands-1.is c.index-operands-2.is in
    let room = choice_room c.args.depth (expr_view c.index-operands-0.result) (expr_view c.index-operands-1.result) (expr_view c.index-operands-2.result) c.requires.room.0 c.args.code.now c.args.lengths.now.items (subst (λ l. HasRoom c.args.code.now c.args.lengths.now.items c.args.depth (typed_call c.requires.room.0 overloads.Conditional l)) ops c.requires.room.1) in
    let take : (rest : List Lengths) → c.args.lengths.now.items ≡ rest ++ lengths_are (extent (expr_view c.index-operands-0.result) + 1 + extent (expr_view c.index-operands-1.result) + 1 + extent (expr_view c.index-operands-2.result)) (extent (expr_view c.index-operands-2.result)) ∷ [] → c.take_targets-targets.new.lengths.items ≡ rest = λ rest e. (c.take_targets-targets.ensures rest (extent (expr_view c.index-operands-0.result) + 1 + extent (expr_view c.index-operands-1.result) + 1 + extent (expr_view c.index-operands-2.result)) (extent (expr_view c.index-operands-2.result)) e).0 in
    let last = next c.args.lengths.now.items ((lengths_of (expr_view c.index-operands-2.result) ++ lengths_of (expr_view c.index-operands-1.result)) ++ lengths_of (expr_view c.index-operands-0.result)) (lengths_are (extent (expr_view c.index-operands-0.result) + 1 + extent (expr_view c.index-operands-1.result) + 1 + extent (expr_view c.index-operands-2.result)) (extent (expr_view c.index-operands-2.result)) ∷ []) room.ends in
    let said = c.take_targets-targets.ensures last.0 (extent (expr_view c.index-operands-0.result) + 1 + extent (expr_view c.index-operands-1.result) + 1 + extent (expr_view c.index-operands-2.result)) (extent (expr_view c.index-operands-2.result)) last.1 in
    let begin = c.len.ensures.same in
    let end_is = said.1 in
    let last_is = said.2 in
    record {
      grows = λ kind. rw ops (choice_built room take c.in_ok-emit.ensures.grows c.put.new.code (instrs.Test c.take_targets-targets.result.last c.take_targets-targets.result.end) c.in_ok-put.ensures.found c.in_ok-emit-2.ensures.grows c.put-2.new.code (instrs.Jump c.take_targets-targets.result.end) c.in_ok-put-2.ensures.found c.in_ok-emit-3.ensures.grows c.take_targets-targets.result.last c.take_targets-targets.result.end kind
          (omega (arith, end_is, begin)) (omega (arith, last_is, begin)) refl refl);
    }

pub emit_loop-take_targets-targets-requires : goal.emit_loop-take_targets-targets-requires
emit_loop-take_targets-targets-requires t c =
    let room = loop_room c.args.depth (c.args.depth + 1 + variable_count c.args.parts.now.variables) c.requires.room.0 c.args.parts.now.variables (expr_view c.args.parts.now.range) (expr_view c.args.parts.now.init) (expr_view c.args.parts.now.condition) (expr_view c.args.parts.now.step) (expr_view c.args.parts.now.result) c.args.code.now c.args.lengths.now.items refl c.requires.room.1 in
    let fits = room.fits in
    let begin = c.len.ensures.same in
    takes_of c.args.lengths.now.items ((((lengths_of (expr_view c.args.parts.now.result) ++ lengths_of (expr_view c.args.parts.now.step)) ++ lengths_of (expr_view c.args.parts.now.condition)) ++ lengths_of (expr_view c.args.parts.now.init)) ++ lengths_of (expr_view c.args.parts.now.range)) c.len.result (extent (expr_view c.args.parts.now.range) + 1 + extent (expr_view c.args.parts.now.init) + 1 + 1 + extent (expr_view c.args.parts.now.condition) + 1 + extent (expr_view c.args.parts.now.step) + 1 + 1 + extent (expr_view c.args.parts.now.result)) (extent (expr_view c.args.parts.now.result)) room.ends (omega arith) (omega (arith, fits, begin))

pub emit_loop-emit-requires : goal.emit_loop-emit-requires
emit_loop-emit-requires t c =
    let room = loop_room c.args.depth (c.args.depth + 1 + variable_count c.args.parts.now.variables) c.requires.room.0 c.args.parts.now.variables (expr_view c.args.parts.now.range) (expr_view c.args.parts.now.init) (expr_view c.args.parts.now.condition) (expr_view c.args.parts.now.step) (expr_view c.args.parts.now.result) c.args.code.now c.args.lengths.now.items refl c.requires.room.1 in
    let take : (rest : List Lengths) → c.args.lengths.now.items ≡ rest ++ lengths_are (extent (expr_view c.args.parts.now.range) + 1 + extent (expr_view c.args.parts.now.init) + 1 + 1 + extent (expr_view c.args.parts.now.condition) + 1 + extent (expr_view c.args.parts.now.step) + 1 + 1 + extent (expr_view c.args.parts.now.result)) (extent (expr_view c.args.parts.now.result)) ∷ [] → c.take_targets-targets.new.lengths.items ≡ rest = λ rest e. (c.take_targets-targets.ensures rest (extent (expr_view c.args.parts.now.range) + 1 + extent (expr_view c.args.parts.now.init) + 1 + 1 + extent (expr_view c.args.parts.now.condition) + 1 + extent (expr_view c.args.parts.now.step) + 1 + 1 + extent (expr_view c.args.parts.now.result)) (extent (expr_view c.args.parts.now.result)) e).0 in
    (first_of (search (rules, exprs.the_lemmas), grind (arith, exprs.the_lemmas), grind (arith, common_steps)), range_room room take)

pub emit_loop-emit-requires-2 : goal.emit_loop-emit-requires-2
emit_loop-emit-requires-2 t c =
    let room = loop_room c.args.depth (c.args.depth + 1 + variable_count c.args.parts.now.variables) c.requires.room.0 c.args.parts.now.variables (expr_view c.args.parts.now.range) (expr_view c.args.parts.now.init) (expr_view c.args.parts.now.condition) (expr_view c.args.parts.now.step) (expr_view c.args.parts.now.result) c.args.code.now c.args.lengths.now.items refl c.requires.room.1 in
    let take : (rest : List Lengths) → c.args.lengths.now.items ≡ rest ++ lengths_are (extent (expr_view c.args.parts.now.range) + 1 + extent (expr_view c.args.parts.now.init) + 1 + 1 + extent (expr_view c.args.parts.now.condition) + 1 + extent (expr_view c.args.parts.now.step) + 1 + 1 + extent (expr_view c.args.parts.now.result)) (extent (expr_view c.args.parts.now.result)) ∷ [] → c.take_targets-targets.new.lengths.items ≡ rest = λ rest e. (c.take_targets-targets.ensures rest (extent (expr_view c.args.parts.now.range) + 1 + extent (expr_view c.args.parts.now.init) + 1 + 1 + extent (expr_view c.args.parts.now.condition) + 1 + extent (expr_view c.args.parts.now.step) + 1 + 1 + extent (expr_view c.args.parts.now.result)) (extent (expr_view c.args.parts.now.result)) e).0 in
    (first_of (search (rules, exprs.the_lemmas), grind (arith, exprs.the_lemmas), grind (arith, common_steps)), init_room room take c.in_ok-emit.ensures.grows c.put.new.code (instrs.LoopStart c.take_targets-targets.result.end) c.in_ok-put.ensures.found)

pub emit_loop-emit-requires-3 : goal.emit_loop-emit-requires-3
emit_loop-emit-requires-3 t c =
    let inside : c.args.depth + 1 + c.variable_count.result ≡ c.args.depth + 1 + variable_count c.args.parts.now.variables = ap (λ n. c.args.depth + 1 + n) c.variable_count.ensures.same in
    let room = loop_room c.args.depth (c.args.depth + 1 + c.variable_count.result) c.requires.room.0 c.args.parts.now.variables (expr_view c.args.parts.now.range) (expr_view c.args.parts.now.init) (expr_view c.args.parts.now.condition) (expr_view c.args.parts.now.step) (expr_view c.args.parts.now.result) c.args.code.now c.args.lengths.now.items inside c.requires.room.1 in
    let take : (rest : List Lengths) → c.args.lengths.now.items ≡ rest ++ lengths_are (extent (expr_view c.args.parts.now.range) + 1 + extent (expr_view c.args.parts.now.init) + 1 + 1 + extent (expr_view c.args.parts.now.condition) + 1 + extent (expr_view c.args.parts.now.step) + 1 + 1 + extent (expr_view c.args.parts.now.result)) (extent (expr_view c.args.parts.now.result)) ∷ [] → c.take_targets-targets.new.lengths.items ≡ rest = λ rest e. (c.take_targets-targets.ensures rest (extent (expr_view c.args.parts.now.range) + 1 + extent (expr_view c.args.parts.now.init) + 1 + 1 + extent (expr_view c.args.parts.now.condition) + 1 + extent (expr_view c.args.parts.now.step) + 1 + 1 + extent (expr_view c.args.parts.now.result)) (extent (expr_view c.args.parts.now.result)) e).0 in
    (first_of (search (rules, exprs.the_lemmas), grind (arith, exprs.the_lemmas), grind (arith, common_steps)), condition_room room take c.in_ok-emit.ensures.grows c.put.new.code (instrs.LoopStart c.take_targets-targets.result.end) c.in_ok-put.ensures.found c.in_ok-emit-2.ensures.grows c.put-2.new.code (instrs.Store c.args.depth) c.in_ok-put-2.ensures.found c.put-3.new.code c.turn_instr.result c.in_ok-put-3.ensures.found)

pub emit_loop-emit-requires-4 : goal.emit_loop-emit-requires-4
emit_loop-emit-requires-4 t c =
    let inside : c.args.depth + 1 + c.variable_count.result ≡ c.args.depth + 1 + variable_count c.args.parts.now.variables = ap (λ n. c.args.depth + 1 + n) c.variable_count.ensures.same in
    let room = loop_room c.args.depth (c.args.depth + 1 + c.variable_count.result) c.requires.room.0 c.args.parts.now.variables (expr_view c.args.parts.now.range) (expr_view c.args.parts.now.init) (expr_view c.args.parts.now.condition) (expr_view c.args.parts.now.step) (expr_view c.args.parts.now.result) c.args.code.now c.args.lengths.now.items inside c.requires.room.1 in
    let take : (rest : List Lengths) → c.args.lengths.now.items ≡ rest ++ lengths_are (extent (expr_view c.args.parts.now.range) + 1 + extent (expr_view c.args.parts.now.init) + 1 + 1 + extent (expr_view c.args.parts.now.condition) + 1 + extent (expr_view c.args.parts.now.step) + 1 + 1 + extent (expr_view c.args.parts.now.result)) (extent (expr_view c.args.parts.now.result)) ∷ [] → c.take_targets-targets.new.lengths.items ≡ rest = λ rest e. (c.take_targets-targets.ensures rest (extent (expr_view c.args.parts.now.range) + 1 + extent (expr_view c.args.parts.now.init) + 1 + 1 + extent (expr_view c.args.parts.now.condition) + 1 + extent (expr_view c.args.parts.now.step) + 1 + 1 + extent (expr_view c.args.parts.now.result)) (extent (expr_view c.args.parts.now.result)) e).0 in
    (first_of (search (rules, exprs.the_lemmas), grind (arith, exprs.the_lemmas), grind (arith, common_steps)), step_room room take c.in_ok-emit.ensures.grows c.put.new.code (instrs.LoopStart c.take_targets-targets.result.end) c.in_ok-put.ensures.found c.in_ok-emit-2.ensures.grows c.put-2.new.code (instrs.Store c.args.depth) c.in_ok-put-2.ensures.found c.put-3.new.code c.turn_instr.result c.in_ok-put-3.ensures.found c.in_ok-emit-3.ensures.grows c.put-4.new.code (instrs.LoopTest c.take_targets-targets.result.last c.take_targets-targets.result.end) c.in_ok-put-4.ensures.found)

pub emit_loop-put-requires-6 : goal.emit_loop-put-requires-6
emit_loop-put-requires-6 t c =
    let inside : c.args.depth + 1 + c.variable_count.result ≡ c.args.depth + 1 + variable_count c.args.parts.now.variables = ap (λ n. c.args.depth + 1 + n) c.variable_count.ensures.same in
    let room = loop_room c.args.depth (c.args.depth + 1 + c.variable_count.result) c.requires.room.0 c.args.parts.now.variables (expr_view c.args.parts.now.range) (expr_view c.args.parts.now.init) (expr_view c.args.parts.now.condition) (expr_view c.args.parts.now.step) (expr_view c.args.parts.now.result) c.args.code.now c.args.lengths.now.items inside c.requires.room.1 in
    let take : (rest : List Lengths) → c.args.lengths.now.items ≡ rest ++ lengths_are (extent (expr_view c.args.parts.now.range) + 1 + extent (expr_view c.args.parts.now.init) + 1 + 1 + extent (expr_view c.args.parts.now.condition) + 1 + extent (expr_view c.args.parts.now.step) + 1 + 1 + extent (expr_view c.args.parts.now.result)) (extent (expr_view c.args.parts.now.result)) ∷ [] → c.take_targets-targets.new.lengths.items ≡ rest = λ rest e. (c.take_targets-targets.ensures rest (extent (expr_view c.args.parts.now.range) + 1 + extent (expr_view c.args.parts.now.init) + 1 + 1 + extent (expr_view c.args.parts.now.condition) + 1 + extent (expr_view c.args.parts.now.step) + 1 + 1 + extent (expr_view c.args.parts.now.result)) (extent (expr_view c.args.parts.now.result)) e).0 in
    back_room room take c.in_ok-emit.ensures.grows c.put.new.code (instrs.LoopStart c.take_targets-targets.result.end) c.in_ok-put.ensures.found c.in_ok-emit-2.ensures.grows c.put-2.new.code (instrs.Store c.args.depth) c.in_ok-put-2.ensures.found c.put-3.new.code c.turn_instr.result c.in_ok-put-3.ensures.found c.in_ok-emit-3.ensures.grows c.put-4.new.code (instrs.LoopTest c.take_targets-targets.result.last c.take_targets-targets.result.end) c.in_ok-put-4.ensures.found c.in_ok-emit-4.ensures.grows c.put-5.new.code (instrs.Store c.args.depth) c.in_ok-put-5.ensures.found

pub emit_loop-emit-requires-5 : goal.emit_loop-emit-requires-5
emit_loop-emit-requires-5 t c =
    let inside : c.args.depth + 1 + c.variable_count.result ≡ c.args.depth + 1 + variable_count c.args.parts.now.variables = ap (λ n. c.args.depth + 1 + n) c.variable_count.ensures.same in
    let room = loop_room c.args.depth (c.args.depth + 1 + c.variable_count.result) c.requires.room.0 c.args.parts.now.variables (expr_view c.args.parts.now.range) (expr_view c.args.parts.now.init) (expr_view c.args.parts.now.condition) (expr_view c.args.parts.now.step) (expr_view c.args.parts.now.result) c.args.code.now c.args.lengths.now.items inside c.requires.room.1 in
    let take : (rest : List Lengths) → c.args.lengths.now.items ≡ rest ++ lengths_are (extent (expr_view c.args.parts.now.range) + 1 + extent (expr_view c.args.parts.now.init) + 1 + 1 + extent (expr_view c.args.parts.now.condition) + 1 + extent (expr_view c.args.parts.now.step) + 1 + 1 + extent (expr_view c.args.parts.now.result)) (extent (expr_view c.args.parts.now.result)) ∷ [] → c.take_targets-targets.new.lengths.items ≡ rest = λ rest e. (c.take_targets-targets.ensures rest (extent (expr_view c.args.parts.now.range) + 1 + extent (expr_view c.args.parts.now.init) + 1 + 1 + extent (expr_view c.args.parts.now.condition) + 1 + extent (expr_view c.args.parts.now.step) + 1 + 1 + extent (expr_view c.args.parts.now.result)) (extent (expr_view c.args.parts.now.result)) e).0 in
    (first_of (search (rules, exprs.the_lemmas), grind (arith, exprs.the_lemmas), grind (arith, common_steps)), result_room room take c.in_ok-emit.ensures.grows c.put.new.code (instrs.LoopStart c.take_targets-targets.result.end) c.in_ok-put.ensures.found c.in_ok-emit-2.ensures.grows c.put-2.new.code (instrs.Store c.args.depth) c.in_ok-put-2.ensures.found c.put-3.new.code c.turn_instr.result c.in_ok-put-3.ensures.found c.in_ok-emit-3.ensures.grows c.put-4.new.code (instrs.LoopTest c.take_targets-targets.result.last c.take_targets-targets.result.end) c.in_ok-put-4.ensures.found c.in_ok-emit-4.ensures.grows c.put-5.new.code (instrs.Store c.args.depth) c.in_ok-put-5.ensures.found c.put-6.new.code (instrs.Jump c.len-turn.result) c.in_ok-put-6.ensures.found)

pub emit_loop-returns : goal.emit_loop-returns
emit_loop-returns t c =
    let inside : c.args.depth + 1 + c.variable_count.result ≡ c.args.depth + 1 + variable_count c.args.parts.now.variables = ap (λ n. c.args.depth + 1 + n) c.variable_count.ensures.same in
    let room = loop_room c.args.depth (c.args.depth + 1 + c.variable_count.result) c.requires.room.0 c.args.parts.now.variables (expr_view c.args.parts.now.range) (expr_view c.args.parts.now.init) (expr_view c.args.parts.now.condition) (expr_view c.args.parts.now.step) (expr_view c.args.parts.now.result) c.args.code.now c.args.lengths.now.items inside c.requires.room.1 in
    let take : (rest : List Lengths) → c.args.lengths.now.items ≡ rest ++ lengths_are (extent (expr_view c.args.parts.now.range) + 1 + extent (expr_view c.args.parts.now.init) + 1 + 1 + extent (expr_view c.args.parts.now.condition) + 1 + extent (expr_view c.args.parts.now.step) + 1 + 1 + extent (expr_view c.args.parts.now.result)) (extent (expr_view c.args.parts.now.result)) ∷ [] → c.take_targets-targets.new.lengths.items ≡ rest = λ rest e. (c.take_targets-targets.ensures rest (extent (expr_view c.args.parts.now.range) + 1 + extent (expr_view c.args.parts.now.init) + 1 + 1 + extent (expr_view c.args.parts.now.condition) + 1 + extent (expr_view c.args.parts.now.step) + 1 + 1 + extent (expr_view c.args.parts.now.result)) (extent (expr_view c.args.parts.now.result)) e).0 in
    let last = next c.args.lengths.now.items ((((lengths_of (expr_view c.args.parts.now.result) ++ lengths_of (expr_view c.args.parts.now.step)) ++ lengths_of (expr_view c.args.parts.now.condition)) ++ lengths_of (expr_view c.args.parts.now.init)) ++ lengths_of (expr_view c.args.parts.now.range)) (lengths_are (extent (expr_view c.args.parts.now.range) + 1 + extent (expr_view c.args.parts.now.init) + 1 + 1 + extent (expr_view c.args.parts.now.condition) + 1 + extent (expr_view c.args.parts.now.step) + 1 + 1 + extent (expr_view c.args.parts.now.result)) (extent (expr_view c.args.parts.now.result)) ∷ []) room.ends in
    let said = c.take_targets-targets.ensures last.0 (extent (expr_view c.args.parts.now.range) + 1 + extent (expr_view c.args.parts.now.init) + 1 + 1 + extent (expr_view c.args.parts.now.condition) + 1 + extent (expr_view c.args.parts.now.step) + 1 + 1 + extent (expr_view c.args.parts.now.result)) (extent (expr_view c.args.parts.now.result)) last.1 in
    let begin = c.len.ensures.same in
    let end_is = said.1 in
    let last_is = said.2 in
    record {
      grows = λ kind. loop_built room take c.in_ok-emit.ensures.grows c.put.new.code (instrs.LoopStart c.take_targets-targets.result.end) c.in_ok-put.ensures.found c.in_ok-emit-2.ensures.grows c.put-2.new.code (instrs.Store c.args.depth) c.in_ok-put-2.ensures.found c.put-3.new.code c.turn_instr.result c.in_ok-put-3.ensures.found c.in_ok-emit-3.ensures.grows c.put-4.new.code (instrs.LoopTest c.take_targets-targets.result.last c.take_targets-targets.result.end) c.in_ok-put-4.ensures.found c.in_ok-emit-4.ensures.grows c.put-5.new.code (instrs.Store c.args.depth) c.in_ok-put-5.ensures.found c.put-6.new.code (instrs.Jump c.len-turn.result) c.in_ok-put-6.ensures.found c.in_ok-emit-5.ensures.grows kind c.args.parts.now.variables c.take_targets-targets.result.end c.take_targets-targets.result.last c.len-turn.result
          (omega (arith, end_is, begin)) (omega (arith, last_is, begin)) c.len-turn.ensures.same inside refl refl c.turn_instr.ensures refl refl refl;
    }
