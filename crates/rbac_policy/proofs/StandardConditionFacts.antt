-- The filter of StandardFacts with the condition `true && true`: its bytes as an encoder writes them, what
-- they say, what the condition costs, whether they are admissible, and the filter's answer.
use Rattle.std.proofs.Common.{◌≡◌, ℕ, suc, ◌<◌, ℤ, pos, true, false, cond, IsTrue, List, [], ◌∷◌, ◌++◌, Option, Some, None, inl, IsSomeAnd, MatchOption, codes, length, map, refl, sym, ap, subst, arith, ◌∙◌}
use Rattle.std.specs.Str.{IsUtf8, chars}
use Rattle.std.specs.Ordering.{int_cmp, is_eq, is_lt}
use Rattle.std.specs.declared.cmp.Ordering.TheVariants.{Less, Equal, Greater}
use Rattle.std.specs.Cmp.{int_cmp_total}
use Rattle.std.specs.Cmp.Lexicographic.{nat_list_cmp_total}
use Rattle.std.specs.FinMap.{FinMap, entries, from_entries, get, get-from_entries, keys, len, len-entries}
use Rattle.proto_wire.specs.Fields.{varint, len as len_of, Wire, Fields}
use Rattle.proto_wire.specs.Maps.{Entry, text, IsEntry, map_of}
use Rattle.proto_wire.proofs.MapOrder.{entries_from_entries}
use Rattle.proto_wire.proofs.MapValues.{held_are_values}
use Rattle.proto_wire.proofs.StandardFacts.{field, len_starts, merged, varint_starts}
use Rattle.attributes.specs.Headers.{name_cmp}
use Rattle.attributes.specs.Limits.{LimitsValue}
use Rattle.attributes.specs.Request.{RequestValue}
use Rattle.cel_value.specs.Texts.{points_of}
use Rattle.cel_value.specs.Types.{ValueType, bool_type}
use Rattle.cel_value.specs.Values.{bool, value}
use Rattle.cel_tree.specs.Checked.{CelChecked, CelReference, CelTypeEntry}
use Rattle.cel_tree.specs.Constants.{IsConstant}
use Rattle.cel_tree.specs.Message.{IsChecked}
use Rattle.cel_tree.specs.Nodes.{IsNode, call_node, constant_node}
use Rattle.cel_tree.specs.Tree.{CelTree, CelTrees, call, constant, no_target, no_trees, tree}
use Rattle.cel_tree.specs.Trees.{IsTree, node_count}
use Rattle.cel_overload.specs.declared.function.Function.TheVariants as functions
use Rattle.cel_ops.specs.declared.operation.Operation.TheVariants as operations
use Rattle.cel_overload.specs.declared.overload.Overload.TheVariants as overloads
use Rattle.cel_types.specs.Elaborated.{IsElaborated, TypedTree, no_typed, typed, typed_call, typed_constant}
use Rattle.cel_types.specs.Meaning.{eval}
use Rattle.cel_types.specs.Typing.{Types, locals_in, maps_of}
use Rattle.cel_types.specs.Agreeing.{TypeAgrees}
use Rattle.cel_types.proofs.CheckLaws.{agreeing_typed}
use Rattle.rbac_match.specs.Formula.{any, end, formula}
use Rattle.rbac_match.specs.declared.rule.Side.TheVariants.{Permission, Principal}
use Rattle.cost_bound.specs.Budgets.{nothing as no_needs}
use Rattle.cost_bound.specs.declared.budget.Budget.{Budget}
use Rattle.rbac_policy.specs.Admission.{IsAdmissibleAs}
use Rattle.rbac_policy.specs.Condition.{is_met}
use Rattle.rbac_policy.specs.Costs.{Costs, FilterCosts, PoliciesCost}
use Rattle.rbac_policy.specs.Filter.{Filter, Policy}
use Rattle.rbac_policy.specs.Message.{AreFilterRules, IsFilter, IsPolicy}
use Rattle.rbac_policy.specs.Verdict.{IsVerdict, Matches, policy_matches}
use Rattle.rbac_policy.specs.declared.filter.Action.TheVariants.{Allow}
use Rattle.rbac_policy.proofs.StandardFacts.{is_rule, name_reads, rule_bytes}

-- ---- the bytes, from the innermost out

-- an expression: `true`
abbrev truth_bytes : ℕ → List ℕ
truth_bytes id = 16 ∷ id ∷ 26 ∷ 2 ∷ 16 ∷ 1 ∷ []

-- a call of `_&&_` on two of them
abbrev call_bytes : List ℕ
call_bytes = 18 ∷ 4 ∷ (codes "_&&_" ++ 26 ∷ 6 ∷ (truth_bytes 1 ++ 26 ∷ 6 ∷ truth_bytes 3))

-- the expression of the call
abbrev expr_bytes : List ℕ
expr_bytes = 16 ∷ 2 ∷ 50 ∷ 22 ∷ call_bytes

-- the checked expression: no entries of types and references
abbrev checked_bytes : List ℕ
checked_bytes = 34 ∷ 26 ∷ expr_bytes

-- a policy of a permission, a principal and the condition
abbrev policy_bytes : List ℕ
policy_bytes = 10 ∷ 2 ∷ (rule_bytes ++ 18 ∷ 2 ∷ (rule_bytes ++ 34 ∷ 28 ∷ checked_bytes))

-- an entry: the key `p`, and the policy
abbrev entry_bytes : List ℕ
entry_bytes = 10 ∷ 1 ∷ 112 ∷ 18 ∷ 38 ∷ policy_bytes

-- the rules: the entry
abbrev rules_bytes : List ℕ
rules_bytes = 18 ∷ 43 ∷ entry_bytes

-- the filter: the rules
abbrev pub filter_bytes : List ℕ
filter_bytes = 10 ∷ 45 ∷ rules_bytes

-- ---- what they say

abbrev truth : ℕ → CelTree
truth id = constant (pos id) (bool true)

abbrev operands : CelTrees
operands = tree (truth 1) (tree (truth 3) no_trees)

abbrev pub condition : CelChecked
condition = record {
  tree = call (pos 2) (codes "_&&_") no_target operands;
  types = from_entries [];
  refs = from_entries [];
}

abbrev pub policy : Policy CelChecked
policy = record {
  permissions = formula any end;
  principals = formula any end;
  condition = Some condition;
}

abbrev policies : List (List ℕ × Policy CelChecked)
policies = (codes "p", policy) ∷ []

abbrev pub filter : Filter CelChecked
filter = record { action = Allow; policies = from_entries policies }

-- ---- the expression

abbrev constant_fields : List Wire
constant_fields = field 2 (varint 1) ∷ []

abbrev truth_fields : ℕ → List Wire
truth_fields id = field 2 (varint id) ∷ field 3 (len_of (16 ∷ 1 ∷ [])) ∷ []

abbrev call_fields : List Wire
call_fields = field 2 (len_of (codes "_&&_")) ∷ field 3 (len_of (truth_bytes 1))
    ∷ field 3 (len_of (truth_bytes 3)) ∷ []

abbrev expr_fields : List Wire
expr_fields = field 2 (varint 2) ∷ field 6 (len_of call_bytes) ∷ []

constant_reads : Fields (16 ∷ 1 ∷ []) constant_fields
constant_reads = ([], varint_starts 2 1 [] (omega arith) (omega arith) (omega arith), refl)

truth_reads : (id : ℕ) → id < 128 → Fields (truth_bytes id) (truth_fields id)
truth_reads id small = (
  26 ∷ 2 ∷ 16 ∷ 1 ∷ [],
  varint_starts 2 id (26 ∷ 2 ∷ 16 ∷ 1 ∷ []) (omega arith) (omega arith) small,
  ([], len_starts 3 (16 ∷ 1 ∷ []) [] (omega arith) (omega arith) (omega arith), refl),
)

call_reads : Fields call_bytes call_fields
call_reads =
    let last : List ℕ = 26 ∷ 6 ∷ truth_bytes 3 in
    let both : List ℕ = 26 ∷ 6 ∷ (truth_bytes 1 ++ last) in (
      both,
      len_starts 2 (codes "_&&_") both (omega arith) (omega arith) (omega arith),
      (
        last,
        len_starts 3 (truth_bytes 1) last (omega arith) (omega arith) (omega arith),
        ([], len_starts 3 (truth_bytes 3) [] (omega arith) (omega arith) (omega arith), refl),
      ),
    )

expr_reads : Fields expr_bytes expr_fields
expr_reads = (
  50 ∷ 22 ∷ call_bytes,
  varint_starts 2 2 (50 ∷ 22 ∷ call_bytes) (omega arith) (omega arith) (omega arith),
  ([], len_starts 6 call_bytes [] (omega arith) (omega arith) (omega arith), refl),
)

checked_reads : Fields checked_bytes (field 4 (len_of expr_bytes) ∷ [])
checked_reads = ([], len_starts 4 expr_bytes [] (omega arith) (omega arith) (omega arith), refl)

-- the function's name is UTF-8, of these code points
function_reads : IsUtf8 (codes "_&&_")
unfolding lib.Utf8.encode
function_reads = (codes "_&&_", (refl, refl))

function_points : points_of (codes "_&&_") ≡ codes "_&&_"
unfolding chars
function_points = refl

is_true : IsConstant ((16 ∷ 1 ∷ []) ∷ []) (bool true)
is_true = (constant_fields, (merged (16 ∷ 1 ∷ []) constant_fields constant_reads, refl), refl)

is_truth : (id depth : ℕ) → id < 128 → IsNode (truth_bytes id ∷ []) (pos id) (constant_node (bool true))
    → IsTree (suc depth) (truth_bytes id ∷ []) (truth id)
is_truth id depth small node = record {
  id = pos id;
  node = constant_node (bool true);
  is = node;
  inside = no_trees;
  are = tt;
  makes = refl;
}

first_node : IsNode (truth_bytes 1 ∷ []) (pos 1) (constant_node (bool true))
first_node = (
  truth_fields 1,
  (merged (truth_bytes 1) (truth_fields 1) (truth_reads 1 (omega arith)), refl),
  (refl, (bool true, is_true, refl)),
)

second_node : IsNode (truth_bytes 3 ∷ []) (pos 3) (constant_node (bool true))
second_node = (
  truth_fields 3,
  (merged (truth_bytes 3) (truth_fields 3) (truth_reads 3 (omega arith)), refl),
  (refl, (bool true, is_true, refl)),
)

call_is : IsNode (expr_bytes ∷ []) (pos 2) (call_node (codes "_&&_") [] (truth_bytes 1 ∷ truth_bytes 3 ∷ []))
call_is = (
  expr_fields,
  (merged expr_bytes expr_fields expr_reads, refl),
  (
    refl,
    (
      call_fields,
      (merged call_bytes call_fields call_reads, refl),
      (function_reads, ap (λ name. call_node name [] (truth_bytes 1 ∷ truth_bytes 3 ∷ [])) (sym function_points)),
    ),
  ),
)

is_tree : IsTree 64 (expr_bytes ∷ []) condition.tree
is_tree = record {
  id = pos 2;
  node = call_node (codes "_&&_") [] (truth_bytes 1 ∷ truth_bytes 3 ∷ []);
  is = call_is;
  inside = operands;
  are = (is_truth 1 62 (omega arith) first_node, (is_truth 3 62 (omega arith) second_node, tt));
  makes = refl;
}

-- nothing is said of any id
abbrev nothing : (V : Type 0) → FinMap int_cmp V
nothing V = from_entries []

nothing_at : (V : Type 0) (id : ℤ) → get (nothing V) id ≡ None
nothing_at V id = get-from_entries int_cmp_total [] id

both_none : {A B : Type 0} (o : Option A) (x : Option B) (P : A → Type 0) → o ≡ None → x ≡ None
    → MatchOption o (x ≡ None) P
both_none o x P none also = rw (none, also) refl

is_checked : IsChecked (checked_bytes ∷ []) condition
is_checked = (
  field 4 (len_of expr_bytes) ∷ [],
  (merged checked_bytes (field 4 (len_of expr_bytes) ∷ []) checked_reads, refl),
  record {
    there = λ e. cc;
    tree = is_tree;
    few = (let three : node_count condition.tree ≡ 3 = refl in omega (arith, three));
    types = ([], tt, λ id. both_none _ _ _ (nothing_at (List (List ℕ)) id) (nothing_at CelTypeEntry id));
    refs = ([], tt, λ id. both_none _ _ _ (nothing_at (List (List ℕ)) id) (nothing_at CelReference id));
  },
)

-- ---- the filter

policy_fields : Fields policy_bytes (field 1 (len_of rule_bytes) ∷ field 2 (len_of rule_bytes) ∷ field 4 (len_of checked_bytes) ∷ [])
policy_fields =
    let last : List ℕ = 34 ∷ 28 ∷ checked_bytes in (
      18 ∷ 2 ∷ (rule_bytes ++ last),
      len_starts 1 rule_bytes (18 ∷ 2 ∷ (rule_bytes ++ last)) (omega arith) (omega arith) (omega arith),
      (
        last,
        len_starts 2 rule_bytes last (omega arith) (omega arith) (omega arith),
        ([], len_starts 4 checked_bytes [] (omega arith) (omega arith) (omega arith), refl),
      ),
    )

entry_fields : Fields entry_bytes (field 1 (len_of (codes "p")) ∷ field 2 (len_of policy_bytes) ∷ [])
entry_fields = (
  18 ∷ 38 ∷ policy_bytes,
  len_starts 1 (codes "p") (18 ∷ 38 ∷ policy_bytes) (omega arith) (omega arith) (omega arith),
  ([], len_starts 2 policy_bytes [] (omega arith) (omega arith) (omega arith), refl),
)

rules_fields : Fields rules_bytes (field 2 (len_of entry_bytes) ∷ [])
rules_fields = ([], len_starts 2 entry_bytes [] (omega arith) (omega arith) (omega arith), refl)

filter_fields : Fields filter_bytes (field 1 (len_of rules_bytes) ∷ [])
filter_fields = ([], len_starts 1 rules_bytes [] (omega arith) (omega arith) (omega arith), refl)

is_policy : IsPolicy (policy_bytes ∷ []) policy
is_policy = record {
  fs = field 1 (len_of rule_bytes) ∷ field 2 (len_of rule_bytes) ∷ field 4 (len_of checked_bytes) ∷ [];
  message = (merged policy_bytes (field 1 (len_of rule_bytes) ∷ field 2 (len_of rule_bytes) ∷ field 4 (len_of checked_bytes) ∷ []) policy_fields, refl);
  one = inl refl;
  condition = (λ e. cc, is_checked);
  sides = (λ e. cc, λ e. cc);
  permissions = (is_rule Permission, tt);
  principals = (is_rule Principal, tt);
}

abbrev entry : Entry text
entry = (codes "p", policy_bytes ∷ [])

is_entry : IsEntry text entry_bytes entry
is_entry = (
  field 1 (len_of (codes "p")) ∷ field 2 (len_of policy_bytes) ∷ [],
  (merged entry_bytes (field 1 (len_of (codes "p")) ∷ field 2 (len_of policy_bytes) ∷ []) entry_fields, refl),
  name_reads,
  refl,
)

-- the map has the entry alone
one_entry : entries (map_of text (entry ∷ [])) ≡ entry ∷ []
one_entry = entries_from_entries name_cmp nat_list_cmp_total (entry ∷ []) tt

are_rules : AreFilterRules (field 2 (len_of entry_bytes) ∷ []) filter
are_rules = record {
  unaudited = refl;
  action = refl;
  policies = (
    entry ∷ [],
    (is_entry, tt),
    held_are_values text IsPolicy (map_of text (entry ∷ [])) policies
        (rw one_entry (policy, [], is_policy, refl, refl)),
  );
  few =
      let one : len filter.policies ≡ 1 =
      len-entries filter.policies ∙ ap length (entries_from_entries name_cmp nat_list_cmp_total policies tt) in
      omega (arith, one);
}

-- the bytes are the message of the filter
pub is_filter : IsFilter filter_bytes filter
is_filter = record {
  top = field 1 (len_of rules_bytes) ∷ [];
  fs = field 2 (len_of entry_bytes) ∷ [];
  message = (merged filter_bytes (field 1 (len_of rules_bytes) ∷ []) filter_fields, refl);
  there = λ e. cc;
  inner = (merged rules_bytes (field 2 (len_of entry_bytes) ∷ []) rules_fields, refl);
  rules = are_rules;
}

-- ---- what it costs

abbrev true_typed : TypedTree
true_typed = typed_constant bool_type (bool true)

-- the condition, elaborated
abbrev elaborated : TypedTree
elaborated = typed_call bool_type (overloads.Operate operations.And) (typed true_typed (typed true_typed no_typed))

has_type : Types (maps_of condition) [] condition.tree bool_type
has_type = (
  bool_type ∷ bool_type ∷ [],
  (refl, (refl, tt)),
  overloads.Operate operations.And,
  (functions.And, refl, record { function = refl; shape = refl; operands = (refl, refl) }),
)

agrees : (id : ℤ) (t : ValueType) → TypeAgrees (get condition.types id) t
agrees id t = subst (λ o. TypeAgrees o t) (sym (nothing_at CelTypeEntry id)) tt

is_elaborated : IsElaborated condition elaborated
is_elaborated = record {
  typed = agreeing_typed condition bool_type (record {
    few = (let none : locals_in condition.tree ≡ 0 = refl in omega (arith, none));
    types = has_type;
    entries = (
      λ t has. agrees (pos 2) t,
      tt,
      (λ t has. agrees (pos 1) t, (λ t has. agrees (pos 3) t, tt)),
    );
  });
  elaborates = (
    has_type,
    (functions.And, refl, record { function = refl; shape = refl; operands = (refl, refl) }),
    ((refl, refl), ((refl, refl), tt)),
  );
}

-- 4 steps and 3 visits, whatever the limits
abbrev pub four : Budget
four = record { steps = 4; visits = 3 }

pub condition_costs : (limits : LimitsValue) → Costs limits condition four
condition_costs limits = record { e = elaborated; elaborated = is_elaborated; has_type = refl; is = refl }

pub filter_costs : (limits : LimitsValue) → FilterCosts limits filter four
filter_costs limits =
    subst (λ ps. PoliciesCost limits ps four) (sym (entries_from_entries name_cmp nat_list_cmp_total policies tt))
    (four, no_needs, condition_costs limits, refl, refl)

-- it is admissible with such a budget
pub is_admissible : (limits : LimitsValue) → IsAdmissibleAs filter_bytes limits four filter
is_admissible limits =
    record { message = is_filter; needs = four; costs = filter_costs limits; covered = (omega arith, omega arith) }

-- ---- its answer

-- the filter has a policy at its name alone
policy_at : (name : List ℕ)
    → get filter.policies name ≡ cond (is_eq (name_cmp name (codes "p"))) (Some policy) None
policy_at name = get-from_entries nat_list_cmp_total policies name

one_name : keys filter.policies ≡ codes "p" ∷ []
one_name = ap (map (λ e. e.0)) (entries_from_entries name_cmp nat_list_cmp_total policies tt)

-- the condition is true of each request
pub is_true_of : (r : RequestValue) → eval condition.tree r [] ≡ Some (value (bool true))
is_true_of r = refl

module _ (r : RequestValue) where
  matches : Matches (is_met r) r filter (codes "p")
  matches = rw (policy_at (codes "p")) refl

  -- a name at which a policy matches is not below it
  not_below : (other : List ℕ) → Matches (is_met r) r filter other
      → is_lt (name_cmp other (codes "p")) ≡ false
  not_below other h =
      elim (name_cmp other (codes "p")) as (λ o.
      IsSomeAnd (cond (is_eq o) (Some policy) None) (λ p. IsTrue (policy_matches (is_met r) r p)) → is_lt o ≡ false) [
        | Less ↦ λ none. absurd none
        | Equal ↦ λ some. refl
        | Greater ↦ λ none. absurd none
      ] (rw (policy_at other) at h)

  -- it lets each request through, and reports its policy, the first
  pub is_verdict : IsVerdict (is_met r) r filter true (Some 0)
  is_verdict = record {
    lets_through = (λ yes. (codes "p", matches), λ some. refl);
    reported = (codes "p", (matches, not_below), rw one_name refl);
  }
