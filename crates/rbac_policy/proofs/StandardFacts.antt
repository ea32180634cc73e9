-- One filter of Envoy (extensions.filters.http.rbac.v3.RBAC) that allows requests by one policy `p` of any
-- permission and any principal: its bytes as an encoder writes them, what they say, and its answer,
-- so that a wrong rule in the specs does not check.
use Rattle.std.proofs.Common.{◌≡◌, ℕ, Bool, true, false, cond, IsTrue, List, [], ◌∷◌, ◌++◌, Some, None, inl, IsSomeAnd, codes, length, map, refl, ap, arith, ◌∙◌}
use Rattle.std.specs.Str.{IsUtf8}
use Rattle.std.specs.Ordering.{is_eq, is_lt}
use Rattle.std.specs.declared.cmp.Ordering.TheVariants.{Less, Equal, Greater}
use Rattle.std.specs.Cmp.Lexicographic.{nat_list_cmp_total}
use Rattle.std.specs.FinMap.{entries, from_entries, get, keys, len, len-entries, get-from_entries}
use Rattle.proto_wire.specs.Fields.{varint, len as len_of, Fields}
use Rattle.proto_wire.specs.Maps.{Entry, text, IsEntry, map_of}
use Rattle.proto_wire.proofs.MapOrder.{entries_from_entries}
use Rattle.proto_wire.proofs.MapValues.{held_are_values}
use Rattle.proto_wire.proofs.StandardFacts.{field, len_starts, merged, varint_starts}
use Rattle.attributes.specs.Headers.{name_cmp}
use Rattle.attributes.specs.Request.{RequestValue}
use Rattle.rbac_match.specs.Formula.{any, end, formula}
use Rattle.rbac_match.specs.Rules.{IsRule}
use Rattle.rbac_match.specs.declared.rule.Side.{Side}
use Rattle.rbac_match.specs.declared.rule.Side.TheVariants.{Permission, Principal}
use Rattle.cel_tree.specs.Checked.{CelChecked}
use Rattle.rbac_policy.specs.Filter.{Filter, Policy}
use Rattle.rbac_policy.specs.Message.{AreFilterRules, IsFilter, IsPolicy, rule_depth}
use Rattle.rbac_policy.specs.Verdict.{IsVerdict, Matches, policy_matches}
use Rattle.rbac_policy.specs.declared.filter.Action.TheVariants.{Allow}

-- ---- the bytes, from the innermost out

-- a rule: any is true
abbrev pub rule_bytes : List ℕ
rule_bytes = 24 ∷ 1 ∷ []

-- a policy of a permission and a principal
abbrev policy_bytes : List ℕ
policy_bytes = 10 ∷ 2 ∷ (rule_bytes ++ 18 ∷ 2 ∷ rule_bytes)

-- an entry: the key `p`, and the policy
abbrev entry_bytes : List ℕ
entry_bytes = 10 ∷ 1 ∷ 112 ∷ 18 ∷ 8 ∷ policy_bytes

-- the rules: the entry
abbrev rules_bytes : List ℕ
rules_bytes = 18 ∷ 13 ∷ entry_bytes

-- the filter: the rules
abbrev pub filter_bytes : List ℕ
filter_bytes = 10 ∷ 15 ∷ rules_bytes

-- ---- what they say

abbrev pub policy : Policy CelChecked
policy = record { permissions = formula any end; principals = formula any end; condition = None }

abbrev policies : List (List ℕ × Policy CelChecked)
policies = (codes "p", policy) ∷ []

abbrev pub filter : Filter CelChecked
filter = record { action = Allow; policies = from_entries policies }

-- ---- each message

rule_fields : Fields rule_bytes (field 3 (varint 1) ∷ [])
rule_fields = ([], varint_starts 3 1 [] (omega arith) (omega arith) (omega arith), refl)

policy_fields : Fields policy_bytes (field 1 (len_of rule_bytes) ∷ field 2 (len_of rule_bytes) ∷ [])
policy_fields = (
  18 ∷ 2 ∷ rule_bytes,
  len_starts 1 rule_bytes (18 ∷ 2 ∷ rule_bytes) (omega arith) (omega arith) (omega arith),
  ([], len_starts 2 rule_bytes [] (omega arith) (omega arith) (omega arith), refl),
)

entry_fields : Fields entry_bytes (field 1 (len_of (codes "p")) ∷ field 2 (len_of policy_bytes) ∷ [])
entry_fields = (
  18 ∷ 8 ∷ policy_bytes,
  len_starts 1 (codes "p") (18 ∷ 8 ∷ policy_bytes) (omega arith) (omega arith) (omega arith),
  ([], len_starts 2 policy_bytes [] (omega arith) (omega arith) (omega arith), refl),
)

rules_fields : Fields rules_bytes (field 2 (len_of entry_bytes) ∷ [])
rules_fields = ([], len_starts 2 entry_bytes [] (omega arith) (omega arith) (omega arith), refl)

filter_fields : Fields filter_bytes (field 1 (len_of rules_bytes) ∷ [])
filter_fields = ([], len_starts 1 rules_bytes [] (omega arith) (omega arith) (omega arith), refl)

-- a rule of either side
pub is_rule : (side : Side) → IsRule side rule_depth (rule_bytes ∷ []) any
is_rule Permission = (
  field 3 (varint 1) ∷ [],
  (merged rule_bytes (field 3 (varint 1) ∷ []) rule_fields, refl),
  (refl, refl),
)
is_rule Principal = (
  field 3 (varint 1) ∷ [],
  (merged rule_bytes (field 3 (varint 1) ∷ []) rule_fields, refl),
  (refl, refl),
)

is_policy : IsPolicy (policy_bytes ∷ []) policy
is_policy = record {
  fs = field 1 (len_of rule_bytes) ∷ field 2 (len_of rule_bytes) ∷ [];
  message = (merged policy_bytes (field 1 (len_of rule_bytes) ∷ field 2 (len_of rule_bytes) ∷ []) policy_fields, refl);
  one = inl refl;
  condition = λ some. some refl;
  sides = (λ e. cc, λ e. cc);
  permissions = (is_rule Permission, tt);
  principals = (is_rule Principal, tt);
}

-- the name is UTF-8
pub name_reads : IsUtf8 (codes "p")
unfolding lib.Utf8.encode
name_reads = (codes "p", (refl, refl))

abbrev entry : Entry text
entry = (codes "p", policy_bytes ∷ [])

is_entry : IsEntry text entry_bytes entry
is_entry = (
  field 1 (len_of (codes "p")) ∷ field 2 (len_of policy_bytes) ∷ [],
  (merged entry_bytes (field 1 (len_of (codes "p")) ∷ field 2 (len_of policy_bytes) ∷ []) entry_fields, refl),
  name_reads,
  refl,
)

-- the map has the entry alone
one_entry : entries (map_of text (entry ∷ [])) ≡ entry ∷ []
one_entry = entries_from_entries name_cmp nat_list_cmp_total (entry ∷ []) tt

are_rules : AreFilterRules (field 2 (len_of entry_bytes) ∷ []) filter
are_rules = record {
  unaudited = refl;
  action = refl;
  policies = (
    entry ∷ [],
    (is_entry, tt),
    held_are_values text IsPolicy (map_of text (entry ∷ [])) policies
        (rw one_entry (policy, [], is_policy, refl, refl)),
  );
  few =
      let one : len filter.policies ≡ 1 =
      len-entries filter.policies ∙ ap length (entries_from_entries name_cmp nat_list_cmp_total policies tt) in
      omega (arith, one);
}

-- the bytes are the message of the filter
pub is_filter : IsFilter filter_bytes filter
is_filter = record {
  top = field 1 (len_of rules_bytes) ∷ [];
  fs = field 2 (len_of entry_bytes) ∷ [];
  message = (merged filter_bytes (field 1 (len_of rules_bytes) ∷ []) filter_fields, refl);
  there = λ e. cc;
  inner = (merged rules_bytes (field 2 (len_of entry_bytes) ∷ []) rules_fields, refl);
  rules = are_rules;
}

-- ---- its answer

-- the filter has a policy at its name alone
policy_at : (name : List ℕ)
    → get filter.policies name ≡ cond (is_eq (name_cmp name (codes "p"))) (Some policy) None
policy_at name = get-from_entries nat_list_cmp_total policies name

one_name : keys filter.policies ≡ codes "p" ∷ []
one_name = ap (map (λ e. e.0)) (entries_from_entries name_cmp nat_list_cmp_total policies tt)

module _ (is_met : CelChecked → Bool) (r : RequestValue) where
  matches : Matches is_met r filter (codes "p")
  matches = rw (policy_at (codes "p")) refl

  -- a name at which a policy matches is not below it
  not_below : (other : List ℕ) → Matches is_met r filter other
      → is_lt (name_cmp other (codes "p")) ≡ false
  not_below other h =
      elim (name_cmp other (codes "p")) as (λ o.
      IsSomeAnd (cond (is_eq o) (Some policy) None) (λ p. IsTrue (policy_matches is_met r p)) → is_lt o ≡ false) [
        | Less ↦ λ none. absurd none
        | Equal ↦ λ some. refl
        | Greater ↦ λ none. absurd none
      ] (rw (policy_at other) at h)

  -- it lets each request through, and reports its policy, the first
  pub is_verdict : IsVerdict is_met r filter true (Some 0)
  is_verdict = record {
    lets_through = (λ yes. (codes "p", matches), λ some. refl);
    reported = (codes "p", (matches, not_below), rw one_name refl);
  }
