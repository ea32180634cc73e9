-- The causes of a policy, by its number in an admitted filter.
use Rattle.std.proofs.Common.{◌≡◌, ◌∙◌, ℕ, List, Option, Some, None, ap, option_map, refl, slice_get, sym}
use Rattle.std.specs.Prelude.{IsTrue}
use Rattle.std.specs.FinMap.{entries, from_entries, is_sorted}
use Rattle.std.proofs.lemmas.Option.{slice_get-map}
use Rattle.std.specs.Cmp.Lexicographic.{nat_list_cmp_total}
use Rattle.attributes.specs.Headers.{name_cmp}
use Rattle.proto_wire.proofs.MapOrder.{entries_from_entries}
use Rattle.rbac_match.specs.Tokens.{Token}
use Rattle.rbac_policy.specs.Condition.{Program}
use Rattle.rbac_policy.specs.Filter.{Policy}
use Rattle.rbac_policy.specs.Named.{named_view, named_views, policy_view}
use Rattle.rbac_policy.specs.declared.causes.PolicyCauses.{PolicyCauses}
use Rattle.rbac_policy.specs.declared.policy.NamedPolicy.{NamedPolicy}
use Rattle.rbac_policy.proofs.Besides.{t_of}

-- what is said of a policy, by its view and its name
of_view : (say : Policy Program → PolicyCauses) (list : List Token) (o : Option NamedPolicy)
    → option_map (λ (p : NamedPolicy). say (policy_view list p)) o
    ≡ option_map (λ (e : List ℕ × Policy Program). say e.1) (option_map (named_view list) o)
of_view say list (Some p) = refl
of_view say list None = refl

-- the policy of a number is the one at that place
pub said_at : (say : Policy Program → PolicyCauses) (list : List Token) (items : List NamedPolicy) (number : ℕ)
    → IsTrue (is_sorted name_cmp (named_views list items))
    → option_map (λ (p : NamedPolicy). say (policy_view list p)) (slice_get items number)
    ≡ option_map (λ (e : List ℕ × Policy Program). say e.1)
    (slice_get (entries (from_entries {R = name_cmp} (named_views list items))) number)
said_at say list items number ordered =
    let listed = entries_from_entries name_cmp nat_list_cmp_total (named_views list items) (t_of _ ordered) in
    of_view say list (slice_get items number)
    ∙ ap (option_map (λ (e : List ℕ × Policy Program). say e.1))
    (sym (ap (λ (es : List (List ℕ × Policy Program)). slice_get es number) listed
    ∙ slice_get-map (named_view list) items number))
