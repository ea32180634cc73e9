-- The names of an admitted filter's policies, by their numbers.
use Rattle.std.proofs.Common.{◌≡◌, ◌∙◌, ℕ, List, Option, Some, None, ap, length, map, option_map, refl, slice_get, string_bytes, sym}
use Rattle.std.specs.Prelude.{IsTrue}
use Rattle.std.specs.FinMap.{from_entries, is_sorted, keys}
use Rattle.std.proofs.lemmas.Option.{slice_get-map, slice_get_past, slice_get_read}
use Rattle.std.specs.Borrow.{Bor}
use Rattle.std.specs.Slice.{IsItemAt}
use Rattle.std.specs.Cmp.Lexicographic.{nat_list_cmp_total}
use Rattle.attributes.specs.Headers.{name_cmp}
use Rattle.proto_wire.proofs.MapOrder.{entries_from_entries}
use Rattle.rbac_match.specs.Tokens.{Token}
use Rattle.rbac_policy.specs.Condition.{Program}
use Rattle.rbac_policy.specs.Filter.{Policy}
use Rattle.rbac_policy.specs.Named.{named_view, named_views}
use Rattle.rbac_policy.specs.declared.policy.NamedPolicy.{NamedPolicy}
use Rattle.rbac_policy.proofs.Besides.{t_of}

-- what a slice lends at a place is what stands there
pub placed : (policies : List NamedPolicy) (place : ℕ) (found : Option (Bor NamedPolicy))
    → IsItemAt policies place found
    → slice_get policies place ≡ option_map (λ (b : Bor NamedPolicy). b.now) found
placed policies place None at = slice_get_past policies place at.3
placed policies place (Some policy) at =
    slice_get_read policies (length policies) place policy.now refl at.3.0 at.1

-- the name of what a policy is seen as
name_of_view : (list : List Token) (o : Option NamedPolicy)
    → option_map (λ (e : List ℕ × Policy Program). e.0) (option_map (named_view list) o)
    ≡ option_map (λ (p : NamedPolicy). string_bytes p.name) o
name_of_view list (Some p) = refl
name_of_view list None = refl

-- the name of a number is that of the policy there
pub name_at : (list : List Token) (items : List NamedPolicy) (number : ℕ) → IsTrue (is_sorted name_cmp (named_views list items))
    → option_map (λ (p : NamedPolicy). string_bytes p.name) (slice_get items number)
    ≡ slice_get (keys (from_entries {R = name_cmp} (named_views list items))) number
name_at list items number ordered =
    let listed = entries_from_entries name_cmp nat_list_cmp_total (named_views list items) (t_of _ ordered) in
    sym (ap (λ (es : List (List ℕ × Policy Program)). slice_get (map (λ e. e.0) es) number) listed
    ∙ slice_get-map (λ (e : List ℕ × Policy Program). e.0) (named_views list items) number
    ∙ ap (option_map (λ (e : List ℕ × Policy Program). e.0)) (slice_get-map (named_view list) items number)
    ∙ name_of_view list (slice_get items number))
