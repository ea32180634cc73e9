-- What every request has that a policy matches, as numbers. With them a decision skips policies.
use Rattle.std.specs.Prelude.{◌≡◌, ◌≢◌, ◌≤◌, ℕ, ◌+◌, ◌-◌, ◌*◌, ◌%◌, ◌^◌, true, false, List, [], ◌∷◌, codes, length, take, drop, get_or, Some, slice_get, unwrap_or}
use Rattle.std.specs.String.{string_bytes}
use Rattle.attributes.specs.Attributes.{url_path_of}
use Rattle.attributes.specs.Request.{RequestValue, header_of}
use Rattle.rbac_policy.specs.Condition.{Program}
use Rattle.rbac_policy.specs.Filter.{Policy}
use Rattle.rbac_policy.specs.Verdict.{sides_match}
use Rattle.rbac_policy.specs.declared.policy_index.Need.{Need}
use Rattle.rbac_policy.specs.declared.policy_index.RequestKeys.{RequestKeys}
use Rattle.rbac_policy.specs.declared.policy_index.PolicyIndex.{PolicyIndex}

-- a number of 64 bits, computed from a number and the next byte
abbrev pub mix : ℕ → ℕ → ℕ
mix number byte = ((number * 257) % 2 ^ 64 + byte) % 2 ^ 64

-- a number for bytes, computed from the number for what is before them
abbrev pub number_from : ℕ → List ℕ → ℕ
number_from number [] = number
number_from number (byte ∷ bytes) = number_from (mix number byte) bytes

-- a number for a path's start
abbrev pub start_number : List ℕ → ℕ
start_number bytes = number_from 1 bytes

-- a number for a header's value, from its length and its last 24 bytes
abbrev pub value_number : List ℕ → ℕ
value_number bytes = number_from (length bytes) (drop (length bytes - 24) bytes)

-- the value of a header; a missing one is empty
abbrev pub value_of : RequestValue → List ℕ → List ℕ
value_of r name = unwrap_or (header_of r name) []

-- the name of the header that has a request's method
abbrev pub method_name : List ℕ
method_name = codes ":method"

-- the request has what is needed: the first `count` bytes of its path, at most `most`, have the needed
-- number. If a value is needed, the value of the header of this name has the needed number. If a method is
-- needed, the request's method has its number
pub record Meets (most : ℕ) (name : List ℕ) (need : Need) (r : RequestValue) : Type 0 where
  pub within : need.count ≤ most
  pub start : start_number (take need.count (url_path_of r.target)) ≡ need.start
  pub value : need.value ≢ 0 → value_number (value_of r name) ≡ need.value
  pub method : need.method ≢ 0 → value_number (value_of r method_name) ≡ need.method

-- every request that the policy's sides match has what is needed
abbrev pub IsNeeded : ℕ → List ℕ → Policy Program → Need → Type 0
IsNeeded most name p need =
    (r : RequestValue) → sides_match r p ≡ true → Meets most name need r

-- each need is that of the policy of the same number
abbrev pub AreNeeded : ℕ → List ℕ → List (Policy Program) → List Need → Type 0
AreNeeded most name ps needs = (number : ℕ) (p : Policy Program) (need : Need)
    → slice_get ps number ≡ Some p → slice_get needs number ≡ Some need → IsNeeded most name p need

-- the needs are those of the policies, in order, one for each
abbrev pub AreInOrder : ℕ → List ℕ → List (Policy Program) → List Need → Type 0
AreInOrder most name [] needs = needs ≡ []
AreInOrder most name (p ∷ ps) [] = ⊥
AreInOrder most name (p ∷ ps) (need ∷ needs) =
    IsNeeded most name p need × AreInOrder most name ps needs

-- each need of the index is that of the policy of the same number
abbrev pub IsPolicyIndex : PolicyIndex → List (Policy Program) → Type 0
IsPolicyIndex policy_index ps = AreNeeded policy_index.most (string_bytes policy_index.name) ps policy_index.needs.items

-- the numbers of a request: those of its path's starts of up to `most` bytes, of the header's value, and of the
-- method
pub record AreRequestKeys (most : ℕ) (name : List ℕ) (request_keys : RequestKeys) (r : RequestValue) : Type 0 where
  pub starts_are : (count : ℕ) → count ≤ most → count ≤ 64
      → get_or request_keys.starts count 0 ≡ start_number (take count (url_path_of r.target))
  pub value_is : request_keys.value ≡ value_number (value_of r name)
  pub method_is : request_keys.method ≡ value_number (value_of r method_name)

-- the keys are the numbers of the request, and what the policies need
abbrev pub AreKeysFor : RequestKeys → RequestValue → List (Policy Program) → Type 0
AreKeysFor request_keys r ps = (most : ℕ) × (name : List ℕ) × AreRequestKeys most name request_keys r
    × AreNeeded most name ps request_keys.needs.now

-- the sides of the policy of this number do not match
abbrev pub IsRuledOut : ℕ → RequestValue → List (Policy Program) → Type 0
IsRuledOut number r ps =
    (p : Policy Program) → slice_get ps number ≡ Some p → sides_match r p ≡ false
