-- Where a target is cut into its path, its query and its fragment.
use Rattle.std.proofs.Common.{◌≡◌, ℕ, ◌+◌, ◌-◌, ◌≤◌, ◌==◌, List, length, take, drop, sym, ap, ◌∙◌, arith, inl, inr}
use Rattle.std.proofs.lemmas.Bool.{cases_lt}
use Rattle.std.proofs.lemmas.List.{drop_all, length-drop, length-take, take_min, take_rest}
use Rattle.std.specs.List.{after_first, before_first, position_or_len, slice_range}
use Rattle.attributes.specs.Attributes.{without_fragment}
use Rattle.attributes.specs.private.Parts.{Begins}
use Rattle.attributes.specs.private.Request.{IsCut}
use Rattle.attributes.proofs.Parts.{begins_trans, longer, slice_kept}

-- a text begins with its first bytes
begins_take : (n : ℕ) (t : List ℕ) → Begins (take n t) t
begins_take n t = ap (λ k. take k t) (length-take n t) ∙ take_min n t

-- the last bytes of a text, from the place where they are
slice_drop : (n : ℕ) (t : List ℕ)
    → slice_range t (length t - length (drop n t)) (length t) ≡ drop n t
slice_drop n t = take_rest t (length t - length (drop n t)) ∙ elim (cases_lt n (length t)) [
  | inl below ↦
      let rest = length-drop n t in
      let from : length t - length (drop n t) ≡ n = omega (arith, rest, below) in
      ap (λ k. drop k t) from
  | inr past ↦
      let rest = length-drop n t in
      let from : length t - length (drop n t) ≡ length t = omega (arith, rest, past) in
      ap (λ k. drop k t) from ∙ drop_all (length t) t (omega arith) ∙ sym (drop_all n t past)
]

-- the path, the query and what both are cut from
pub is_cut : (target whole path query : List ℕ) (p q r : ℕ) → whole ≡ without_fragment target
    → path ≡ before_first (λ b. b == 63) whole → query ≡ after_first (λ b. b == 63) whole
    → p ≡ length path → q ≡ length whole - length query → r ≡ length whole
    → IsCut target (record { path_end = p; query_from = q; query_to = r })
is_cut target whole path query p q r whole_is path_is query_is p_is q_is r_is =
    let k : ℕ = position_or_len (λ b. b == 63) whole in
    let in_target : Begins whole target =
    rw whole_is (begins_take (position_or_len (λ b. b == 35) target) target) in
    let in_whole : Begins path whole = rw path_is (begins_take k whole) in
    let front : Begins path target = begins_trans path whole target in_whole in_target in
    let path_fits = longer path target front in
    let whole_fits = longer whole target in_target in
    let less : length path - 0 ≡ length path = omega arith in
    let ordered : q ≤ r = omega (arith, q_is, r_is) in
    record {
      path_within = omega (arith, p_is, path_fits);
      ordered = ordered;
      within = omega (arith, r_is, whole_fits);
      path = rw (p_is, less) (front ∙ path_is
          ∙ ap (before_first (λ b. b == 63)) whole_is);
      query = slice_kept whole target in_target q r ordered (omega (arith, r_is))
          ∙ rw (q_is, r_is, query_is) (slice_drop (k + 1) whole)
          ∙ ap (after_first (λ b. b == 63)) whole_is;
    }
