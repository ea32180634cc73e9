-- Maps with ascending keys are equal where they give the same values.
use Rattle.std.proofs.Common.{◌≡◌, false, Some, None, refl, sym, ap, ap₂, ◌∙◌, inl, inr}
use Rattle.std.specs.declared.cmp.Ordering.{Ordering}
use Rattle.std.specs.declared.cmp.Ordering.TheVariants.{Less, Equal, Greater}
use Rattle.std.specs.Ordering.{is_eq, ordering_reverse}
use Rattle.std.proofs.lemmas.Bool.{cases_Bool}
use Rattle.cel_value.specs.Values.{CelKey, CelValue, CelEntries, no_entries, entry}
use Rattle.cel_value.specs.Keys.{get, key_cmp, AllAbove, IsAscending}
use Rattle.cel_value.specs.Equality.{key_eq}
use Rattle.cel_value.specs.private.EqualityLaws.{key_eq_decides}
use Rattle.cel_value.proofs.Places.{key_eq_cmp, key_cmp_antisymm, above_lower}

less_apart : (k j : CelKey) → key_cmp k j ≡ Less → key_eq j k ≡ false
less_apart k j h = key_eq_cmp j k ∙ ap is_eq (key_cmp_antisymm j k ∙ ap ordering_reverse h)

pub get_above : (k : CelKey) (es : CelEntries) → AllAbove k es → get es k ≡ None
get_above k no_entries a = refl
get_above k (entry j v es) a = rw (less_apart k j a.0) (get_above k es a.1)

-- a key below all of a map is none of it
not_there : (j k : CelKey) (w : CelValue) (fs : CelEntries) → key_cmp j k ≡ Less → AllAbove k fs
    → get (entry k w fs) j ≡ None
not_there j k w fs h a = get_above j (entry k w fs) (h, above_lower j k h fs a)

own : (k : CelKey) (v : CelValue) (es : CelEntries) → get (entry k v es) k ≡ Some v
own k v es = rw ((key_eq_decides k k).1 refl) refl

apart_somes : (v : CelValue) → Some v ≡ None → ⊥
apart_somes v e = cc

-- the order of two keys, by cases
data Standing (j k : CelKey) : Type 0 where
  lower : key_cmp j k ≡ Less → Standing j k
  same : j ≡ k → Standing j k
  higher : key_cmp k j ≡ Less → Standing j k

standing : (j k : CelKey) → Standing j k
standing j k = by_order (key_cmp j k) refl
  where
    by_order : (r : Ordering) → key_cmp j k ≡ r → Standing j k
    by_order Less e = lower e
    by_order Equal e = same ((key_eq_decides j k).0 (key_eq_cmp j k ∙ ap is_eq e))
    by_order Greater e = higher (key_cmp_antisymm k j ∙ ap ordering_reverse e)

pub same_map : (es fs : CelEntries) → IsAscending es → IsAscending fs → ((q : CelKey) → get es q
    ≡ get fs q) → es ≡ fs
same_map no_entries no_entries a b h = refl
same_map no_entries (entry k w fs) a b h = absurd (apart_somes w (sym (own k w fs) ∙ sym (h k)))
same_map (entry j v es) no_entries a b h = absurd (apart_somes v (sym (own j v es) ∙ h j))
same_map (entry j v es) (entry k w fs) a b h = elim (standing j k) [
  | lower l ↦ absurd (apart_somes v (sym (own j v es) ∙ h j ∙ not_there j k w fs l b.0))
  | higher l ↦ absurd (apart_somes w (sym (own k w fs) ∙ sym (h k) ∙ not_there k j v es l a.0))
  | same e ↦
      let values : Some v ≡ Some w = sym (own j v es) ∙ h j ∙ ap (get (entry k w fs)) e
      ∙ own k w fs in
      let value : v ≡ w = cc in
      let above : AllAbove j fs = rw e b.0 in
      let tails : es ≡ fs = same_map es fs a.1 b.1 (λ q. tail j v w es fs q a.0 above (h q
      ∙ ap (λ i. get (entry i w fs) q) (sym e))) in
      ap₂ (λ i u. entry i u es) e value ∙ ap (entry k w) tails
]
  where
    tail : (i : CelKey) (v w : CelValue) (es fs : CelEntries) (q : CelKey) → AllAbove i es
        → AllAbove i fs → get (entry i v es) q ≡ get (entry i w fs) q → get es q ≡ get fs q
    tail i v w es fs q a b h = elim (cases_Bool (key_eq i q)) [
      | inl yes_same ↦
          let at : i ≡ q = (key_eq_decides i q).0 yes_same in
          ap (get es) (sym at) ∙ get_above i es a ∙ sym (get_above i fs b) ∙ ap (get fs) at
      | inr other ↦ rw other at h
    ]
