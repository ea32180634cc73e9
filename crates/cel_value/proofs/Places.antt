-- Where an entry belongs, and what a map has once it is there.
use Rattle.std.proofs.Common.{◌≡◌, ◌↔◌, ◌≢◌, Bool, true, false, cond, Option, Some, None, refl, sym, ap, ◌∙◌, inl, inr, subst, ℤ, arith}
use Rattle.std.specs.Prelude.{if◌then◌else◌}
use Rattle.std.specs.Bool.{beq}
use Rattle.std.specs.FinMap.{int_cmp-IsAntisymmetric}
use Rattle.std.specs.Ordering.{int_eq}
use Rattle.std.proofs.lemmas.Int.{ints}
use Rattle.std.proofs.lemmas.Bool.Decides.{Decides-int_eq, same_from_decides}
use Rattle.std.specs.declared.cmp.Ordering.{Ordering}
use Rattle.std.specs.declared.cmp.Ordering.TheVariants.{Less, Equal, Greater}
use Rattle.std.specs.Ordering.{is_lt, is_eq, ordering_reverse, bool_cmp, int_cmp}
use Rattle.std.proofs.lemmas.Bool.{and_parts}
use Rattle.std.specs.Cmp.{IsTotalOrder, bool_cmp_total, int_cmp_total, nat_cmp_total, unsigned_ties, Equal-is}
use Rattle.std.specs.Cmp.Lexicographic.{nat_list_cmp_total, texts_ties}
use Rattle.cel_value.specs.Values.{CelKey, bool_key, int_key, uint_key, text_key, CelValue, CelEntries, no_entries, entry}
use Rattle.cel_value.specs.Keys.{get, key_cmp, AllAbove, IsAscending, is_ascending, put}
use Rattle.cel_value.specs.Equality.{key_eq}
use Rattle.std.proofs.lemmas.Bool.{cases_Bool, false_from_ne_true}
use Rattle.cel_value.specs.private.EqualityLaws.{key_eq_decides}

bool_ties : (a b : Bool) → beq a b ≡ is_eq (bool_cmp a b)
bool_ties true true = refl
bool_ties true false = refl
bool_ties false true = refl
bool_ties false false = refl

same_int : (a : ℤ) → is_eq (int_cmp a a) ≡ true
same_int a = grind (arith, ints)

int_ties : (a b : ℤ) → int_eq a b ≡ is_eq (int_cmp a b)
int_ties a b = same_from_decides _ _ (Decides-int_eq a b) (
  λ e. int_cmp-IsAntisymmetric a b ((Equal-is (int_cmp a b)).0 e),
  λ e. let P : ℤ → Type 0 = λ z. is_eq (int_cmp a z) ≡ true in subst P e (same_int a),
)

-- keys are equal where neither is below the other
pub key_eq_cmp : (j k : CelKey) → key_eq j k ≡ is_eq (key_cmp j k)
key_eq_cmp (bool_key a) (bool_key b) = bool_ties a b
key_eq_cmp (int_key a) (int_key b) = int_ties a b
key_eq_cmp (uint_key a) (uint_key b) = unsigned_ties a b
key_eq_cmp (text_key a) (text_key b) = texts_ties a b
key_eq_cmp _ _ = refl

pub key_cmp_trans : (a b c : CelKey) → key_cmp a b ≡ Less → key_cmp b c ≡ Less → key_cmp a c ≡ Less
key_cmp_trans (bool_key a) (bool_key b) (bool_key c) e f = bool_cmp_total.trans a b c e f
key_cmp_trans (int_key a) (int_key b) (int_key c) e f = int_cmp_total.trans a b c e f
key_cmp_trans (uint_key a) (uint_key b) (uint_key c) e f = nat_cmp_total.trans a b c e f
key_cmp_trans (text_key a) (text_key b) (text_key c) e f = nat_list_cmp_total.trans a b c e f
key_cmp_trans (bool_key a) b (int_key c) e f = refl
key_cmp_trans (bool_key a) b (uint_key c) e f = refl
key_cmp_trans (bool_key a) b (text_key c) e f = refl
key_cmp_trans (int_key a) b (uint_key c) e f = refl
key_cmp_trans (int_key a) b (text_key c) e f = refl
key_cmp_trans (uint_key a) b (text_key c) e f = refl
key_cmp_trans _ _ _ e f = cc

pub key_cmp_antisymm : (a b : CelKey) → key_cmp a b ≡ ordering_reverse (key_cmp b a)
key_cmp_antisymm (bool_key a) (bool_key b) = bool_cmp_total.antisymm a b
key_cmp_antisymm (int_key a) (int_key b) = int_cmp_total.antisymm a b
key_cmp_antisymm (uint_key a) (uint_key b) = nat_cmp_total.antisymm a b
key_cmp_antisymm (text_key a) (text_key b) = nat_list_cmp_total.antisymm a b
key_cmp_antisymm _ _ = refl

-- ---- what a map has once it has one more entry

not_true : (b : Bool) → b ≢ true → b ≡ false
not_true b h = false_from_ne_true b h

-- the new key has its value, and every other key what it had
pub get_put : (k : CelKey) (v : CelValue) (es : CelEntries) (q : CelKey) → get es k ≡ None
    → get (put k v es) q ≡ (if key_eq k q then Some v else get es q)
get_put k v no_entries q h = refl
get_put k v (entry j w es) q h = by_place (λ r. get_put k v es q r) (is_lt (key_cmp k j))
  where
    -- the key is not the first one
    apart : key_eq j k ≡ false
    apart = elim (cases_Bool (key_eq j k)) [
      | inl same ↦ absurd (let e : Some w
          ≡ None = rw same at h in cc)
      | inr other ↦ other
    ]

    rest : get es k ≡ None
    rest = rw apart at h

    swap : (b c : Bool) (x y z : Option CelValue) → (b ≡ true → c ≡ true → ⊥)
        → cond b x (cond c y z) ≡ cond c y (cond b x z)
    swap true true x y z n = absurd (n refl refl)
    swap true false x y z n = refl
    swap false c x y z n = refl

    -- no key is both
    both : key_eq j q ≡ true → key_eq k q ≡ true → ⊥
    both e f =
        let a : j ≡ q = (key_eq_decides j q).0 e in
        let b : k ≡ q = (key_eq_decides k q).0 f in
        let same : key_eq j k ≡ true = (key_eq_decides j k).1 (a ∙ sym b) in
        let t : false ≡ true = sym apart ∙ same in
        cc

    by_place : (get es k ≡ None → get (put k v es) q ≡ cond (key_eq k q) (Some v) (get es q))
        → (b : Bool) → get (cond b (entry k v (entry j w es)) (entry j w (put k v es))) q
        ≡ cond (key_eq k q) (Some v) (cond (key_eq j q) (Some w) (get es q))
    by_place more true = refl
    by_place more false = ap (λ o. cond (key_eq j q) (Some w) o) (more rest)
        ∙ swap (key_eq j q) (key_eq k q) (Some w) (Some v) (get es q) both

-- what is above a key is above each that it is above
pub above_lower : (k j : CelKey) → key_cmp k j ≡ Less → (es : CelEntries) → AllAbove j es
    → AllAbove k es
above_lower k j h no_entries a = tt
above_lower k j h (entry i w es) a = (key_cmp_trans k j i h a.0, above_lower k j h es a.1)

above_put : (j k : CelKey) (v : CelValue) (es : CelEntries) → key_cmp j k ≡ Less → AllAbove j es
    → AllAbove j (put k v es)
above_put j k v no_entries h a = (h, tt)
above_put j k v (entry i w es) h a = by_place (is_lt (key_cmp k i)) (above_put j k v es h a.1)
  where
    by_place : (b : Bool) → AllAbove j (put k v es)
        → AllAbove j (cond b (entry k v (entry i w es)) (entry i w (put k v es)))
    by_place true more = (h, a)
    by_place false more = (a.0, more)

-- what is neither below a key nor equal to it is above it
above_then : (r : Ordering) → is_lt r ≡ false → is_eq r ≡ false → ordering_reverse r ≡ Less
above_then Less e f = cc
above_then Equal e f = cc
above_then Greater e f = refl

pub is_lt_less : (r : Ordering) → is_lt r ≡ true → r ≡ Less
is_lt_less Less e = refl
is_lt_less Equal e = cc
is_lt_less Greater e = cc

-- keys keep rising
pub put_ascending : (k : CelKey) (v : CelValue) (es : CelEntries) → get es k ≡ None
    → IsAscending es → IsAscending (put k v es)
put_ascending k v no_entries h a = (tt, tt)
put_ascending k v (entry j w es) h a = by_place (λ r. put_ascending k v es r a.1) (is_lt
    (key_cmp k j)) refl
  where
    apart : key_eq j k ≡ false
    apart = elim (cases_Bool (key_eq j k)) [
      | inl same ↦ absurd (let e : Some w
          ≡ None = rw same at h in cc)
      | inr other ↦ other
    ]

    rest : get es k ≡ None
    rest = rw apart at h

    by_place : (get es k ≡ None → IsAscending (put k v es)) → (b : Bool) → is_lt (key_cmp k j)
        ≡ b → IsAscending (cond b (entry k v (entry j w es)) (entry j w (put k v es)))
    by_place more true e = let l = is_lt_less (key_cmp k j) e in ((l, above_lower k j l es a.0), a)
    by_place more false e =
        let apart_too : is_eq (key_cmp k j) ≡ false = sym (key_eq_cmp k j)
        ∙ not_true (key_eq k j) (λ t. let s : j
        ≡ k = sym ((key_eq_decides k j).0 t) in let u : key_eq j k
        ≡ true = (key_eq_decides j k).1 s in let f : false ≡ true = sym apart ∙ u in cc) in
        let l : key_cmp j k ≡ Less = key_cmp_antisymm j k ∙ above_then (key_cmp k j) e apart_too in
        (above_put j k v es l a.0, more rest)

-- keys stand in a total order
pub key_cmp_total : IsTotalOrder key_cmp
key_cmp_total = record {
  antisymm = key_cmp_antisymm;
  trans = key_cmp_trans;
  congr = λ j k q level. ap (λ i. key_cmp i q) ((key_eq_decides j k).0 (key_eq_cmp j k
      ∙ ap is_eq level));
}

pub key_cmp_level : (j k : CelKey) → (key_cmp j k ≡ Equal) ↔ (j ≡ k)
key_cmp_level j k = (
  λ level. (key_eq_decides j k).0 (key_eq_cmp j k ∙ ap is_eq level),
  λ same. (Equal-is (key_cmp j k)).0 (sym (key_eq_cmp j k) ∙ (key_eq_decides j k).1 same),
)

-- each key below the next: then each is below all that follow
pub is_ascending_decides : (es : CelEntries) → (is_ascending es ≡ true) ↔ IsAscending es
is_ascending_decides no_entries = (λ e. tt, λ a. refl)
is_ascending_decides (entry k v no_entries) = (λ e. (tt, tt), λ a. refl)
is_ascending_decides (entry k v (entry j w es)) =
    let below = is_ascending_decides (entry j w es) in (
      λ e.
          let parts = and_parts (is_lt (key_cmp k j)) (is_ascending (entry j w es)) e in
          let first : key_cmp k j ≡ Less = is_lt_less (key_cmp k j) parts.0 in
          let rest = below.0 parts.1 in
          ((first, above_lower k j first es rest.0), rest),
      λ a. rw (a.0.0, below.1 a.1) refl,
    )
