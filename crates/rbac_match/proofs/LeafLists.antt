-- Leaves whose texts stand in a pool that grows: what they are stays.
use Rattle.std.proofs.Common.{◌≡◌, ℕ, zero, suc, ◌+◌, ◌≤◌, ◌<◌, List, [], ◌∷◌, ◌++◌, length, take, drop, map, get_or, refl, sym, ap, ap₂, ◌∙◌, arith, true, false}
use Rattle.std.proofs.lemmas.List.{append-nil, append_assoc, length-append, length-drop, drop-append-le, take-append-le, get_or_append_left}
use Rattle.std.proofs.lemmas.Option.{get_or_from_slice_get, slice_get_within, slice_get-map}
use Rattle.std.specs.Prelude.{Some, None, option_map, slice_get}
use Rattle.attributes.specs.Address.{Range}
use Rattle.rbac_match.specs.Tokens.{GoesOn, slice_at}
use Rattle.rbac_match.specs.declared.leaves.Leaf.{Leaf}
use Rattle.rbac_match.specs.declared.leaves.Leaf.TheVariants.{Present, HeaderText, HeaderRange, Address, Port, PortRange, ServerName, UrlPath, Mutual, Named}
use Rattle.rbac_match.specs.declared.leaves.NameLeaf.{NameLeaf}
use Rattle.rbac_match.specs.declared.matcher.Matcher.{Matcher}
use Rattle.rbac_match.specs.declared.matcher.Matcher.TheVariants as matchers
use Rattle.rbac_match.specs.declared.pool.Pool.{Pool}
use Rattle.rbac_match.specs.declared.pool.Span.{Span}
use Rattle.rbac_match.specs.declared.pool.TextLeaf.{TextLeaf}
use Rattle.rbac_match.specs.declared.pool.TextLeaf.TheVariants.{Plain, AnyCase, Searched}
use Rattle.rbac_match.specs.declared.text.Pattern.TheVariants.{Contains}
use Rattle.rbac_match.specs.private.Leaves.{part_of, IsWithin, IsBorders, Grows, GoodText, text_in, GoodName, no_range, GoodLeaf, leaf_in, AreGood, pattern_of}

-- ---- lists

pub goes_on_same : {X : Type 0} (xs : List X) → GoesOn xs xs
goes_on_same xs = ([], sym (append-nil xs))

pub goes_on_as_it_is : {X : Type 0} (xs ys : List X) → ys ≡ xs → GoesOn xs ys
goes_on_as_it_is xs ys is = ([], is ∙ sym (append-nil xs))

pub goes_on_more : {X : Type 0} (xs ys zs : List X) → GoesOn xs ys → GoesOn ys zs → GoesOn xs zs
goes_on_more xs ys zs a b = (a.0 ++ b.0, b.1 ∙ ap (λ l. l ++ b.0) a.1 ∙ append_assoc xs a.0 b.0)

-- it is no shorter
pub goes_on_length : {X : Type 0} (xs ys : List X) → GoesOn xs ys → length xs ≤ length ys
goes_on_length xs ys on = let e = ap length on.1 in let a = length-append xs on.0 in omega arith

-- a part of a list stays where the list goes on
pub slice_stays : {X : Type 0} (from count : ℕ) (xs ys : List X) → from + count ≤ length xs → GoesOn xs ys
    → slice_at from count ys ≡ slice_at from count xs
slice_stays from count xs ys within on =
    let left = length-drop from xs in
    ap (λ l. take count (drop from l)) on.1
    ∙ ap (take count) (drop-append-le from xs on.0 (omega arith))
    ∙ take-append-le count (drop from xs) on.0 (omega arith)

-- what was added behind a list
pub slice_added : {X : Type 0} (xs more : List X) → slice_at (length xs) (length more) (xs ++ more) ≡ more
slice_added [] [] = refl
slice_added [] (m ∷ more) = ap (λ l. m ∷ l) (slice_added [] more)
slice_added (x ∷ xs) more = slice_added xs more

-- ---- pools

pub grows_same : (p : Pool) → Grows p p
grows_same p = record {
  text = goes_on_same p.text.items;
  borders = goes_on_same p.borders.items;
  ranges = goes_on_same p.ranges.items;
}

pub grows_more : (p q r : Pool) → Grows p q → Grows q r → Grows p r
grows_more p q r a b = record {
  text = goes_on_more p.text.items q.text.items r.text.items a.text b.text;
  borders = goes_on_more p.borders.items q.borders.items r.borders.items a.borders b.borders;
  ranges = goes_on_more p.ranges.items q.ranges.items r.ranges.items a.ranges b.ranges;
}

module _ (p q : Pool) (grows : Grows p q) where
  within_stays : (span : Span) → IsWithin span p → IsWithin span q
  within_stays span within = let more = goes_on_length p.text.items q.text.items grows.text in omega arith

  part_stays : (span : Span) → IsWithin span p → part_of span q ≡ part_of span p
  part_stays span within = slice_stays span.from span.count p.text.items q.text.items within grows.text

  borders_stay : (span : Span) (at : ℕ) → IsWithin span p → IsBorders span at p → IsBorders span at q
  borders_stay span at within is =
      let more = goes_on_length p.borders.items q.borders.items grows.borders in
      let there = is.there in
      record {
        some = is.some;
        there = omega arith;
        are = rw (part_stays span within, slice_stays at span.count p.borders.items q.borders.items is.there grows.borders) is.are;
      }

  pub good_text_stays : (leaf : TextLeaf) → GoodText p leaf → GoodText q leaf
  good_text_stays (Plain pattern span) good = within_stays span good
  good_text_stays (AnyCase ends span) good = within_stays span good
  good_text_stays (Searched span at) good = (within_stays span good.0, borders_stay span at good.0 good.1)

  pub text_stays : (leaf : TextLeaf) → GoodText p leaf → text_in q leaf ≡ text_in p leaf
  text_stays (Plain pattern span) good = ap (λ s. record { pattern = pattern; sought = s; ignore_case = false }) (part_stays span good)
  text_stays (AnyCase ends span) good = ap (λ s. record { pattern = pattern_of ends; sought = s; ignore_case = true }) (part_stays span good)
  text_stays (Searched span at) good = ap (λ s. record { pattern = Contains; sought = s; ignore_case = true }) (part_stays span good.0)

  pub good_name_stays : (name : NameLeaf) → GoodName p name → GoodName q name
  good_name_stays name good = (within_stays name.name good.0, rw (part_stays name.name good.0) good.1)

  pub name_stays : (name : NameLeaf) → GoodName p name → part_of name.name q ≡ part_of name.name p
  name_stays name good = part_stays name.name good.0

  pub good_leaf_stays : (leaf : Leaf) → GoodLeaf p leaf → GoodLeaf q leaf
  good_leaf_stays (Present name wanted) good = good_name_stays name good
  good_leaf_stays (HeaderText name text) good = (good_name_stays name good.0, good_text_stays text good.1)
  good_leaf_stays (HeaderRange name range) good = good_name_stays name good
  good_leaf_stays (Address source place) good = let more = goes_on_length p.ranges.items q.ranges.items grows.ranges in omega arith
  good_leaf_stays (Port port) good = tt
  good_leaf_stays (PortRange ports) good = tt
  good_leaf_stays (ServerName text) good = good_text_stays text good
  good_leaf_stays (UrlPath text) good = good_text_stays text good
  good_leaf_stays Mutual good = tt
  good_leaf_stays (Named text) good = good_text_stays text good

  pub leaf_stays : (leaf : Leaf) → GoodLeaf p leaf → leaf_in q leaf ≡ leaf_in p leaf
  leaf_stays (Present name wanted) good = rw (name_stays name good) refl
  leaf_stays (HeaderText name text) good = rw (name_stays name good.0, text_stays text good.1) refl
  leaf_stays (HeaderRange name range) good = rw (name_stays name good) refl
  leaf_stays (Address source place) good = ap (matchers.Address source)
      (ap (λ (l : List Range). get_or l place no_range) grows.ranges.1 ∙ get_or_append_left p.ranges.items grows.ranges.0 no_range place good)
  leaf_stays (Port port) good = refl
  leaf_stays (PortRange ports) good = refl
  leaf_stays (ServerName text) good = ap matchers.ServerName (text_stays text good)
  leaf_stays (UrlPath text) good = ap matchers.UrlPath (text_stays text good)
  leaf_stays Mutual good = refl
  leaf_stays (Named text) good = ap (λ t. matchers.Authenticated (Some t)) (text_stays text good)

  pub are_good_stay : (leaves : List Leaf) → AreGood p leaves → AreGood q leaves
  are_good_stay [] good = tt
  are_good_stay (leaf ∷ leaves) good = (good_leaf_stays leaf good.0, are_good_stay leaves good.1)

  pub leaves_stay : (leaves : List Leaf) → AreGood p leaves → map (leaf_in q) leaves ≡ map (leaf_in p) leaves
  leaves_stay [] good = refl
  leaves_stay (leaf ∷ leaves) good = ap₂ (λ a b. a ∷ b) (leaf_stays leaf good.0) (leaves_stay leaves good.1)

-- one leaf more
pub are_good_push : (p : Pool) (leaves : List Leaf) (leaf : Leaf) → AreGood p leaves → GoodLeaf p leaf → AreGood p (leaves ++ leaf ∷ [])
are_good_push p [] leaf good is = (is, tt)
are_good_push p (l ∷ leaves) leaf good is = (good.0, are_good_push p leaves leaf good.1 is)

-- the leaf at a place
pub good_at : (p : Pool) (leaves : List Leaf) (place : ℕ) (d : Leaf) → AreGood p leaves → place < length leaves → GoodLeaf p (get_or leaves place d)
good_at p [] place d good within = absurd (omega arith)
good_at p (l ∷ leaves) zero d good within = good.0
good_at p (l ∷ leaves) (suc place) d good within = good_at p leaves place d good.1 (omega arith)

-- the same by what a slice lends there
pub good_found : (p : Pool) (leaves : List Leaf) (place : ℕ) (leaf : Leaf) → AreGood p leaves → slice_get leaves place ≡ Some leaf → GoodLeaf p leaf
good_found p leaves place leaf good is =
    rw (← get_or_from_slice_get leaves place leaf leaf is) (good_at p leaves place leaf good (slice_get_within leaves place leaf is))

-- the test at a place
pub test_found : (p : Pool) (leaves : List Leaf) (tests : List Matcher) (place : ℕ) (leaf : Leaf) → map (leaf_in p) leaves ≡ tests
    → slice_get leaves place ≡ Some leaf → slice_get tests place ≡ Some (leaf_in p leaf)
test_found p leaves tests place leaf view is =
    ap (λ l. slice_get l place) (sym view) ∙ slice_get-map (leaf_in p) leaves place ∙ ap (option_map (leaf_in p)) is

pub test_missing : (p : Pool) (leaves : List Leaf) (tests : List Matcher) (place : ℕ) → map (leaf_in p) leaves ≡ tests
    → slice_get leaves place ≡ None → slice_get tests place ≡ None
test_missing p leaves tests place view is =
    ap (λ l. slice_get l place) (sym view) ∙ slice_get-map (leaf_in p) leaves place ∙ ap (option_map (leaf_in p)) is
