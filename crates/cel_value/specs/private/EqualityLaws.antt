-- The tests of equality are exact, and therefore equivalences, as std requires of `==`.
use Rattle.std.proofs.Common.{◌≡◌, ◌&&◌, Bool, refl, sym, ap}
use Rattle.std.specs.Bool.{Decides}
use Rattle.std.specs.Cmp.{booleans_Decides, IsEquivalence}
use Rattle.std.specs.Cmp.Lexicographic.{bytes_decides}
use Rattle.std.proofs.lemmas.Bool.{and_parts, and_from as both}
use Rattle.std.proofs.lemmas.Bool.Decides.{Decides-int_eq, Decides-eqb, same_from_decides}
use Rattle.cel_value.specs.Values.{CelKey, bool_key, int_key, uint_key, text_key, CelValue, bool, int, uint, text, bytes, list, map_of, CelValues, no_items, item, CelEntries, no_entries, entry}
use Rattle.cel_value.specs.Equality.{key_eq, value_eq, values_eq, entries_eq}
use Rattle.cel_value.specs.Types.{ValueType, bool_type, int_type, uint_type, text_type, bytes_type, list_type, map_type, key_type_eq, type_eq}
use Rattle.cel_value.specs.declared.cel_type.KeyType.{KeyType}
use Rattle.cel_value.specs.declared.cel_type.KeyType.TheVariants as keys

pub key_eq_decides : (j k : CelKey) → Decides (key_eq j k) (j ≡ k)
key_eq_decides (bool_key a) (bool_key b) = let d = booleans_Decides a b in
    (λ e. ap bool_key (d.0 e), λ e. d.1 cc)
key_eq_decides (int_key a) (int_key b) = let d = Decides-int_eq a b in
    (λ e. ap int_key (d.0 e), λ e. d.1 cc)
key_eq_decides (uint_key a) (uint_key b) = let d = Decides-eqb a b in
    (λ e. ap uint_key (d.0 e), λ e. d.1 cc)
key_eq_decides (text_key a) (text_key b) = let d = bytes_decides a b in
    (λ e. ap text_key (d.0 e), λ e. d.1 cc)
key_eq_decides _ _ = (λ e. cc, λ e. cc)

mutual
  pub value_eq_decides : (v w : CelValue) → Decides (value_eq v w) (v ≡ w)
  value_eq_decides (bool a) (bool b) = let d = booleans_Decides a b in
      (λ e. ap bool (d.0 e), λ e. d.1 cc)
  value_eq_decides (int a) (int b) = let d = Decides-int_eq a b in
      (λ e. ap int (d.0 e), λ e. d.1 cc)
  value_eq_decides (uint a) (uint b) = let d = Decides-eqb a b in
      (λ e. ap uint (d.0 e), λ e. d.1 cc)
  value_eq_decides (text a) (text b) = let d = bytes_decides a b in
      (λ e. ap text (d.0 e), λ e. d.1 cc)
  value_eq_decides (bytes a) (bytes b) = let d = bytes_decides a b in
      (λ e. ap bytes (d.0 e), λ e. d.1 cc)
  value_eq_decides (list a) (list b) = let d = values_eq_decides a b in
      (λ e. ap list (d.0 e), λ e. d.1 cc)
  value_eq_decides (map_of a) (map_of b) = let d = entries_eq_decides a b in
      (λ e. ap map_of (d.0 e), λ e. d.1 cc)
  value_eq_decides _ _ = (λ e. cc, λ e. cc)

  pub values_eq_decides : (v w : CelValues) → Decides (values_eq v w) (v ≡ w)
  values_eq_decides no_items no_items = (λ e. refl, λ e. refl)
  values_eq_decides (item v vs) (item w ws) =
      let d = value_eq_decides v w in
      let ds = values_eq_decides vs ws in (
        λ e. let p = and_parts (value_eq v w) _ e in let a = d.0 p.0 in let b = ds.0 p.1 in cc,
        λ e. both _ _ (d.1 cc) (ds.1 cc),
      )
  values_eq_decides _ _ = (λ e. cc, λ e. cc)

  pub entries_eq_decides : (v w : CelEntries) → Decides (entries_eq v w) (v ≡ w)
  entries_eq_decides no_entries no_entries = (λ e. refl, λ e. refl)
  entries_eq_decides (entry j v vs) (entry k w ws) =
      let c = key_eq_decides j k in
      let d = value_eq_decides v w in
      let ds = entries_eq_decides vs ws in (
        λ e. let p = and_parts (key_eq j k && value_eq v w) _ e in
            let q = and_parts (key_eq j k) _ p.0 in let a = c.0 q.0 in let b = d.0 q.1 in
            let b2 = ds.0 p.1 in cc,
        λ e. both _ _ (both _ _ (c.1 cc) (d.1 cc)) (ds.1 cc),
      )
  entries_eq_decides _ _ = (λ e. cc, λ e. cc)

pub key_type_eq_decides : (j k : KeyType) → Decides (key_type_eq j k) (j ≡ k)
key_type_eq_decides keys.Bool keys.Bool = (λ e. refl, λ e. refl)
key_type_eq_decides keys.Int keys.Int = (λ e. refl, λ e. refl)
key_type_eq_decides keys.Uint keys.Uint = (λ e. refl, λ e. refl)
key_type_eq_decides keys.Text keys.Text = (λ e. refl, λ e. refl)
key_type_eq_decides _ _ = (λ e. cc, λ e. cc)

pub type_eq_decides : (s t : ValueType) → Decides (type_eq s t) (s ≡ t)
type_eq_decides bool_type bool_type = (λ e. refl, λ e. refl)
type_eq_decides int_type int_type = (λ e. refl, λ e. refl)
type_eq_decides uint_type uint_type = (λ e. refl, λ e. refl)
type_eq_decides text_type text_type = (λ e. refl, λ e. refl)
type_eq_decides bytes_type bytes_type = (λ e. refl, λ e. refl)
type_eq_decides (list_type s) (list_type t) =
    let d = type_eq_decides s t in (λ e. ap list_type (d.0 e), λ e. d.1 cc)
type_eq_decides (map_type j s) (map_type k t) =
    let d = key_type_eq_decides j k in
    let ds = type_eq_decides s t in (
      λ e. let p = and_parts (key_type_eq j k) (type_eq s t) e in let a = d.0 p.0 in
          let b = ds.0 p.1 in cc,
      λ e. both _ _ (d.1 cc) (ds.1 cc),
    )
type_eq_decides _ _ = (λ e. cc, λ e. cc)

-- a test that is true exactly of equal values is an equivalence
pub equivalence : {A : Type 0} (E : A → A → Bool) → ((a b : A) → Decides (E a b) (a ≡ b))
    → IsEquivalence E
equivalence E d = record {
  refl = λ a. (d a a).1 refl;
  symm = λ a b. same_from_decides _ _ (d a b) (λ e. sym ((d b a).0 e), λ e. (d b a).1 (sym e));
  congr = λ a b c e. ap (λ x. E x c) ((d a b).0 e);
}

pub key_eq_equiv : IsEquivalence key_eq
key_eq_equiv = equivalence key_eq key_eq_decides

pub value_eq_equiv : IsEquivalence value_eq
value_eq_equiv = equivalence value_eq value_eq_decides

pub type_eq_equiv : IsEquivalence type_eq
type_eq_equiv = equivalence type_eq type_eq_decides
