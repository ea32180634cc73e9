-- A configuration's value has one reading, and one that is at fault is none.
use Rattle.std.proofs.Common.{◌≡◌, inl, inr, ℕ, zero, suc, ◌+◌, ◌<◌, ◌++◌, List, [], ◌∷◌, Option, Some, None, Result, Ok, Err, OnErr, refl, sym, ◌∙◌, ap, length, map, take, get_or, arith, codes}
use Rattle.std.specs.List.{AllByRecursion, AllZip}
use Rattle.cost_bound.proofs.BudgetLaws.{same_budget}
use Rattle.ads.proofs.Lists.{zip_more}
use Rattle.ads.specs.Config.{ConfigValue, FilterIsAtFault, FilterValue, IsAtFault, IsFilter, IsSound}
use Rattle.ads.specs.declared.config.ConfigFault.{ConfigFault}
use Rattle.ads.specs.declared.config.Filter.{Filter}
use Rattle.ads.specs.Views.{filter_view, filters_view}
use Rattle.attributes.specs.Limits.{AreLimits, LimitsValue, declared, largest, limit_of, name_of}
use Rattle.attributes.specs.declared.limits.Limit.{Limit}
use Rattle.serde_json.specs.Data.{Data, Items, array, string}
use Rattle.serde_json.specs.Find.{get}
use Rattle.serde_json.specs.View.{items_of, items_view, view}
use Rattle.serde_json.specs.declared.value.Value.{Value}
use Rattle.proto_wire.specs.Merge.{SomeOf}
use Rattle.proxy_replay.specs.Configuration.{AreDeclared, DeclaresLimits, IsConfig, IsFilterObject, limit_names}
use Rattle.program_texts.specs.Facts.{IsNumber, BothOrNone}
use Rattle.program_texts.specs.Members.{HasOnly, IsNumberOr, values}

-- what holds of one fails where it fails of each
some_all : {A : Type 0} (P Q : A → Type 0) → ((x : A) → P x → Q x → ⊥) → (xs : List A) → SomeOf P xs
    → AllByRecursion Q xs → ⊥
some_all P Q clash [] some all = some
some_all P Q clash (x ∷ xs) (inl here) all = clash x here all.0
some_all P Q clash (x ∷ xs) (inr there) all = some_all P Q clash xs there all.1

-- a filter at fault is none
filter_at_fault : (e : ConfigFault) (f : FilterValue) → FilterIsAtFault f e → IsFilter f → ⊥
filter_at_fault e f fault is = elim fault [
  | FilterIsAtFault.bad_name not same ↦ not is.0
  | FilterIsAtFault.bad_budget not same ↦ not is.1
]

-- a configuration at fault is none
pub at_fault : (c : ConfigValue) (e : ConfigFault) → IsAtFault c e → IsSound c → ⊥
at_fault c e fault sound = elim fault [
  | IsAtFault.no_filter none same ↦ sound.some none
  | IsAtFault.too_many_filters many same ↦ let few = sound.few in omega (arith, many, few)
  | IsAtFault.doubled_name doubled same ↦ sound.distinct doubled
  | IsAtFault.bad_filter some ↦ some_all (λ f. FilterIsAtFault f e) IsFilter (filter_at_fault e) c.filters some sound.filters
  | IsAtFault.bad_node long same ↦ let short = sound.node in omega (arith, long, short)
  | IsAtFault.bad_cluster long same ↦ let short = sound.cluster in omega (arith, long, short)
]

-- a member gives one number
both_unique : (d : Option Data) (m n : Option ℕ) → BothOrNone IsNumber d m → BothOrNone IsNumber d n → m ≡ n
both_unique None None None a b = refl
both_unique None None (Some n) a b = absurd b
both_unique None (Some m) n a b = absurd a
both_unique (Some d) None n a b = absurd a
both_unique (Some d) (Some m) None a b = absurd b
both_unique (Some d) (Some m) (Some n) a b = cc

-- and means one
pub number_one : (absent : ℕ) (d : Option Data) (m n : ℕ) → IsNumberOr absent d m → IsNumberOr absent d n → m ≡ n
number_one absent d m n a b =
    let same : a.0 ≡ b.0 = both_unique d a.0 b.0 a.1 b.1 in
    let first = a.2 in let second = b.2 in cc

-- an object is one filter
filter_one : (d : Data) (f g : FilterValue) → IsFilterObject d f → IsFilterObject d g → f ≡ g
filter_one d f g a b =
    let name : f.name ≡ g.name = (let first = a.name in let second = b.name in cc) in
    let steps : f.budget.steps ≡ g.budget.steps = number_one _ _ _ _ a.budget b.budget in
    let visits : f.budget.visits ≡ g.budget.visits = number_one _ _ _ _ a.visits b.visits in
    let budget : f.budget ≡ g.budget = same_budget f.budget g.budget steps visits in
    rw (name, budget) refl

-- values are one list of filters
filters_one : (ds : List Data) (fs gs : List FilterValue) → AllZip IsFilterObject ds fs → AllZip IsFilterObject ds gs
    → fs ≡ gs
filters_one [] [] [] a b = refl
filters_one [] [] (g ∷ gs) a b = absurd b
filters_one [] (f ∷ fs) gs a b = absurd a
filters_one (d ∷ ds) [] gs a b = absurd a
filters_one (d ∷ ds) (f ∷ fs) [] a b = absurd b
filters_one (d ∷ ds) (f ∷ fs) (g ∷ gs) a b =
    let first : f ≡ g = filter_one d f g a.0 b.0 in
    let rest : fs ≡ gs = filters_one ds fs gs a.1 b.1 in
    rw (first, rest) refl

-- limits that declare the same are the same
limits_same : (l m : LimitsValue) → ((limit : Limit) → limit_of limit l ≡ limit_of limit m) → l ≡ m
limits_same l m same =
    let e1 : l.fields ≡ m.fields = same Limit.Fields in
    let e2 : l.name ≡ m.name = same Limit.Name in
    let e3 : l.value ≡ m.value = same Limit.Value in
    let e4 : l.method ≡ m.method = same Limit.Method in
    let e5 : l.target ≡ m.target = same Limit.Target in
    let e6 : l.text ≡ m.text = same Limit.Text in
    rw (e1, e2, e3, e4, e5, e6) refl

-- a member declares one value of limits
limits_one : (d : Option Data) (l m : LimitsValue) → AreDeclared d l → AreDeclared d m → l ≡ m
limits_one None l m a b = a ∙ sym b
limits_one (Some d) l m a b = limits_same l m (λ limit. number_one _ _ _ _ (a.each limit) (b.each limit))

-- the limits of six members that are read one by one
module _ (d : Data) (fields name value method target text : ℕ)
    (is_fields : IsNumberOr 64 (get (codes "fields") d) fields) (is_name : IsNumberOr 128 (get (codes "name") d) name)
    (is_value : IsNumberOr 4096 (get (codes "value") d) value) (is_method : IsNumberOr 32 (get (codes "method") d) method)
    (is_target : IsNumberOr 4096 (get (codes "target") d) target) (is_text : IsNumberOr 1024 (get (codes "text") d) text) where
  each_read : (limit : Limit)
      → IsNumberOr (limit_of limit largest) (get (name_of limit) d) (limit_of limit (declared fields name value method target text))
  each_read Limit.Fields = is_fields
  each_read Limit.Name = is_name
  each_read Limit.Value = is_value
  each_read Limit.Method = is_method
  each_read Limit.Target = is_target
  each_read Limit.Text = is_text

  pub declares : HasOnly limit_names d → (l : LimitsValue)
      → (l ≡ declared fields name value method target text) × AreLimits l → DeclaresLimits d l
  declares names l (same, sound) = rw same (record { names = names; each = each_read; sound = rw same at sound })

  -- where these are no limits, none are declared
  pub declares_none : (AreLimits (declared fields name value method target text) → ⊥) → (l : LimitsValue)
      → DeclaresLimits d l → ⊥
  declares_none not l reported =
      let same : declared fields name value method target text ≡ l =
      limits_same (declared fields name value method target text) l
      (λ limit. number_one _ _ _ _ (each_read limit) (reported.each limit)) in
      not (rw same reported.sound)

-- the values of a list
listed : (ds : List Data) → values (items_of ds) ≡ ds
listed [] = refl
listed (d ∷ ds) = ap (λ rest. d ∷ rest) (listed ds)

-- where values are filters, each is one
pub object_at : (vs : List Value) (fs : List FilterValue) (i : ℕ) (d : Value) → i < length vs
    → AllZip IsFilterObject (values (items_view vs)) fs → (f : FilterValue) × IsFilterObject (view (get_or vs i d)) f
object_at [] fs i d below all = absurd (omega arith)
object_at (v ∷ vs) [] i d below all = absurd all
object_at (v ∷ vs) (f ∷ fs) zero d below all = (f, all.0)
object_at (v ∷ vs) (f ∷ fs) (suc i) d below all = object_at vs fs i d (omega arith) all.1

-- one filter more
pub filters_more : (vs : List Value) (i : ℕ) (d : Value) (items now : List Filter) (x : Filter) → i < length vs
    → AllZip IsFilterObject (values (items_view (take i vs))) (filters_view items)
    → IsFilterObject (view (get_or vs i d)) (filter_view x) → now ≡ items ++ x ∷ []
    → AllZip IsFilterObject (values (items_view (take (i + 1) vs))) (filters_view now)
filters_more vs i d items now x within so_far is pushed =
    rw (listed (map view (take (i + 1) vs)))
    (zip_more IsFilterObject view filter_view vs i d items now x within
    (rw (listed (map view (take i vs))) at so_far) is pushed)

-- a value is one configuration, so where these parts are not sound it is none
pub parts_sound : (d : Data) (node cluster : List ℕ) (items : Items) (fs : List FilterValue) (l : LimitsValue)
    → get (codes "node") d ≡ Some (string node) → get (codes "cluster") d ≡ Some (string cluster)
    → get (codes "filters") d ≡ Some (array items) → AllZip IsFilterObject (values items) fs
    → AreDeclared (get (codes "limits") d) l → (c : ConfigValue) → IsConfig d c
    → IsSound (record { node = node; cluster = cluster; filters = fs; limits = l })
parts_sound d node cluster items fs l is_node is_cluster is_items are_filters are_limits c reported =
    let e1 : node ≡ c.node = (let other = reported.node in cc) in
    let e2 : cluster ≡ c.cluster = (let other = reported.cluster in cc) in
    let same : reported.items ≡ items = (let other = reported.listed in cc) in
    let e3 : fs ≡ c.filters = filters_one (values items) fs c.filters are_filters (rw same at reported.filters) in
    let e4 : l ≡ c.limits = limits_one _ l c.limits are_limits reported.limits in
    rw (e1, e2, e3, e4) reported.sound

-- what a failing step says
pub on_err_by : {T E : Type 0} {P Q : Type 0} (r : Result T E) → (P → Q) → OnErr r P → OnErr r Q
on_err_by (Ok x) f h = h
on_err_by (Err e) f h = f h
