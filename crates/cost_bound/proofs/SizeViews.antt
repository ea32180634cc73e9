-- How sizes are seen, constructor by constructor.
use Rattle.std.proofs.Common.{◌≡◌, ℕ, zero, suc, refl, rules}
use Rattle.std.specs.declared.rc.Rc.{Rc}
use Rattle.std.specs.declared.sync.Arc.{Arc}
use Rattle.std.specs.declared.alloc.Global.{Global}
use Rattle.cel_costs.specs.Sizes.{Flat, Text, Many, Table, least}
use Rattle.cel_value.specs.Types.{type_view}
use Rattle.cel_value.specs.declared.cel_type.CelType.{CelType}
use Rattle.cost_bound.specs.private.SizeView.{least_of_keys, size_view}
use Rattle.cost_bound.specs.declared.size.TableParts.{TableParts}
use Rattle.cost_bound.specs.declared.size.ValueSize.{ValueSize, Flat as FlatSize, Text as TextSize, Many as ManySize, Table as TableSize, NoItems as NoItemsSize, NoEntries as NoEntriesSize, the_lemmas}

pub view_flat : size_view FlatSize ≡ Flat
view_flat = search (rules, the_lemmas)

pub view_text : (n : ℕ) → size_view (TextSize n) ≡ Text n
view_text n = search (rules, the_lemmas)

pub view_many : (n : ℕ) (e : Rc ValueSize Global) → size_view (ManySize n e) ≡ Many n (size_view e.value)
view_many n e = search (rules, the_lemmas)

pub view_table : (n : ℕ) (p : Rc TableParts Global) → size_view (TableSize n p)
    ≡ Table n (size_view p.value.keys) (size_view p.value.values)
view_table n p = search (rules, the_lemmas)

pub view_no_items : (t : Arc CelType Global) → size_view (NoItemsSize t) ≡ Many 0 (least (type_view t.value))
view_no_items t = search (rules, the_lemmas)

pub view_no_entries : (k : ℕ) (t : Arc CelType Global) → size_view (NoEntriesSize k t)
    ≡ Table 0 (least_of_keys k) (least (type_view t.value))
view_no_entries k t = search (rules, the_lemmas)

-- keys of any other number are texts
pub keys_of_texts : (n : ℕ) → (n ≡ 0 → ⊥) → Text 0 ≡ least_of_keys n
keys_of_texts zero h = absurd (h refl)
keys_of_texts (suc n) h = refl
