-- What a range has, which may be none, and how far its items go.
use Rattle.std.proofs.Common.{◌≡◌, ◌≢◌, ℕ, zero, suc, ◌<◌, Option, Some, None, IfSome, refl, ap, arith}
use Rattle.cel_value.specs.Items.{item_at, joined_items}
use Rattle.cel_value.specs.Masses.{item_count}
use Rattle.cel_value.specs.Values.{CelValue, CelValues, no_items, item}

-- the elements, if there are any
abbrev pub ranged : Option CelValues → CelValues
ranged None = no_items
ranged (Some vs) = vs

pub is_ranged : (o : Option CelValues) → o ≢ None → o ≡ Some (ranged o)
is_ranged None some = absurd (some refl)
is_ranged (Some vs) some = refl

pub at_ranged : (o : Option CelValues) (P : CelValues → Type 0) → o ≢ None → IfSome o P → P (ranged o)
at_ranged None P some h = absurd (some refl)
at_ranged (Some vs) P some h = h

pub joined_none : (vs : CelValues) → joined_items vs no_items ≡ vs
joined_none no_items = refl
joined_none (item v vs) = ap (item v) (joined_none vs)

pub some_left : (vs : CelValues) (i : ℕ) (v : CelValue) → Some v ≡ item_at vs i → i < item_count vs
some_left no_items i v at = cc
some_left (item w vs) zero v at = omega arith
some_left (item w vs) (suc i) v at = let less = some_left vs i v at in omega arith
