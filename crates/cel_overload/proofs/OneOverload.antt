-- A call is one overload, or none and has one fault.
use Rattle.std.proofs.Common.{◌≡◌, ◌⊎◌, inl, inr, ℕ, Bool, List, Option, Some, None, refl, sym, ap, ◌∙◌}
use Rattle.std.proofs.lemmas.Option.{none-some}
use Rattle.cel_value.specs.Types.{ValueType}
use Rattle.cel_overload.specs.Functions.{function_named}
use Rattle.cel_overload.specs.Overloads.{CallFault, IsCall, IsOverload}
use Rattle.cel_overload.specs.private.Choosing.{Choice, choose}
use Rattle.cel_overload.specs.declared.function.Function.{Function}
use Rattle.cel_overload.specs.declared.overload.Overload.{Overload}
use Rattle.cel_overload.specs.declared.overload.OverloadFault.{OverloadFault}
use Rattle.cel_overload.specs.declared.overload.OverloadFault.TheVariants.{UnknownName, NoOverload}
use Rattle.cel_overload.proofs.Choosing.{chosen, chosen_fits}

one_function : (o : Option Function) (f g : Function) → o ≡ Some f → o ≡ Some g → f ≡ g
one_function o f g d e = let k : Some f ≡ Some g = sym d ∙ e in cc

same_parts : (o p : Overload) (r s : ValueType)
    → ◌≡◌ {A = Choice} (Some (o, r)) (Some (p, s)) → (o ≡ p) × (r ≡ s)
same_parts o p r s e =
    let both : ◌≡◌ {A = Overload × ValueType} (o, r) (p, s) = cc in (ap (λ x. x.0) both, ap (λ x. x.1) both)

pub call_unique : (name : List ℕ) (target : Bool) (ts : List ValueType) (o p : Overload)
    (r s : ValueType) → IsCall name target ts o r → IsCall name target ts p s → (o ≡ p) × (r ≡ s)
call_unique name target ts o p r s g h =
    let f = one_function (function_named name) g.0 h.0 g.1 h.1 in
    same_parts o p r s (sym (chosen g.0 target ts o r g.2)
    ∙ ap (λ f. choose f target ts) f ∙ chosen h.0 target ts p s h.2)

-- where nothing is chosen there is no overload
pub unchosen : (f : Function) (target : Bool) (ts : List ValueType) → choose f target ts ≡ None
    → (o : Overload) (r : ValueType) → IsOverload f target ts o r → ⊥
unchosen f target ts e o r h = none-some (o, r) (sym e ∙ chosen f target ts o r h)

pub call_total : (name : List ℕ) (target : Bool) (ts : List ValueType)
    → ((o : Overload) × (r : ValueType) × IsCall name target ts o r)
    ⊎ ((e : OverloadFault) × CallFault name target ts e)
call_total name target ts = at (function_named name) refl
  where
    chosen_or_not : (f : Function) → function_named name ≡ Some f → (c : Choice)
        → choose f target ts ≡ c
        → ((o : Overload) × (r : ValueType) × IsCall name target ts o r)
        ⊎ ((e : OverloadFault) × CallFault name target ts e)
    chosen_or_not f named (Some (o, r)) e =
        inl (o, r, (f, named, chosen_fits f target ts o r e))
    chosen_or_not f named None e = inr (NoOverload, (f, named, unchosen f target ts e))

    at : (o : Option Function) → function_named name ≡ o
        → ((o : Overload) × (r : ValueType) × IsCall name target ts o r)
        ⊎ ((e : OverloadFault) × CallFault name target ts e)
    at None e = inr (UnknownName, e)
    at (Some f) e = chosen_or_not f e (choose f target ts) refl

pub call_disjoint : (name : List ℕ) (target : Bool) (ts : List ValueType) (o : Overload)
    (r : ValueType) (e : OverloadFault) → IsCall name target ts o r → CallFault name target ts e → ⊥
call_disjoint name target ts o r UnknownName g h = none-some g.0 (sym h ∙ g.1)
call_disjoint name target ts o r NoOverload g h =
    let f = one_function (function_named name) g.0 h.0 g.1 h.1 in
    h.2 o r (rw (sym f) (g.2))

pub fault_unique : (name : List ℕ) (target : Bool) (ts : List ValueType) (d e : OverloadFault)
    → CallFault name target ts d → CallFault name target ts e → d ≡ e
fault_unique name target ts UnknownName UnknownName g h = refl
fault_unique name target ts NoOverload NoOverload g h = refl
fault_unique name target ts UnknownName NoOverload g h = absurd (none-some h.0 (sym g ∙ h.1))
fault_unique name target ts NoOverload UnknownName g h = absurd (none-some g.0 (sym h ∙ g.1))
