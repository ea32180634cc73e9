-- What is given takes its place from the last to the first.
use Rattle.std.proofs.Common.{◌≡◌, ℕ, ◌<◌, ◌≤◌, true, false, true≢false, is_some, option_map, Option, Some, None, List, [], ◌∷◌, ◌++◌, length, refl, ap, sym, ◌∙◌, arith, set, length-set}
use Rattle.std.proofs.lemmas.List.{map-append, map-set, length-append, length-map}
use Rattle.ads.specs.Views.{admitted_view}
use Rattle.rbac_policy.specs.declared.filter.Admitted.{Admitted}
use Rattle.ads.specs.Views.{policies_view}
use Rattle.ads.specs.Answer.{AdmittedValue}
use Rattle.ads.specs.Answer.{replaced}

pub replaced_nothing : (olds : List (Option AdmittedValue)) → replaced olds [] ≡ olds
replaced_nothing [] = refl
replaced_nothing (old ∷ olds) = refl

-- the last of what is given is nothing
pub replaced_none : (olds given : List (Option AdmittedValue)) → length given < length olds
    → replaced olds (given ++ None ∷ []) ≡ replaced olds given
replaced_none [] given within = absurd (omega arith)
replaced_none (old ∷ olds) [] within = ap (λ xs. old ∷ xs) (replaced_nothing olds)
replaced_none (old ∷ olds) (Some new ∷ given) within =
    ap (λ xs. Some new ∷ xs) (replaced_none olds given (omega arith))
replaced_none (old ∷ olds) (None ∷ given) within =
    ap (λ xs. old ∷ xs) (replaced_none olds given (omega arith))

-- the last of what is given is put in its place
pub replaced_last : (olds given : List (Option AdmittedValue)) (f : AdmittedValue) → length given < length olds
    → replaced olds (given ++ Some f ∷ []) ≡ replaced (set olds (length given) (Some f)) given
replaced_last [] given f within = absurd (omega arith)
replaced_last (old ∷ olds) [] f within = ap (λ xs. Some f ∷ xs) (replaced_nothing olds)
replaced_last (old ∷ olds) (Some new ∷ given) f within =
    ap (λ xs. Some new ∷ xs) (replaced_last olds given f (omega arith))
replaced_last (old ∷ olds) (None ∷ given) f within =
    ap (λ xs. old ∷ xs) (replaced_last olds given f (omega arith))

-- what is given twice, one after the other
pub replaced_twice : (olds given later : List (Option AdmittedValue))
    → replaced olds (replaced given later) ≡ replaced (replaced olds given) later
replaced_twice [] given later = refl
replaced_twice (old ∷ olds) [] later = refl
replaced_twice (old ∷ olds) (Some new ∷ given) [] = refl
replaced_twice (old ∷ olds) (None ∷ given) [] = refl
replaced_twice (old ∷ olds) (Some new ∷ given) (Some newer ∷ later) =
    ap (λ xs. Some newer ∷ xs) (replaced_twice olds given later)
replaced_twice (old ∷ olds) (Some new ∷ given) (None ∷ later) =
    ap (λ xs. Some new ∷ xs) (replaced_twice olds given later)
replaced_twice (old ∷ olds) (None ∷ given) (Some newer ∷ later) =
    ap (λ xs. Some newer ∷ xs) (replaced_twice olds given later)
replaced_twice (old ∷ olds) (None ∷ given) (None ∷ later) =
    ap (λ xs. old ∷ xs) (replaced_twice olds given later)

-- a step that puts nothing, and one that puts the last of what is given in its place
pub place_none : (policies given before : List (Option Admitted)) (last : Option Admitted) (all : List (Option AdmittedValue))
    → replaced (policies_view policies) (policies_view before) ≡ all
    → length before ≤ length policies → before ≡ given ++ last ∷ [] → false ≡ is_some last
    → (replaced (policies_view policies) (policies_view given) ≡ all) × (length given ≤ length policies)
place_none policies given before None all so_far within whole is =
    let few : length given < length policies = omega (arith, length-append given (None ∷ []), ap length whole) in
    let seen : policies_view before ≡ policies_view given ++ None ∷ [] =
    ap policies_view whole ∙ map-append _ given (None ∷ []) in
    let less : length (policies_view given) < length (policies_view policies) =
    rw (length-map given (option_map admitted_view), length-map policies (option_map admitted_view)) few in (
      sym (replaced_none (policies_view policies) (policies_view given) less)
          ∙ ap (replaced (policies_view policies)) (sym seen) ∙ so_far,
      omega arith,
    )
place_none policies given before (Some a) all so_far within whole is = absurd (true≢false (sym is))

pub place_some : (policies given before : List (Option Admitted)) (last : Option Admitted) (all : List (Option AdmittedValue))
    (k : ℕ) → k ≡ length given
    → replaced (policies_view policies) (policies_view before) ≡ all
    → length before ≤ length policies → before ≡ given ++ last ∷ [] → true ≡ is_some last
    → (replaced (policies_view (set policies k last)) (policies_view given) ≡ all)
    × (length given ≤ length (set policies k last))
    × (length (set policies k last) ≡ length policies)
place_some policies given before None all k at so_far within whole is = absurd (true≢false is)
place_some policies given before (Some a) all k at so_far within whole is =
    let few : length given < length policies = omega (arith, length-append given (Some a ∷ []), ap length whole) in
    let seen : policies_view before ≡ policies_view given ++ Some (admitted_view a) ∷ [] =
    ap policies_view whole ∙ map-append _ given (Some a ∷ []) in
    let less : length (policies_view given) < length (policies_view policies) =
    rw (length-map given (option_map admitted_view), length-map policies (option_map admitted_view)) few in
    let put : policies_view (set policies k (Some a))
    ≡ set (policies_view policies) (length (policies_view given)) (Some (admitted_view a)) =
    rw (length-map given (option_map admitted_view), at)
    (map-set (option_map admitted_view) policies (length given) (Some a)) in (
      ap (λ xs. replaced xs (policies_view given)) put
          ∙ sym (replaced_last (policies_view policies) (policies_view given) (admitted_view a) less)
          ∙ ap (replaced (policies_view policies)) (sym seen) ∙ so_far,
      rw (length-set policies k (Some a)) (omega arith),
      length-set policies k (Some a),
    )

-- a list without elements
pub no_length : {A : Type 0} (xs : List A) → length xs ≡ 0 → xs ≡ []
no_length [] is = refl
no_length (x ∷ xs) is = absurd (omega arith)
