-- An expression has a node with too many locals in scope exactly if the greatest number in scope is too great.
use Rattle.std.proofs.Common.{arith, nat_lt, ◌≡◌, ◌<◌, ◌≤◌, ◌+◌, ◌-◌, ◌⊎◌, inl, inr, max, ℕ, ℤ, Bool, true, false, Option, Some, None, refl}
use Rattle.std.specs.Option.{option_or}
use Rattle.std.proofs.Math.Nat.{le-max_left, le-max_right, max-le}
use Rattle.std.proofs.lemmas.Bool.Decides.{nat_tests}
use Rattle.cel_tree.specs.Tree.{CelTree, constant, ident, select, call, list_literal, map_literal, comprehension, CelTarget, no_target, target, CelTrees, no_trees, tree, CelTreeEntries, no_tree_entries, tree_entry}
use Rattle.cel_types.specs.Names.{variable_count, variables_of}
use Rattle.cel_types.specs.Typing.{greatest, locals_in, locals_in_each, locals_in_entries, locals_in_target, most_locals}
use Rattle.cel_check.specs.Places.{crowded_here, first_crowded, first_crowded_each, first_crowded_entry, first_crowded_target}

-- ---- no node

here_none : (n : ℕ) (id : ℤ) (inside : Option ℤ) → crowded_here n id inside ≡ None → (n ≤ most_locals) × (inside ≡ None)
here_none n id inside none = at (nat_lt most_locals n) refl
  where
    at : (b : Bool) → nat_lt most_locals n ≡ b → (n ≤ most_locals) × (inside ≡ None)
    at true is = let clash : Some id ≡ None = rw is at none in absurd cc
    at false is = (grind (arith, nat_tests), rw is at none)

or_none : (x y : Option ℤ) → option_or x y ≡ None → (x ≡ None) × (y ≡ None)
or_none None y none = (refl, none)
or_none (Some id) y none = let clash : Some id ≡ None = none in absurd cc

-- what is at most as great with this much more
sum_of : (n a b : ℕ) → n ≤ most_locals → n + a ≤ most_locals → n + b ≤ most_locals → n + max a b ≤ most_locals
sum_of n a b few left right =
    let most : max a b ≤ most_locals - n = max-le {k = most_locals - n} (omega arith) (omega arith) in
    omega (arith, most)

mutual
  pub none_few : (n : ℕ) (t : CelTree) → first_crowded n t ≡ None → n + locals_in t ≤ most_locals
  none_few n (constant id v) none = let l = here_none n id None none in let few = l.0 in omega (arith, few)
  none_few n (ident id name) none = let l = here_none n id None none in let few = l.0 in omega (arith, few)
  none_few n (select id operand field test_only) none =
      none_few n operand (here_none n id (first_crowded n operand) none).1
  none_few n (call id name on args) none =
      let l = here_none n id (option_or (first_crowded_target n on) (first_crowded_each n args)) none in
      let both = or_none (first_crowded_target n on) (first_crowded_each n args) l.1 in
      sum_of n (locals_in_target on) (locals_in_each args) l.0 (none_few_target n on l.0 both.0) (none_few_each n args l.0 both.1)
  none_few n (list_literal id elements) none =
      let l = here_none n id (first_crowded_each n elements) none in none_few_each n elements l.0 l.1
  none_few n (map_literal id entries) none =
      let l = here_none n id (first_crowded_entry n entries) none in none_few_entries n entries l.0 l.1
  none_few n (comprehension id x y acc range init condition step result) none =
      let own = variable_count (variables_of y) + 1 in
      let l = here_none n id
      (option_or (first_crowded n range) (option_or (first_crowded n init)
      (option_or (first_crowded (n + own) condition)
      (option_or (first_crowded (n + own) step) (first_crowded (n + 1) result))))) none in
      let one = or_none (first_crowded n range) _ l.1 in
      let two = or_none (first_crowded n init) _ one.1 in
      let three = or_none (first_crowded (n + own) condition) _ two.1 in
      let four = or_none (first_crowded (n + own) step) (first_crowded (n + 1) result) three.1 in
      let in_condition = none_few (n + own) condition three.0 in
      let in_step = none_few (n + own) step four.0 in
      let in_result = none_few (n + 1) result four.1 in
      sum_of n (locals_in range) _ l.0 (none_few n range one.0)
      (sum_of n (locals_in init) _ l.0 (none_few n init two.0)
      (sum_of n (own + locals_in condition) _ l.0 (omega (arith, in_condition))
      (sum_of n (own + locals_in step) (1 + locals_in result) l.0 (omega (arith, in_step)) (omega (arith, in_result)))))

  none_few_target : (n : ℕ) (on : CelTarget) → n ≤ most_locals → first_crowded_target n on ≡ None
      → n + locals_in_target on ≤ most_locals
  none_few_target n no_target few none = omega (arith, few)
  none_few_target n (target on) few none = none_few n on none

  none_few_each : (n : ℕ) (ts : CelTrees) → n ≤ most_locals → first_crowded_each n ts ≡ None
      → n + locals_in_each ts ≤ most_locals
  none_few_each n no_trees few none = omega (arith, few)
  none_few_each n (tree t ts) few none =
      let both = or_none (first_crowded n t) (first_crowded_each n ts) none in
      sum_of n (locals_in t) (locals_in_each ts) few (none_few n t both.0) (none_few_each n ts few both.1)

  none_few_entries : (n : ℕ) (es : CelTreeEntries) → n ≤ most_locals → first_crowded_entry n es ≡ None
      → n + locals_in_entries es ≤ most_locals
  none_few_entries n no_tree_entries few none = omega (arith, few)
  none_few_entries n (tree_entry id key value es) few none =
      let one = or_none (first_crowded n key) (option_or (first_crowded n value) (first_crowded_entry n es)) none in
      let two = or_none (first_crowded n value) (first_crowded_entry n es) one.1 in
      sum_of n (locals_in key) (max (locals_in value) (locals_in_entries es)) few (none_few n key one.0)
      (sum_of n (locals_in value) (locals_in_entries es) few (none_few n value two.0) (none_few_entries n es few two.1))

-- ---- some node

here_some : (n : ℕ) (id found : ℤ) (inside : Option ℤ) → crowded_here n id inside ≡ Some found
    → (most_locals < n) ⊎ (inside ≡ Some found)
here_some n id found inside is = at (nat_lt most_locals n) refl
  where
    at : (b : Bool) → nat_lt most_locals n ≡ b → (most_locals < n) ⊎ (inside ≡ Some found)
    at true many = inl (grind (arith, nat_tests))
    at false few = inr (rw few at is)

or_some : (x y : Option ℤ) (found : ℤ) → option_or x y ≡ Some found → (x ≡ Some found) ⊎ (y ≡ Some found)
or_some None y found is = inr is
or_some (Some id) y found is = inl is

-- what is too great stays so with the greater of two
left_of : (n a b : ℕ) → most_locals < n + a → most_locals < n + max a b
left_of n a b many = let most = le-max_left a b in omega (arith, most, many)

right_of : (n a b : ℕ) → most_locals < n + b → most_locals < n + max a b
right_of n a b many = let most = le-max_right a b in omega (arith, most, many)

-- too many in scope around are too many with those inside
more : (n a : ℕ) → most_locals < n → most_locals < n + a
more n a many = omega (arith, many)

-- the same of a comprehension's parts but its range
some_in_loop : (n own : ℕ) (init condition step result : CelTree) (found : ℤ)
    → (first_crowded n init ≡ Some found → most_locals < n + locals_in init)
    → (first_crowded (n + own) condition ≡ Some found → most_locals < n + own + locals_in condition)
    → (first_crowded (n + own) step ≡ Some found → most_locals < n + own + locals_in step)
    → (first_crowded (n + 1) result ≡ Some found → most_locals < n + 1 + locals_in result)
    → option_or (first_crowded n init) (option_or (first_crowded (n + own) condition)
    (option_or (first_crowded (n + own) step) (first_crowded (n + 1) result))) ≡ Some found
    → most_locals < n + max (locals_in init) (max (own + locals_in condition)
    (max (own + locals_in step) (1 + locals_in result)))
some_in_loop n own init condition step result found of_init of_condition of_step of_result is =
    elim (or_some (first_crowded n init) _ found is) [
      | inl one ↦ left_of n (locals_in init) _ (of_init one)
      | inr others ↦ right_of n (locals_in init) _ (elim (or_some (first_crowded (n + own) condition) _ found others) [
        | inl two ↦ left_of n (own + locals_in condition) _ (let many = of_condition two in omega (arith, many))
        | inr last ↦ right_of n (own + locals_in condition) _
            (elim (or_some (first_crowded (n + own) step) (first_crowded (n + 1) result) found last) [
              | inl three ↦ left_of n (own + locals_in step) (1 + locals_in result)
                  (let many = of_step three in omega (arith, many))
              | inr four ↦ right_of n (own + locals_in step) (1 + locals_in result)
                  (let many = of_result four in omega (arith, many))
            ])
      ])
    ]

mutual
  pub some_many : (n : ℕ) (t : CelTree) (found : ℤ) → first_crowded n t ≡ Some found → most_locals < n + locals_in t
  some_many n (constant id v) found is = elim (here_some n id found None is) [
    | inl many ↦ more n 0 many
    | inr inside ↦ (let clash : None ≡ Some found = inside in absurd cc)
  ]
  some_many n (ident id name) found is = elim (here_some n id found None is) [
    | inl many ↦ more n 0 many
    | inr inside ↦ (let clash : None ≡ Some found = inside in absurd cc)
  ]
  some_many n (select id operand field test_only) found is = elim (here_some n id found (first_crowded n operand) is) [
    | inl many ↦ more n (locals_in operand) many
    | inr inside ↦ some_many n operand found inside
  ]
  some_many n (call id name on args) found is =
      elim (here_some n id found (option_or (first_crowded_target n on) (first_crowded_each n args)) is) [
        | inl many ↦ more n (max (locals_in_target on) (locals_in_each args)) many
        | inr inside ↦ elim (or_some (first_crowded_target n on) (first_crowded_each n args) found inside) [
          | inl one ↦ left_of n (locals_in_target on) (locals_in_each args) (some_many_target n on found one)
          | inr two ↦ right_of n (locals_in_target on) (locals_in_each args) (some_many_each n args found two)
        ]
      ]
  some_many n (list_literal id elements) found is = elim (here_some n id found (first_crowded_each n elements) is) [
    | inl many ↦ more n (locals_in_each elements) many
    | inr inside ↦ some_many_each n elements found inside
  ]
  some_many n (map_literal id entries) found is = elim (here_some n id found (first_crowded_entry n entries) is) [
    | inl many ↦ more n (locals_in_entries entries) many
    | inr inside ↦ some_many_entries n entries found inside
  ]
  some_many n (comprehension id x y acc range init condition step result) found is =
      elim (here_some n id found
      (option_or (first_crowded n range) (option_or (first_crowded n init)
      (option_or (first_crowded (n + (variable_count (variables_of y) + 1)) condition)
      (option_or (first_crowded (n + (variable_count (variables_of y) + 1)) step) (first_crowded (n + 1) result))))) is) [
        | inl many ↦ more n (locals_in (comprehension id x y acc range init condition step result)) many
        | inr inside ↦ elim (or_some (first_crowded n range) _ found inside) [
          | inl one ↦ left_of n (locals_in range) _ (some_many n range found one)
          | inr others ↦ right_of n (locals_in range) _ (some_in_loop n (variable_count (variables_of y) + 1) init condition step
              result found (λ first. some_many n init found first)
              (λ first. some_many (n + (variable_count (variables_of y) + 1)) condition found first)
              (λ first. some_many (n + (variable_count (variables_of y) + 1)) step found first)
              (λ first. some_many (n + 1) result found first) others)
        ]
      ]

  some_many_target : (n : ℕ) (on : CelTarget) (found : ℤ) → first_crowded_target n on ≡ Some found
      → most_locals < n + locals_in_target on
  some_many_target n no_target found is = (let clash : None ≡ Some found = is in absurd cc)
  some_many_target n (target on) found is = some_many n on found is

  some_many_each : (n : ℕ) (ts : CelTrees) (found : ℤ) → first_crowded_each n ts ≡ Some found
      → most_locals < n + locals_in_each ts
  some_many_each n no_trees found is = (let clash : None ≡ Some found = is in absurd cc)
  some_many_each n (tree t ts) found is = elim (or_some (first_crowded n t) (first_crowded_each n ts) found is) [
    | inl one ↦ left_of n (locals_in t) (locals_in_each ts) (some_many n t found one)
    | inr two ↦ right_of n (locals_in t) (locals_in_each ts) (some_many_each n ts found two)
  ]

  some_many_entries : (n : ℕ) (es : CelTreeEntries) (found : ℤ) → first_crowded_entry n es ≡ Some found
      → most_locals < n + locals_in_entries es
  some_many_entries n no_tree_entries found is = (let clash : None ≡ Some found = is in absurd cc)
  some_many_entries n (tree_entry id key value es) found is =
      elim (or_some (first_crowded n key) (option_or (first_crowded n value) (first_crowded_entry n es)) found is) [
        | inl one ↦ left_of n (locals_in key) (max (locals_in value) (locals_in_entries es)) (some_many n key found one)
        | inr others ↦ right_of n (locals_in key) (max (locals_in value) (locals_in_entries es))
            (elim (or_some (first_crowded n value) (first_crowded_entry n es) found others) [
              | inl two ↦ left_of n (locals_in value) (locals_in_entries es) (some_many n value found two)
              | inr three ↦ right_of n (locals_in value) (locals_in_entries es) (some_many_entries n es found three)
            ])
      ]
