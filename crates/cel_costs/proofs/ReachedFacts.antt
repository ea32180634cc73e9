-- What is reached of an expression worked out by hand, and that a loop's size and cost are those at the
-- sizes with which its parts are reached.
use Rattle.std.proofs.Common.{◌≡◌, ◌⊎◌, ◌+◌, ◌*◌, ◌^◌, max, ℕ, zero, suc, pos, inl, inr, true, false, List, [], ◌∷◌, ◌++◌, Option, Some, None, refl, sym, ap, ◌∙◌, arith}
use Rattle.std.proofs.Math.Nat.{mul_assoc, pow-suc}
use Rattle.std.proofs.lemmas.Option.{none-some}
use Rattle.std.specs.Option.{option_and_then}
use Rattle.std.specs.Prelude.{codes}
use Rattle.attributes.specs.Limits.{LimitsValue, largest}
use Rattle.attributes.specs.Request.{RequestValue}
use Rattle.cel_value.specs.Types.{ValueType, bool_type, int_type, list_type, text_type}
use Rattle.cel_value.specs.Values.{CelAnswer, CelValue, bool, fails, int, item, list, no_items, text, value}
use Rattle.cel_ops.specs.declared.operation.Operation.TheVariants as operations
use Rattle.cel_overload.specs.declared.overload.Overload.TheVariants as overloads
use Rattle.cel_types.specs.Elaborated.{TypedTree, no_typed, typed, typed_call, typed_constant, typed_list, typed_local, typed_loop}
use Rattle.cel_types.specs.Meaning.{fold, turns_of}
use Rattle.cel_types.specs.Meaning as cel
use Rattle.cel_types.specs.TypedMeaning.{typed_answer}
use Rattle.cel_types.specs.declared.typed.Variables.{Variables}
use Rattle.cel_types.specs.declared.typed.Variables.TheVariants as variables
use Rattle.cel_costs.specs.Costs.{concat_size, cost_of, grown, size_of, turns_cost, variable_sizes}
use Rattle.cel_costs.specs.Reaches.{Gathers, Reaches, ended, gathered_size, inside, more, none, turn, whole}
use Rattle.cel_costs.specs.Sizes.{Flat, Size, Text, join, most_of}

-- ---- `"a"`, joined with itself at each turn over `[0, 1]`

abbrev number : ℕ → CelValue
number n = int (pos n)

abbrev range : TypedTree
range = typed_list (list_type int_type)
    (typed (typed_constant int_type (number 0)) (typed (typed_constant int_type (number 1)) no_typed))

abbrev init : TypedTree
init = typed_constant text_type (text (codes "a"))

abbrev condition : TypedTree
condition = typed_constant bool_type (bool true)

abbrev gathered : TypedTree
gathered = typed_local text_type 0

abbrev step : TypedTree
step = typed_call text_type (overloads.Operate operations.Concat) (typed gathered (typed gathered no_typed))

abbrev doubled : TypedTree
doubled = typed_loop text_type variables.One range init condition step gathered

abbrev string : List ℕ → CelAnswer
string cs = value (text cs)

-- the turn with this element
abbrev one : ℕ → List CelAnswer
one n = value (number n) ∷ []

module _ (r : RequestValue) where
  before_first : Gathers variables.One range init step r [] 0 (one 0 ∷ one 1 ∷ []) (string (codes "a"))
  before_first = none (list (item (number 0) (item (number 1) no_items))) _ _ refl refl refl

  before_second : Gathers variables.One range init step r [] 1 (one 1 ∷ []) (string (codes "aa"))
  before_second = more 0 (one 0) _ _ _ before_first refl

  at_last : Gathers variables.One range init step r [] 2 [] (string (codes "aaaa"))
  at_last = more 1 (one 1) _ _ _ before_second refl

  -- the first turn's step
  first_step : Reaches doubled r largest step (value (number 0) ∷ string (codes "a") ∷ [])
      (Flat ∷ Text 1 ∷ [])
  unfolding lib.Utf8.encode
  first_step = turn text_type variables.One range init condition step gathered step [] [] 0 (one 0) _ _
      whole before_first (inr (inl refl))

  -- the second turn's step, and what it joins
  second_step : Reaches doubled r largest step (value (number 1) ∷ string (codes "aa") ∷ [])
      (Flat ∷ Text 2 ∷ [])
  unfolding lib.Utf8.encode
  second_step = turn text_type variables.One range init condition step gathered step [] [] 1 (one 1) _ _
      whole before_second (inr (inl refl))

  second_operand : Reaches doubled r largest gathered (value (number 1) ∷ string (codes "aa") ∷ [])
      (Flat ∷ Text 2 ∷ [])
  second_operand = inside step gathered _ _ second_step (inl refl)

  -- the result
  result : Reaches doubled r largest gathered (string (codes "aaaa") ∷ []) (Text 4 ∷ [])
  unfolding lib.Utf8.encode
  result = ended text_type variables.One range init condition step gathered [] [] 2 [] _ whole at_last

  -- with two variables, the index is reached as well, between the element and the accumulator
  first_of_two : Gathers variables.Two range init step r [] 0
      ((value (number 0) ∷ value (number 0) ∷ []) ∷ (value (number 1) ∷ value (number 1) ∷ []) ∷ [])
      (string (codes "a"))
  first_of_two = none (list (item (number 0) (item (number 1) no_items))) _ _ refl refl refl

  first_step_of_two : Reaches (typed_loop text_type variables.Two range init condition step gathered) r
      largest step (value (number 0) ∷ value (number 0) ∷ string (codes "a") ∷ [])
      (Flat ∷ Flat ∷ Text 1 ∷ [])
  unfolding lib.Utf8.encode
  first_step_of_two = turn text_type variables.Two range init condition step gathered step [] [] 0
      (value (number 0) ∷ value (number 0) ∷ []) _ _ whole first_of_two (inr (inl refl))

-- what is gathered doubles, over whatever range
abbrev next : Variables → (over : Size) → Size → Size
next vars over s = size_of step largest (variable_sizes vars over ++ s ∷ [])

-- the step joins the accumulator with itself, with one variable and with two
next_joins : (vars : Variables) (over s : Size) → next vars over s ≡ concat_size s s
next_joins variables.One over s = refl
next_joins variables.Two over s = refl

powers : (k m : ℕ) → 2 ^ k * (m + m) ≡ 2 ^ suc k * m
powers k m = sym (ap (λ x. x * m) (pow-suc 2 k) ∙ mul_assoc (2 ^ k) 2 m ∙ ap (λ x. 2 ^ k * x) (twice m))
  where
    twice : (n : ℕ) → 2 * n ≡ n + n
    twice n = omega arith

doubles : (vars : Variables) (over : Size) (k m : ℕ) → grown (next vars over) k (Text m) ≡ Text (2 ^ k * m)
doubles vars over zero m = ap Text (omega arith)
doubles vars over (suc k) m =
    ap (λ s. grown (next vars over) k (join (Text m) s)) (next_joins vars over (Text m))
    ∙ ap (λ n. grown (next vars over) k (Text n)) (greater m) ∙ doubles vars over k (m + m)
    ∙ ap Text (powers k m)
  where
    greater : (n : ℕ) → max n (n + n) ≡ n + n
    greater n = omega arith

-- in turn k, counted from 0, the step is reached with 2 to the power of k as the text's length
doubling_accumulator : (vars : Variables) (over : TypedTree) (k : ℕ)
    → gathered_size vars over init step largest [] k ≡ Text (2 ^ k)
unfolding lib.Utf8.encode
doubling_accumulator vars over k = doubles vars (size_of over largest []) k 1 ∙ ap Text (omega arith)

-- ---- a loop's size and cost

-- the last turn may as well be added last
last_turn : (after : Size → Size) (cost : Size → ℕ) (n : ℕ) (s : Size)
    → turns_cost after cost (suc n) s ≡ turns_cost after cost n s + cost (grown after n s)
last_turn after cost zero s = omega arith
last_turn after cost (suc n) s = let others = last_turn after cost n (join s (after s)) in omega arith

module _ (t : ValueType) (vars : Variables) (over begin test turned last : TypedTree) (l : LimitsValue)
    (sizes : List Size) where
  -- what is gathered after a turn, and what the turn costs
  abbrev after : Size → Size
  after s = size_of turned l (variable_sizes vars (size_of over l sizes) ++ s ∷ sizes)

  abbrev cost : Size → ℕ
  cost s = cost_of test l (variable_sizes vars (size_of over l sizes) ++ s ∷ sizes)
      + cost_of turned l (variable_sizes vars (size_of over l sizes) ++ s ∷ sizes) + 4

  -- the sizes with which a turn's parts are reached, and the result
  abbrev turn_sizes : ℕ → List Size
  turn_sizes k = variable_sizes vars (size_of over l sizes)
      ++ gathered_size vars over begin turned l sizes k ∷ sizes

  abbrev end_sizes : List Size
  end_sizes = gathered_size vars over begin turned l sizes (most_of (size_of over l sizes)) ∷ sizes

  -- so many turns
  abbrev turn_costs : ℕ → ℕ
  turn_costs zero = 0
  turn_costs (suc n) =
      turn_costs n + (cost_of test l (turn_sizes n) + cost_of turned l (turn_sizes n) + 4)

  all_turns : (n : ℕ) → turns_cost after cost n (size_of begin l sizes) ≡ turn_costs n
  all_turns zero = refl
  all_turns (suc n) = last_turn after cost n (size_of begin l sizes)
      ∙ ap (λ x. x + cost (grown after n (size_of begin l sizes))) (all_turns n)

  -- the size is that of the result
  loop_size : size_of (typed_loop t vars over begin test turned last) l sizes ≡ size_of last l end_sizes
  loop_size = refl

  -- the cost is the sum of the turns' and of what runs once
  loop_cost : cost_of (typed_loop t vars over begin test turned last) l sizes
      ≡ cost_of over l sizes + (1 + most_of (size_of over l sizes)) + cost_of begin l sizes + 1
      + turn_costs (most_of (size_of over l sizes)) + 1 + cost_of last l end_sizes
  loop_cost = ap (λ x. cost_of over l sizes + (1 + most_of (size_of over l sizes))
      + cost_of begin l sizes + 1 + x + 1 + cost_of last l end_sizes)
      (all_turns (most_of (size_of over l sizes)))

-- ---- what a loop comes to

module _ (r : RequestValue) (ls : List CelAnswer) (vars : Variables)
    (over begin test turned last : TypedTree) (b : CelAnswer) where
  -- the loop ends where its result is reached and comes to this, or where a condition that is reached
  -- does
  record EndsWith : Type 0 where
    pub turns : ℕ
    pub left : List (List CelAnswer)
    pub found : CelAnswer
    pub gathers : Gathers vars over begin turned r ls turns left found
    pub ends : (typed_answer last r (found ∷ ls) ≡ Some b)
        ⊎ ((vs : List CelAnswer) × (others : List (List CelAnswer))
        × (left ≡ vs ∷ others) × (typed_answer test r (vs ++ found ∷ ls) ≡ Some b))

  abbrev go : List (List CelAnswer) → CelAnswer → Option CelAnswer
  go = fold (λ vs x. typed_answer test r (vs ++ x ∷ ls))
      (λ vs x. typed_answer turned r (vs ++ x ∷ ls)) (λ x. typed_answer last r (x ∷ ls))

  turn_ends : (vs : List CelAnswer) (others : List (List CelAnswer)) (k : ℕ) (a : CelAnswer)
      → Gathers vars over begin turned r ls k (vs ∷ others) a
      → ((x : CelAnswer) → typed_answer turned r (vs ++ a ∷ ls) ≡ Some x → go others x ≡ Some b → EndsWith)
      → (c o : Option CelAnswer) → typed_answer test r (vs ++ a ∷ ls) ≡ c
      → typed_answer turned r (vs ++ a ∷ ls) ≡ o
      → cel.turn c o (go others) (typed_answer last r (a ∷ ls)) ≡ Some b → EndsWith
  turn_ends vs others k a g next_turn (Some (value (bool true))) (Some x) ce se is = next_turn x se is
  turn_ends vs others k a g next_turn (Some (value (bool true))) None ce se is = absurd (none-some b is)
  turn_ends vs others k a g next_turn (Some (value (bool false))) o ce se is =
      record { turns = k; left = vs ∷ others; found = a; gathers = g; ends = inl is }
  turn_ends vs others k a g next_turn (Some (fails d)) o ce se is = record {
    turns = k;
    left = vs ∷ others;
    found = a;
    gathers = g;
    ends = inr (vs, others, refl, ce ∙ is);
  }
  turn_ends vs others k a g next_turn (Some (value _)) o ce se is = absurd (none-some b is)
  turn_ends vs others k a g next_turn None o ce se is = absurd (none-some b is)

  fold_ends : (turns : List (List CelAnswer)) (k : ℕ) (a : CelAnswer)
      → Gathers vars over begin turned r ls k turns a → go turns a ≡ Some b → EndsWith
  fold_ends [] k a g is =
      record { turns = k; left = []; found = a; gathers = g; ends = inl is }
  fold_ends (vs ∷ turns) k a g is = turn_ends vs turns k a g
      (λ x se more_is. fold_ends turns (suc k) x (more k vs turns a x g se) more_is)
      (typed_answer test r (vs ++ a ∷ ls)) (typed_answer turned r (vs ++ a ∷ ls)) refl refl is

  begun_ends : (v : CelValue) (turns : List (List CelAnswer)) → typed_answer over r ls ≡ Some (value v)
      → turns_of vars v ≡ Some turns → (o : Option CelAnswer) → typed_answer begin r ls ≡ o
      → option_and_then (go turns) o ≡ Some b → EndsWith
  begun_ends v turns oe ve None be is = absurd (none-some b is)
  begun_ends v turns oe ve (Some a) be is = fold_ends turns 0 a (none v turns a oe ve be) is

  walked_ends : (v : CelValue) → typed_answer over r ls ≡ Some (value v)
      → (o : Option (List (List CelAnswer))) → turns_of vars v ≡ o
      → option_and_then (λ turns. option_and_then (go turns) (typed_answer begin r ls)) o ≡ Some b
      → EndsWith
  walked_ends v oe None ve is = absurd (none-some b is)
  walked_ends v oe (Some turns) ve is = begun_ends v turns oe ve (typed_answer begin r ls) refl is

  -- a range that fails, or one that is walked over
  range_ends : (o : Option CelAnswer) → typed_answer over r ls ≡ o
      → cel.over vars o (λ turns. option_and_then (go turns) (typed_answer begin r ls)) ≡ Some b
      → (typed_answer over r ls ≡ Some b) ⊎ EndsWith
  range_ends None oe is = absurd (none-some b is)
  range_ends (Some (fails e)) oe is = inl (oe ∙ is)
  range_ends (Some (value v)) oe is = inr (walked_ends v oe (turns_of vars v) refl is)

  -- a loop comes to its range's error, or ends in a turn that is reached
  loop_ends : (t : ValueType)
      → typed_answer (typed_loop t vars over begin test turned last) r ls ≡ Some b
      → (typed_answer over r ls ≡ Some b) ⊎ EndsWith
  loop_ends t is = range_ends (typed_answer over r ls) refl is
