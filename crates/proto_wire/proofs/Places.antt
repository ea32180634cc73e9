-- Places: words and their steps, paths that are cut short, and faults of outer parts.
use Rattle.std.proofs.Common.{◌≡◌, ◌≢◌, ℕ, zero, suc, ◌+◌, ◌-◌, ◌<◌, ◌≤◌, ◌==◌, ◌||◌, Bool, true, false, not, cond, List, [], ◌∷◌, None, Some, length, take, drop, get_or, refl, sym, ap, ◌∙◌, arith}
use Rattle.std.specs.Prelude.{MatchBool, slice_get}
use Rattle.std.specs.List.{list_any}
use Rattle.std.proofs.lemmas.Bool.{ne_eqb}
use Rattle.std.proofs.lemmas.List.{take_all, at_drop_more, at_drop_all}
use Rattle.proto_wire.specs.Places.{Path, cut_short, step_in, steps_in, end_in, HasRoom, BeginsWith, longer, shortened, emptied, FaultAt}
use Rattle.proto_wire.specs.declared.place.Step.{Step}
use Rattle.proto_wire.specs.declared.refusal.Refusal.{Refusal}

-- ---- words

-- the first words spell the first steps
pub steps_take : (k : ℕ) (words : List ℕ) → steps_in (take k words) ≡ take k (steps_in words)
steps_take zero words = refl
steps_take (suc k) [] = refl
steps_take (suc k) (w ∷ words) =
    elim (w == 0) as (λ b. cond b [] (step_in w ∷ steps_in (take k words))
    ≡ take (suc k) (cond b [] (step_in w ∷ steps_in words))) [
      | true ↦ refl
      | false ↦ ap (λ (steps : List Step). step_in w ∷ steps) (steps_take k words)
    ]

-- words without a 0 are that many steps
steps_full : (words : List ℕ) → list_any (λ w. w == 0) words ≡ false
    → length (steps_in words) ≡ length words
steps_full [] none = refl
steps_full (w ∷ words) none =
    elim (w == 0) as (λ b. (b || list_any (λ w. w == 0) words) ≡ false
    → length (cond b [] (step_in w ∷ steps_in words)) ≡ suc (length words)) [
      | true ↦ λ none. absurd cc
      | false ↦ λ none. ap suc (steps_full words none)
    ] none

-- words with a 0 are fewer steps
steps_short : (words : List ℕ) → list_any (λ w. w == 0) words ≡ true
    → length (steps_in words) < length words
steps_short [] some = absurd cc
steps_short (w ∷ words) some =
    elim (w == 0) as (λ b. (b || list_any (λ w. w == 0) words) ≡ true
    → length (cond b [] (step_in w ∷ steps_in words)) < suc (length words)) [
      | true ↦ λ some. omega arith
      | false ↦ λ some. let less = steps_short words some in omega (arith, less)
    ] some

-- six words are six steps, or fewer
pub six_or_fewer : (words : List ℕ) (b : Bool) → length words ≡ 6 → b ≡ not (list_any (λ w. w == 0) words)
    → MatchBool b (6 ≤ length (steps_in words)) (length (steps_in words) < 6)
six_or_fewer words b six is =
    elim (list_any (λ w. w == 0) words) as (λ a. list_any (λ w. w == 0) words ≡ a → b ≡ not a
    → MatchBool b (6 ≤ length (steps_in words)) (length (steps_in words) < 6)) [
      | true ↦ λ some is. let less = steps_short words some in rw is (omega (arith, less, six))
      | false ↦ λ none is. let same = steps_full words none in rw is (omega (arith, same, six))
    ] refl is

-- the first five of some words
pub first_five : (words : List ℕ) → length words ≡ 6
    → get_or words 0 0 ∷ get_or words 1 0 ∷ get_or words 2 0 ∷ get_or words 3 0 ∷ get_or words 4 0 ∷ []
    ≡ take 5 words
first_five [] six = absurd (omega arith)
first_five (a ∷ []) six = absurd (omega arith)
first_five (a ∷ b ∷ []) six = absurd (omega arith)
first_five (a ∷ b ∷ c ∷ []) six = absurd (omega arith)
first_five (a ∷ b ∷ c ∷ d ∷ []) six = absurd (omega arith)
first_five (a ∷ b ∷ c ∷ d ∷ e ∷ words) six = refl

-- ---- one step further out

module _ (number position word : ℕ) (words : List ℕ) (room : HasRoom number position) (some : word ≢ 0)
    (is : step_in word ≡ record { number = number; position = position }) where
  -- the word, and five others, are the step and the first five steps
  with_word : steps_in (word ∷ take 5 words)
      ≡ take 6 (record { number = number; position = position } ∷ steps_in words)
  with_word =
      let first : steps_in (word ∷ take 5 words) ≡ step_in word ∷ steps_in (take 5 words) =
      ap (λ b. cond b [] (step_in word ∷ steps_in (take 5 words))) (ne_eqb word 0 some) in
      first ∙ ap (λ (steps : List Step). step_in word ∷ steps) (steps_take 5 words)
      ∙ ap (λ (s : Step). s ∷ take 5 (steps_in words)) is

  -- where no step is lost
  pub path_longer : (end : ℕ) → length (steps_in words) < 6
      → BeginsWith number position (record { steps = steps_in words; end = end_in end })
      (record { steps = steps_in (word ∷ take 5 words); end = end_in end })
  path_longer end few =
      let all = take_all 6 (record { number = number; position = position } ∷ steps_in words) (omega (arith, few)) in
      longer room few (ap (λ (steps : List Step). record { steps = steps; end = end_in end }) (with_word ∙ all))

  -- where the last one is
  pub path_shortened : (end : ℕ) → 6 ≤ length (steps_in words)
      → BeginsWith number position (record { steps = steps_in words; end = end_in end })
      (record { steps = steps_in (word ∷ take 5 words); end = cut_short })
  path_shortened end many =
      shortened room many (ap (λ (steps : List Step). record { steps = steps; end = cut_short }) with_word)

-- the steps of the outer path are the first of all
pub first_of_all : (number position : ℕ) (inner outer : Path) → BeginsWith number position inner outer
    → (k : ℕ) × (outer.steps ≡ take k (record { number = number; position = position } ∷ inner.steps))
first_of_all number position inner outer (longer room few is) = (
  6,
  ap (λ (path : Path). path.steps) is
      ∙ sym (take_all 6 (record { number = number; position = position } ∷ inner.steps) (omega (arith, few))),
)
first_of_all number position inner outer (shortened room many is) = (6, ap (λ (path : Path). path.steps) is)
first_of_all number position inner outer (emptied none is) = (0, ap (λ (path : Path). path.steps) is)

-- there is one such path at most
pub outer_path_unique : (number position : ℕ) (inner a b : Path) → BeginsWith number position inner a
    → BeginsWith number position inner b → a ≡ b
outer_path_unique number position inner a b (longer room few is) (longer also less same) = is ∙ sym same
outer_path_unique number position inner a b (longer room few is) (shortened also many same) = absurd (omega arith)
outer_path_unique number position inner a b (longer room few is) (emptied none same) = absurd (none room)
outer_path_unique number position inner a b (shortened room many is) (longer also few same) = absurd (omega arith)
outer_path_unique number position inner a b (shortened room many is) (shortened also more same) = is ∙ sym same
outer_path_unique number position inner a b (shortened room many is) (emptied none same) = absurd (none room)
outer_path_unique number position inner a b (emptied none is) (longer room few same) = absurd (none room)
outer_path_unique number position inner a b (emptied none is) (shortened room many same) = absurd (none room)
outer_path_unique number position inner a b (emptied none is) (emptied also same) = is ∙ sym same

-- ---- the step at an index

-- one word further
pub step_later : (words : List ℕ) (i index : ℕ) (d : ℕ) → i < length words → (get_or words i d ≡ 0 → ⊥)
    → i < index
    → slice_get (steps_in (drop i words)) (index - i)
    ≡ slice_get (steps_in (drop (i + 1) words)) (index - (i + 1))
step_later words i index d within some less =
    let word = get_or words i d in
    let rest = drop (i + 1) words in
    let here : steps_in (drop i words) ≡ step_in word ∷ steps_in rest =
    at_drop_more steps_in words i d within
    ∙ ap (λ b. cond b [] (step_in word ∷ steps_in rest)) (ne_eqb word 0 some) in
    let more : index - i ≡ suc (index - (i + 1)) = omega (arith, less) in
    rw (here, more) refl

-- this word
pub step_here : (words : List ℕ) (i : ℕ) (d : ℕ) → i < length words → (get_or words i d ≡ 0 → ⊥)
    → slice_get (steps_in (drop i words)) (i - i) ≡ Some (step_in (get_or words i d))
step_here words i d within some =
    let word = get_or words i d in
    let rest = drop (i + 1) words in
    let here : steps_in (drop i words) ≡ step_in word ∷ steps_in rest =
    at_drop_more steps_in words i d within
    ∙ ap (λ b. cond b [] (step_in word ∷ steps_in rest)) (ne_eqb word 0 some) in
    let first : i - i ≡ 0 = omega arith in
    rw (here, first) refl

-- no step after a word of 0
pub step_none : (words : List ℕ) (i index : ℕ) (d : ℕ) → i < length words → get_or words i d ≡ 0
    → slice_get (steps_in (drop i words)) (index - i) ≡ None
step_none words i index d within zero_word =
    let here : steps_in (drop i words) ≡ [] =
    at_drop_more steps_in words i d within
    ∙ ap (λ w. steps_in (w ∷ drop (i + 1) words)) zero_word in
    rw here refl

-- nor after all words
pub step_past : (words : List ℕ) (i index : ℕ) → length words ≤ i
    → slice_get (steps_in (drop i words)) (index - i) ≡ None
step_past words i index past = rw (at_drop_all steps_in words i past) refl

-- ---- faults of outer parts

-- for steps by which a fault of an inner part is one of the outer part
module _ (Part : Type 0) (Leads : Part → Step → Part → Type 0) (Has : Part → Refusal → Type 0)
    (climb : (p q : Part) (s : Step) (e : Refusal) → Leads p s q → Has q e → Has p e) where
  -- what has a fault in it has the fault
  pub has_fault : (steps : List Step) (p : Part) (e : Refusal) → FaultAt Leads Has steps p e → Has p e
  has_fault [] p e bad = bad
  has_fault (s ∷ steps) p e bad = climb p bad.0 s e bad.1 (has_fault steps bad.0 e bad.2)

  -- the first steps lead to a part that has the fault as well
  pub shorter : (k : ℕ) (steps : List Step) (p : Part) (e : Refusal) → FaultAt Leads Has steps p e
      → FaultAt Leads Has (take k steps) p e
  shorter zero steps p e bad = has_fault steps p e bad
  shorter (suc k) [] p e bad = bad
  shorter (suc k) (s ∷ steps) p e bad = (bad.0, bad.1, shorter k steps bad.0 e bad.2)

  -- also where the place was moved one step further out
  pub further_out : (number position : ℕ) (inner outer : Path) (p q : Part) (e : Refusal)
      → BeginsWith number position inner outer → Leads p (record { number = number; position = position }) q
      → FaultAt Leads Has inner.steps q e → FaultAt Leads Has outer.steps p e
  further_out number position inner outer p q e begins leads bad =
      let cut = first_of_all number position inner outer begins in
      rw (cut.1) (shorter cut.0 (record { number = number; position = position } ∷ inner.steps) p e (q, leads, bad))
