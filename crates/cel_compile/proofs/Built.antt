-- Code that is written piece by piece is an expression's code, and there is room for each piece.
use Rattle.std.proofs.Common.{◌≡◌, ℕ, ◌+◌, ◌-◌, ◌<◌, ◌≤◌, ◌^◌, ◌⊎◌, inl, inr, List, [], ◌∷◌, ◌++◌, length, refl, sym, ap, ◌∙◌, subst, arith, append_assoc, append-nil, length-append}
use Rattle.std.proofs.lemmas.List.{length-map}
use Rattle.cel_types.specs.Elaborated.{TypedTree, TypedTrees, no_typed, typed, typed_call, typed_loop}
use Rattle.cel_types.specs.Names.{variable_count}
use Rattle.cel_types.specs.declared.typed.Variables.{Variables}
use Rattle.cel_value.specs.Types.{ValueType}
use Rattle.cel_overload.specs.declared.overload.Overload.{Overload}
use Rattle.cel_ops.specs.declared.operation.Operation.TheVariants as operations
use Rattle.cel_overload.specs.declared.overload.Overload.TheVariants as overloads
use Rattle.machine_code.specs.Instructions.{Instruction, code_view, instr_view, Operate, IfFalse, IfTrue, Jump, Test}
use Rattle.machine_code.specs.declared.instr.Instr.{Instr}
use Rattle.cel_compile.specs.declared.lengths.Lengths.{Lengths}
use Rattle.cel_compile.specs.Codes.{code_of, codes_of, instruction_of}
use Rattle.cel_compile.specs.private.Extents.{extent}
use Rattle.cel_compile.specs.Slots.{HasFewLocals}
use Rattle.cel_compile.specs.private.Emitting.{Grows, GrowsAll, HasRoom, Writes, passing_over}
use Rattle.cel_compile.specs.private.Lengths.{EndsWith, lengths_are, lengths_of}
use Rattle.cel_compile.proofs.Placing.{and_code, choice_code, codes_are, or_code}

many : (is : List Instr) → length (code_view is) ≡ length is
many is = length-map is instr_view

-- one more instruction
pub wrote : {i0 i1 : List Instr} {l : List Lengths} (j : Instruction) → code_view i1 ≡ code_view i0 ++ j ∷ [] → Writes i0 i1 l l 1 (j ∷ []) []
wrote {i0} {i1} {l} j put = record {
  longer = omega (arith, many i0, many i1, ap length put, length-append (code_view i0) (j ∷ []));
  code = put;
  takes = λ rest e. e ∙ append-nil rest;
}

-- the same of an `Instr` that means it
pub one : {i0 i1 : List Instr} {l : List Lengths} (i : Instr) (j : Instruction) → code_view i1 ≡ code_view i0 ++ instr_view i ∷ []
    → instr_view i ≡ j → Writes i0 i1 l l 1 (j ∷ []) []
one {i0} i j put is = wrote j (put ∙ ap (λ x. code_view i0 ++ x ∷ []) is)

-- the lengths of a jump are taken
pub taken : (i : List Instr) (l0 l1 : List Lengths) (x : Lengths) → ((rest : List Lengths) → l0 ≡ rest ++ x ∷ [] → l1 ≡ rest)
    → Writes i i l0 l1 0 [] (x ∷ [])
taken i l0 l1 x h = record {
  longer = omega arith;
  code = sym (append-nil (code_view i));
  takes = h;
}

-- nothing
pub nothing : (i : List Instr) (l : List Lengths) → Writes i i l l 0 [] []
nothing i l = record {
  longer = omega arith;
  code = sym (append-nil (code_view i));
  takes = λ rest e. e ∙ append-nil rest;
}

-- one thing after another
pub then : {i0 i1 i2 : List Instr} {l0 l1 l2 : List Lengths} {m n : ℕ} {v w : List Instruction} {ks ls : List Lengths}
    → Writes i0 i1 l0 l1 m v ks → Writes i1 i2 l1 l2 n w ls → Writes i0 i2 l0 l2 (m + n) (v ++ w) (ls ++ ks)
then {i0} {i1} {i2} {l0} {l1} {l2} {m} {n} {v} {w} {ks} {ls} a b = record {
  longer = let x = a.longer in let y = b.longer in omega (arith, x, y);
  code = b.code ∙ ap (λ l. l ++ w) a.code ∙ append_assoc (code_view i0) v w;
  takes = λ rest e. b.takes rest (a.takes (rest ++ ls) (e ∙ sym (append_assoc rest ls ks)));
}

-- the same in other words
pub in_words : {i0 i1 : List Instr} {l0 l1 : List Lengths} {m n : ℕ} {v w : List Instruction} {ks ls : List Lengths}
    → m ≡ n → v ≡ w → ls ≡ ks → Writes i0 i1 l0 l1 m v ks → Writes i0 i1 l0 l1 n w ls
in_words {i0} {i1} {l0} {l1} {m} {n} {v} {w} {ks} {ls} em ev el a = record {
  longer = a.longer ∙ ap (λ k. length i0 + k) em;
  code = a.code ∙ ap (λ k. code_view i0 ++ k) ev;
  takes = λ rest e. a.takes rest (e ∙ ap (λ k. rest ++ k) el);
}

-- one expression after others
pub first_built : {i0 i1 i2 : List Instr} {l0 l1 l2 : List Lengths} (d : ℕ) (e : TypedTree) (es : TypedTrees)
    → Grows i0 i1 l0 l1 d e → GrowsAll i1 i2 l1 l2 d es → GrowsAll i0 i2 l0 l2 d (typed e es)
first_built {i0} {i1} {i2} {l0} {l1} {l2} d e es g gs =
    in_words refl (ap (λ n. code_of (length i0) d e ++ codes_of n d es) g.longer ∙ sym (codes_are e es (length i0) d)) refl (then g gs)

-- ---- lengths that are left

-- after those that were taken
pub left : {i0 i1 : List Instr} {l0 l1 : List Lengths} {n : ℕ} {w : List Instruction} {ks ls : List Lengths}
    → Writes i0 i1 l0 l1 n w ks → EndsWith l0 (ls ++ ks) → EndsWith l1 ls
left {i0} {i1} {l0} {l1} {n} {w} {ks} {ls} a (rest, e) =
    (rest, a.takes (rest ++ ls) (e ∙ sym (append_assoc rest ls ks)))

-- those that are taken next
pub next : (l ls ks : List Lengths) → EndsWith l (ls ++ ks) → EndsWith l ks
next l ls ks (rest, e) = (rest ++ ls, e ∙ sym (append_assoc rest ls ks))

-- what taking the lengths of a jump asks for
pub takes_of : (l ls : List Lengths) (n w k : ℕ) → EndsWith l (ls ++ lengths_are w k ∷ []) → k ≤ w → n + w < 2 ^ 16
    → (rest : List Lengths) × (whole last : ℕ) × (l ≡ rest ++ lengths_are whole last ∷ []) × (last ≤ whole) × (n + whole < 2 ^ 16)
takes_of l ls n w k ends small fits =
    let last = next l ls (lengths_are w k ∷ []) ends in (last.0, w, k, last.1, small, fits)

-- ---- `&&` and `||`

-- the room that they need
pub record JunctionRoom (d : ℕ) (a b : TypedTree) (i : List Instr) (l : List Lengths) : Type 0 where
  pub ends : EndsWith l ((lengths_of b ++ lengths_of a) ++ lengths_are (extent a + 1 + extent b + 1) (extent b) ∷ [])
  pub first : HasFewLocals d a
  pub second : HasFewLocals d b
  pub fits : length i + (extent a + 1 + extent b + 1) < 2 ^ 16

pub junction_room : (d : ℕ) (a b : TypedTree) (t : ValueType) (o : Overload) (i : List Instr) (l : List Lengths)
    → (o ≡ (overloads.Operate operations.And)) ⊎ (o ≡ (overloads.Operate operations.Or))
    → HasRoom i l d (typed_call t o (typed a (typed b no_typed))) → JunctionRoom d a b i l
junction_room d a b t o i l which room = elim which [
  | inl e ↦ let r = subst (λ v. HasRoom i l d (typed_call t v (typed a (typed b no_typed)))) e room in record { ends = r.0; first = r.1.0; second = r.1.1.0; fits = r.2 }
  | inr e ↦ let r = subst (λ v. HasRoom i l d (typed_call t v (typed a (typed b no_typed)))) e room in record { ends = r.0; first = r.1.0; second = r.1.1.0; fits = r.2 }
]

module _ {d : ℕ} {a b : TypedTree} {i0 : List Instr} {l0 l1 : List Lengths} (room : JunctionRoom d a b i0 l0)
    (take : (rest : List Lengths) → l0 ≡ rest ++ lengths_are (extent a + 1 + extent b + 1) (extent b) ∷ [] → l1 ≡ rest) where
  pub junction_first : HasRoom i0 l1 d a
  junction_first =
      let fits = room.fits in
      (next l1 (lengths_of b) (lengths_of a) (left (taken i0 l0 l1 _ take) room.ends), room.first, omega (arith, fits))

  module _ {i1 : List Instr} {l2 : List Lengths} (ga : Grows i0 i1 l1 l2 d a) where
    pub junction_put : length i1 < 65535
    junction_put = let fits = room.fits in let longer = ga.longer in omega (arith, fits, longer)

    module _ (i2 : List Instr) (x : Instr) (put : code_view i2 ≡ code_view i1 ++ instr_view x ∷ []) where
      pub junction_second : HasRoom i2 l2 d b
      junction_second =
          let fits = room.fits in
          let longer = ga.longer in
          let step = one {i0 = i1} {i1 = i2} {l = l2} x (instr_view x) put refl in
          let more = step.longer in
          (left ga (left (taken i0 l0 l1 _ take) room.ends), room.second, omega (arith, fits, longer, more))

      module _ {i3 : List Instr} {l3 : List Lengths} (gb : Grows i2 i3 l2 l3 d b) where
        pub junction_last : length i3 < 65535
        junction_last =
            let fits = room.fits in
            let longer = ga.longer in
            let step = one {i0 = i1} {i1 = i2} {l = l2} x (instr_view x) put refl in
            let more = step.longer in
            let most = gb.longer in
            omega (arith, fits, longer, more, most)

        both_built : {i4 : List Instr} (end : ℕ) (jump : ℕ → Instruction) (j : Instruction) → end ≡ length i0 + (extent a + 1 + extent b + 1)
            → instr_view x ≡ jump end → code_view i4 ≡ code_view i3 ++ j ∷ []
            → Writes i0 i4 l0 l3 (extent a + 1 + extent b + 1) (code_of (length i0) d a ++ jump (length i0 + extent a + 1 + extent b + 1)
            ∷ (code_of (length i0 + extent a + 1) d b ++ j ∷ [])) ((lengths_of b ++ lengths_of a) ++ lengths_are (extent a + 1 + extent b + 1) (extent b) ∷ [])
        both_built {i4} end jump j ends jumps last =
            let p = length i0 in
            let start = then (taken i0 l0 l1 _ take) ga in
            let fork = then start (one {i0 = i1} {i1 = i2} {l = l2} x (jump end) put jumps) in
            let whole = then (then fork gb) (wrote {i0 = i3} {i1 = i4} {l = l3} j last) in
            let longer = fork.longer in
            let m2 : length i2 ≡ p + extent a + 1 = omega (arith, longer) in
            let me : end ≡ p + extent a + 1 + extent b + 1 = omega (arith, ends) in
            let A = code_of p d a in
            let B = code_of (length i2) d b in
            let flat : ((A ++ jump end ∷ []) ++ B) ++ j ∷ [] ≡ A ++ jump end ∷ (B ++ j ∷ []) = simp append_assoc in
            in_words (omega arith)
            (flat ∙ ap (λ n. A ++ jump n ∷ (B ++ j ∷ [])) me ∙ ap (λ n. A ++ jump (p + extent a + 1 + extent b + 1) ∷ (code_of n d b ++ j ∷ [])) m2)
            (append_assoc (lengths_of b) (lengths_of a) _) whole

        pub junction_built : {i4 : List Instr} (end : ℕ) (t : ValueType) (o : Overload)
            → (o ≡ (overloads.Operate operations.And)) ⊎ (o ≡ (overloads.Operate operations.Or)) → end ≡ length i0 + (extent a + 1 + extent b + 1)
            → instr_view x ≡ passing_over o end → code_view i4 ≡ code_view i3 ++ instruction_of o ∷ []
            → Grows i0 i4 l0 l3 d (typed_call t o (typed a (typed b no_typed)))
        junction_built end t o which ends jumps last = elim which [
          | inl e ↦ rw e (in_words refl (sym (and_code t a b (length i0) d)) refl
              (both_built end IfFalse (Operate operations.And) ends (jumps ∙ ap (λ v. passing_over v end) e) (last ∙ ap (λ v. code_view i3 ++ instruction_of v ∷ []) e)))
          | inr e ↦ rw e (in_words refl (sym (or_code t a b (length i0) d)) refl
              (both_built end IfTrue (Operate operations.Or) ends (jumps ∙ ap (λ v. passing_over v end) e) (last ∙ ap (λ v. code_view i3 ++ instruction_of v ∷ []) e)))
        ]

-- ---- `?:`

-- the room that it needs
pub record ChoiceRoom (d : ℕ) (c a b : TypedTree) (i : List Instr) (l : List Lengths) : Type 0 where
  pub ends : EndsWith l (((lengths_of b ++ lengths_of a) ++ lengths_of c) ++ lengths_are (extent c + 1 + extent a + 1 + extent b) (extent b) ∷ [])
  pub first : HasFewLocals d c
  pub second : HasFewLocals d a
  pub third : HasFewLocals d b
  pub fits : length i + (extent c + 1 + extent a + 1 + extent b) < 2 ^ 16

pub choice_room : (d : ℕ) (c a b : TypedTree) (t : ValueType) (i : List Instr) (l : List Lengths)
    → HasRoom i l d (typed_call t overloads.Conditional (typed c (typed a (typed b no_typed)))) → ChoiceRoom d c a b i l
choice_room d c a b t i l room = record { ends = room.0; first = room.1.0; second = room.1.1.0; third = room.1.1.1.0; fits = room.2 }

module _ {d : ℕ} {c a b : TypedTree} {i0 : List Instr} {l0 l1 : List Lengths} (room : ChoiceRoom d c a b i0 l0)
    (take : (rest : List Lengths) → l0 ≡ rest ++ lengths_are (extent c + 1 + extent a + 1 + extent b) (extent b) ∷ [] → l1 ≡ rest) where
  pub choice_first : HasRoom i0 l1 d c
  choice_first =
      let fits = room.fits in
      (next l1 (lengths_of b ++ lengths_of a) (lengths_of c) (left (taken i0 l0 l1 _ take) room.ends), room.first, omega (arith, fits))

  module _ {i1 : List Instr} {l2 : List Lengths} (gc : Grows i0 i1 l1 l2 d c) where
    pub choice_test : length i1 < 65535
    choice_test = let fits = room.fits in let longer = gc.longer in omega (arith, fits, longer)

    module _ (i2 : List Instr) (x : Instr) (put : code_view i2 ≡ code_view i1 ++ instr_view x ∷ []) where
      tested : Writes i1 i2 l2 l2 1 (instr_view x ∷ []) []
      tested = one x (instr_view x) put refl

      pub choice_second : HasRoom i2 l2 d a
      choice_second =
          let fits = room.fits in
          let longer = gc.longer in
          let more = tested.longer in
          (next l2 (lengths_of b) (lengths_of a) (left gc (left (taken i0 l0 l1 _ take) room.ends)), room.second, omega (arith, fits, longer, more))

      module _ {i3 : List Instr} {l3 : List Lengths} (ga : Grows i2 i3 l2 l3 d a) where
        pub choice_jump : length i3 < 65535
        choice_jump =
            let fits = room.fits in
            let longer = gc.longer in
            let more = tested.longer in
            let most = ga.longer in
            omega (arith, fits, longer, more, most)

        module _ (i4 : List Instr) (y : Instr) (jumped : code_view i4 ≡ code_view i3 ++ instr_view y ∷ []) where
          pub choice_third : HasRoom i4 l3 d b
          choice_third =
              let fits = room.fits in
              let longer = gc.longer in
              let more = tested.longer in
              let most = ga.longer in
              let step = one {i0 = i3} {i1 = i4} {l = l3} y (instr_view y) jumped refl in
              let all = step.longer in
              (left ga (left gc (left (taken i0 l0 l1 _ take) room.ends)), room.third, omega (arith, fits, longer, more, most, all))

          pub choice_built : {i5 : List Instr} {l4 : List Lengths} → Grows i4 i5 l3 l4 d b → (other end : ℕ) (t : ValueType) → end ≡ length i0 + (extent c + 1 + extent a + 1 + extent b)
              → other ≡ length i0 + (extent c + 1 + extent a + 1 + extent b) - extent b
              → instr_view x ≡ Test other end → instr_view y ≡ Jump end
              → Grows i0 i5 l0 l4 d (typed_call t overloads.Conditional (typed c (typed a (typed b no_typed))))
          choice_built {i5} {l4} gb other end t ends others tests jumps =
              let p = length i0 in
              let start = then (taken i0 l0 l1 _ take) gc in
              let fork = then start (one {i0 = i1} {i1 = i2} {l = l2} x (Test other end) put tests) in
              let chosen = then (then fork ga) (one {i0 = i3} {i1 = i4} {l = l3} y (Jump end) jumped jumps) in
              let whole = then chosen gb in
              let longer = fork.longer in
              let most = chosen.longer in
              let m2 : length i2 ≡ p + extent c + 1 = omega (arith, longer) in
              let m4 : length i4 ≡ p + extent c + 1 + extent a + 1 = omega (arith, most) in
              let mo : other ≡ p + extent c + 1 + extent a + 1 = omega (arith, others) in
              let me : end ≡ p + extent c + 1 + extent a + 1 + extent b = omega (arith, ends) in
              let C = code_of p d c in
              let A = code_of (length i2) d a in
              let B = code_of (length i4) d b in
              let flat : (((C ++ Test other end ∷ []) ++ A) ++ Jump end ∷ []) ++ B ≡ C ++ Test other end ∷ (A ++ Jump end ∷ B) = simp append_assoc in
              let shape : C ++ Test other end ∷ (A ++ Jump end ∷ B) ≡ code_of p d (typed_call t overloads.Conditional (typed c (typed a (typed b no_typed)))) =
              rw (m2, m4, mo, me) (sym (choice_code t c a b p d)) in
              in_words (omega arith) (flat ∙ shape) (simp append_assoc) whole

-- ---- comprehensions

-- the room that one needs
pub record LoopRoom (d inner : ℕ) (range init condition step result : TypedTree) (i : List Instr) (l : List Lengths) : Type 0 where
  pub ends : EndsWith l (((((lengths_of result ++ lengths_of step) ++ lengths_of condition) ++ lengths_of init) ++ lengths_of range)
      ++ lengths_are (extent range + 1 + extent init + 1 + 1 + extent condition + 1 + extent step + 1 + 1 + extent result) (extent result) ∷ [])
  pub locals : inner ≤ 255
  pub few_range : HasFewLocals d range
  pub few_init : HasFewLocals d init
  pub few_condition : HasFewLocals inner condition
  pub few_step : HasFewLocals inner step
  pub few_result : HasFewLocals (d + 1) result
  pub fits : length i + (extent range + 1 + extent init + 1 + 1 + extent condition + 1 + extent step + 1 + 1 + extent result) < 2 ^ 16

pub loop_room : (d inner : ℕ) (t : ValueType) (vars : Variables) (range init condition step result : TypedTree) (i : List Instr) (l : List Lengths)
    → inner ≡ d + 1 + variable_count vars → HasRoom i l d (typed_loop t vars range init condition step result)
    → LoopRoom d inner range init condition step result i l
loop_room d inner t vars range init condition step result i l is room = rw is record {
  ends = room.0;
  locals = room.1.0;
  few_range = room.1.1;
  few_init = room.1.2;
  few_condition = room.1.3;
  few_step = room.1.4;
  few_result = room.1.5;
  fits = room.2;
}
