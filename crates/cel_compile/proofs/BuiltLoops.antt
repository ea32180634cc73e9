-- The code of a comprehension, written piece by piece.
use Rattle.std.proofs.Common.{◌≡◌, ℕ, ◌+◌, ◌-◌, ◌<◌, List, [], ◌∷◌, ◌++◌, length, refl, sym, ◌∙◌, arith, append_assoc}
use Rattle.cel_types.specs.Elaborated.{TypedTree, typed_loop}
use Rattle.cel_types.specs.Names.{variable_count}
use Rattle.cel_types.specs.declared.typed.Variables.{Variables}
use Rattle.cel_value.specs.Types.{ValueType}
use Rattle.machine_code.specs.Instructions.{code_view, instr_view, Jump, LoopStart, LoopTest, Store}
use Rattle.machine_code.specs.declared.instr.Instr.{Instr}
use Rattle.cel_compile.specs.declared.lengths.Lengths.{Lengths}
use Rattle.cel_compile.specs.Codes.{code_of, turn_instruction}
use Rattle.cel_compile.specs.private.Extents.{extent}
use Rattle.cel_compile.specs.private.Emitting.{Grows, HasRoom}
use Rattle.cel_compile.specs.private.Lengths.{EndsWith, lengths_are, lengths_of}
use Rattle.cel_compile.proofs.Built.{LoopRoom, in_words, left, next, one, taken, then}
use Rattle.cel_compile.proofs.Placing.{loop_code_is}

-- i0 to i11 are the code before and after each call
module _ {d inner : ℕ} {range init condition step result : TypedTree} {i0 : List Instr} {l0 l1 : List Lengths}
    (room : LoopRoom d inner range init condition step result i0 l0)
    (take : (rest : List Lengths) → l0 ≡ rest
    ++ lengths_are (extent range + 1 + extent init + 1 + 1 + extent condition + 1 + extent step + 1 + 1 + extent result) (extent result) ∷ []
    → l1 ≡ rest) where
  ends1 : EndsWith l1 ((((lengths_of result ++ lengths_of step) ++ lengths_of condition) ++ lengths_of init) ++ lengths_of range)
  ends1 = left (taken i0 l0 l1 _ take) room.ends

  pub range_room : HasRoom i0 l1 d range
  range_room = let fits = room.fits in (next l1 _ _ ends1, room.few_range, omega (arith, fits))

  module _ {i1 : List Instr} {l2 : List Lengths} (g1 : Grows i0 i1 l1 l2 d range) where
    ends2 : EndsWith l2 (((lengths_of result ++ lengths_of step) ++ lengths_of condition) ++ lengths_of init)
    ends2 = left g1 ends1

    module _ (i2 : List Instr) (x2 : Instr) (put2 : code_view i2 ≡ code_view i1 ++ instr_view x2 ∷ []) where
      n2 : length i2 ≡ length i0 + (extent range + 1)
      n2 = let before = g1.longer in let step = one {i0 = i1} {i1 = i2} {l = l2} x2 (instr_view x2) put2 refl in let longer = step.longer in omega (arith, before, longer)

      pub init_room : HasRoom i2 l2 d init
      init_room = let fits = room.fits in let so_far = n2 in (next l2 _ _ ends2, room.few_init, omega (arith, fits, so_far))

      module _ {i3 : List Instr} {l3 : List Lengths} (g3 : Grows i2 i3 l2 l3 d init) where
        n3 : length i3 ≡ length i0 + (extent range + 1 + extent init)
        n3 = let before = n2 in let longer = g3.longer in omega (arith, before, longer)

        ends3 : EndsWith l3 ((lengths_of result ++ lengths_of step) ++ lengths_of condition)
        ends3 = left g3 ends2

        module _ (i4 : List Instr) (x4 : Instr) (put4 : code_view i4 ≡ code_view i3 ++ instr_view x4 ∷ []) where
          n4 : length i4 ≡ length i0 + (extent range + 1 + extent init + 1)
          n4 = let before = n3 in let step = one {i0 = i3} {i1 = i4} {l = l3} x4 (instr_view x4) put4 refl in let longer = step.longer in omega (arith, before, longer)

          module _ (i5 : List Instr) (x5 : Instr) (put5 : code_view i5 ≡ code_view i4 ++ instr_view x5 ∷ []) where
            n5 : length i5 ≡ length i0 + (extent range + 1 + extent init + 1 + 1)
            n5 = let before = n4 in let step = one {i0 = i4} {i1 = i5} {l = l3} x5 (instr_view x5) put5 refl in let longer = step.longer in omega (arith, before, longer)

            pub condition_room : HasRoom i5 l3 inner condition
            condition_room = let fits = room.fits in let so_far = n5 in (next l3 _ _ ends3, room.few_condition, omega (arith, fits, so_far))

            module _ {i6 : List Instr} {l4 : List Lengths} (g6 : Grows i5 i6 l3 l4 inner condition) where
              n6 : length i6 ≡ length i0 + (extent range + 1 + extent init + 1 + 1 + extent condition)
              n6 = let before = n5 in let longer = g6.longer in omega (arith, before, longer)

              ends4 : EndsWith l4 (lengths_of result ++ lengths_of step)
              ends4 = left g6 ends3

              module _ (i7 : List Instr) (x7 : Instr) (put7 : code_view i7 ≡ code_view i6 ++ instr_view x7 ∷ []) where
                n7 : length i7 ≡ length i0 + (extent range + 1 + extent init + 1 + 1 + extent condition + 1)
                n7 = let before = n6 in let step = one {i0 = i6} {i1 = i7} {l = l4} x7 (instr_view x7) put7 refl in let longer = step.longer in omega (arith, before, longer)

                pub step_room : HasRoom i7 l4 inner step
                step_room = let fits = room.fits in let so_far = n7 in (next l4 _ _ ends4, room.few_step, omega (arith, fits, so_far))

                module _ {i8 : List Instr} {l5 : List Lengths} (g8 : Grows i7 i8 l4 l5 inner step) where
                  n8 : length i8 ≡ length i0 + (extent range + 1 + extent init + 1 + 1 + extent condition + 1 + extent step)
                  n8 = let before = n7 in let longer = g8.longer in omega (arith, before, longer)

                  module _ (i9 : List Instr) (x9 : Instr) (put9 : code_view i9 ≡ code_view i8 ++ instr_view x9 ∷ []) where
                    n9 : length i9 ≡ length i0 + (extent range + 1 + extent init + 1 + 1 + extent condition + 1 + extent step + 1)
                    n9 = let before = n8 in let step = one {i0 = i8} {i1 = i9} {l = l5} x9 (instr_view x9) put9 refl in let longer = step.longer in omega (arith, before, longer)

                    pub back_room : length i9 < 65535
                    back_room = let fits = room.fits in let so_far = n9 in omega (arith, fits, so_far)

                    module _ (i10 : List Instr) (x10 : Instr) (put10 : code_view i10 ≡ code_view i9 ++ instr_view x10 ∷ []) where
                      n10 : length i10 ≡ length i0 + (extent range + 1 + extent init + 1 + 1 + extent condition + 1 + extent step + 1 + 1)
                      n10 = let before = n9 in let step = one {i0 = i9} {i1 = i10} {l = l5} x10 (instr_view x10) put10 refl in let longer = step.longer in omega (arith, before, longer)

                      pub result_room : HasRoom i10 l5 (d + 1) result
                      result_room = let fits = room.fits in let so_far = n10 in (left g8 ends4, room.few_result, omega (arith, fits, so_far))

                      pub loop_built : {i11 : List Instr} {l6 : List Lengths} → Grows i10 i11 l5 l6 (d + 1) result → (t : ValueType) (vars : Variables) (end done turn : ℕ)
                          → end ≡ length i0 + (extent range + 1 + extent init + 1 + 1 + extent condition + 1 + extent step + 1 + 1 + extent result)
                          → done ≡ length i0 + (extent range + 1 + extent init + 1 + 1 + extent condition + 1 + extent step + 1 + 1 + extent result) - extent result
                          → turn ≡ length i4 → inner ≡ d + 1 + variable_count vars → instr_view x2 ≡ LoopStart end → instr_view x4 ≡ Store d → instr_view x5 ≡ turn_instruction vars (d + 1) done
                          → instr_view x7 ≡ LoopTest done end → instr_view x9 ≡ Store d → instr_view x10 ≡ Jump turn
                          → Grows i0 i11 l0 l6 d (typed_loop t vars range init condition step result)
                      loop_built {i11} {l6} g11 t vars end done turn ends dones turns inside e2 e4 e5 e7 e9 e10 =
                          let p = length i0 in
                          let so2 = n2 in
                          let so4 = n4 in
                          let so5 = n5 in
                          let so7 = n7 in
                          let so10 = n10 in
                          let again = p + extent range + 1 + extent init + 1 in
                          let behind = again + 1 + extent condition + 1 + extent step + 1 + 1 in
                          let m2 : length i2 ≡ p + extent range + 1 = omega (arith, so2) in
                          let m4 : turn ≡ again = omega (arith, so4, turns) in
                          let m5 : length i5 ≡ again + 1 = omega (arith, so5) in
                          let m7 : length i7 ≡ again + 1 + extent condition + 1 = omega (arith, so7) in
                          let m10 : length i10 ≡ behind = omega (arith, so10) in
                          let md : done ≡ behind = omega (arith, dones) in
                          let me : end ≡ behind + extent result = omega (arith, ends) in
                          let A = code_of p d range in
                          let I = code_of (length i2) d init in
                          let C = code_of (length i5) inner condition in
                          let S = code_of (length i7) inner step in
                          let Q = code_of (length i10) (d + 1) result in
                          let st = Store d in
                          let T = LoopStart end in
                          let N = turn_instruction vars (d + 1) done in
                          let G = LoopTest done end in
                          let J = Jump turn in
                          let w2 = then (then (taken i0 l0 l1 _ take) g1) (one {i0 = i1} {i1 = i2} {l = l2} x2 (LoopStart end) put2 e2) in
                          let w4 = then (then w2 g3) (one {i0 = i3} {i1 = i4} {l = l3} x4 (Store d) put4 e4) in
                          let w5 = then w4 (one {i0 = i4} {i1 = i5} {l = l3} x5 (turn_instruction vars (d + 1) done) put5 e5) in
                          let w7 = then (then w5 g6) (one {i0 = i6} {i1 = i7} {l = l4} x7 (LoopTest done end) put7 e7) in
                          let w9 = then (then w7 g8) (one {i0 = i8} {i1 = i9} {l = l5} x9 (Store d) put9 e9) in
                          let w10 = then w9 (one {i0 = i9} {i1 = i10} {l = l5} x10 (Jump turn) put10 e10) in
                          let flat : (((((((((A ++ T ∷ []) ++ I) ++ st ∷ []) ++ N ∷ []) ++ C) ++ G ∷ []) ++ S) ++ st ∷ []) ++ J ∷ []) ++ Q
                          ≡ A ++ T ∷ (I ++ st ∷ (N ∷ (C ++ G ∷ (S ++ st ∷ (J ∷ Q))))) = simp append_assoc in
                          let shape : A ++ T ∷ (I ++ st ∷ (N ∷ (C ++ G ∷ (S ++ st ∷ (J ∷ Q)))))
                          ≡ code_of p d (typed_loop t vars range init condition step result) =
                          rw (m2, m4, m5, m7, m10, md, me, inside) (sym (loop_code_is t vars range init condition step result p d again behind refl refl)) in
                          in_words (omega arith) (flat ∙ shape) (simp append_assoc) (then w10 g11)
