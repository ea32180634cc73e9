-- What a writer holds of a text whose beginning it took.
use Rattle.std.proofs.Common.{◌≡◌, ◌<◌, ◌++◌, ◌∙◌, ℕ, List, [], Option, ap, arith, length, subst, sym, take, append-nil, length-append}
use Rattle.std.proofs.Math.Seq.{take-append_seam}
use Rattle.std.specs.Io.KnownBytes.{Appends}
use Rattle.program_texts.specs.Output.{BreaksOff}

module _ (old new : Option (List ℕ)) (text done rest : List ℕ) (split : text ≡ done ++ rest)
    (took : Appends old new done) where
  -- it took all of the text where nothing is left
  pub whole_of_taken : rest ≡ [] → Appends old new text
  whole_of_taken empty =
      subst (Appends old new) (sym (split ∙ ap (λ l. done ++ l) empty ∙ append-nil done)) took

  -- and a part where something is left
  pub part_of_taken : 0 < length rest → BreaksOff old new text
  part_of_taken more =
      let size = ap length split ∙ length-append done rest in
      let front : take (length done) text ≡ done = ap (take (length done)) split ∙ take-append_seam done rest in
      (length done, omega arith, subst (Appends old new) (sym front) took)
