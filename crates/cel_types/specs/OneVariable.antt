-- A comprehension of one variable is a fold over the elements of its range.
use Rattle.std.specs.Prelude.{Option, Some, None}
use Rattle.std.specs.Option.{option_and_then}
use Rattle.cel_value.specs.Values.{CelAnswer, CelValue, CelValues, fails, item, no_items, value}
use Rattle.cel_ops.specs.Collections.{elements_of}
use Rattle.cel_types.specs.Meaning.{turn}

-- the turns over these elements, from this accumulator, and then the result of the last accumulator
abbrev pub fold_elements : (condition step : CelValue → CelAnswer → Option CelAnswer)
    → (result : CelAnswer → Option CelAnswer) → CelValues → CelAnswer → Option CelAnswer
fold_elements condition step result no_items gathered = result gathered
fold_elements condition step result (item v vs) gathered =
    turn (condition v gathered) (step v gathered) (fold_elements condition step result vs)
    (result gathered)

-- a loop over a range: over the items of a list, or the keys of a map in ascending order. If the
-- range is an error, that is the loop's answer
abbrev pub over_elements : Option CelAnswer → (CelValues → Option CelAnswer) → Option CelAnswer
over_elements None go = None
over_elements (Some (fails e)) go = Some (fails e)
over_elements (Some (value v)) go = option_and_then go (elements_of v)
