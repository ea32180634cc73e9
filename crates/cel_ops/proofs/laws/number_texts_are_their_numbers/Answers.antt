use Rattle.std.proofs.lemmas.Fmt.{decimal_is_IsNumeral}
use Rattle.cel_ops.proofs.Conversions.{int_text_reads, int_text_short, no_leading_zero, uint_text_short}
use Rattle.cel_ops.proofs.laws.number_texts_are_their_numbers.Goals as goal

pub returns-clause-uints : goal.returns-clause-uints
returns-clause-uints c = decimal_is_IsNumeral

pub returns-clause-ints : goal.returns-clause-ints
returns-clause-ints c = int_text_reads

pub returns-clause-no_leading_zero : goal.returns-clause-no_leading_zero
returns-clause-no_leading_zero c = no_leading_zero

pub returns-clause-short_uints : goal.returns-clause-short_uints
returns-clause-short_uints c = uint_text_short

pub returns-clause-short_ints : goal.returns-clause-short_ints
returns-clause-short_ints c = int_text_short
