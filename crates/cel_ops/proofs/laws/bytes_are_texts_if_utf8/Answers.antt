use Rattle.cel_ops.proofs.Conversions.{text_of_its_bytes, text_of_other, text_of_utf8}
use Rattle.cel_ops.proofs.laws.bytes_are_texts_if_utf8.Goals as goal

pub returns-clause-valid : goal.returns-clause-valid
returns-clause-valid c = text_of_utf8

pub returns-clause-invalid : goal.returns-clause-invalid
returns-clause-invalid c = text_of_other

pub returns-clause-back : goal.returns-clause-back
returns-clause-back c = text_of_its_bytes
