-- A row of the table of answers, in the code.
use Rattle.http_front.specs.declared.answer.Row.{Row}
use Rattle.http_front.specs.Answer.{RowValue}

-- the row that one of the code means
abbrev pub row_view : Row → RowValue
row_view row = record {
  status = row.status;
  phrase = row.phrase.now;
  verdict = row.verdict.now;
  tells_matches = row.tells_matches;
  body = row.body.now;
}
