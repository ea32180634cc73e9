-- Each text, port and address was read, so the facts are those of a connection.
use Rattle.std.proofs.Common.{refl}
use Rattle.c_inputs.proofs.facts.conn_of.Goals as goal

pub returns-clause-accepted : goal.returns-clause-accepted
returns-clause-accepted c = (
  (
    c.in_ok-text_or_none.ensures.accepted,
    (
      c.in_ok-text_or_none-2.ensures.accepted,
      (
        c.in_ok-name_or_none.ensures.accepted,
        (
          c.in_ok-text_or_none-3.ensures.accepted,
          (
            c.in_ok-text_or_none-4.ensures.accepted,
            (
              c.in_ok-text_or_none-5.ensures.accepted,
              (
                c.in_ok-text_or_none-6.ensures.accepted,
                (c.in_ok-shared_text.ensures.found.1, tt),
              ),
            ),
          ),
        ),
      ),
    ),
  ),
  c.if-not-are_in_range.ensures.0 refl,
)
