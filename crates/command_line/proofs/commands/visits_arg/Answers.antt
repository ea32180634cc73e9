use Rattle.std.proofs.Common.{◌≡◌, ◌∙◌, ap, rules, Some, ℤ, pos, subst}
use Rattle.clap.specs.Words.{NarrowsTo}
use Rattle.clap.specs.declared.builder.value_parser.ValueParser.{ValueParser}
use Rattle.clap.specs.declared.builder.value_parser.ValueParser.TheVariants as parsers
use Rattle.command_line.proofs.commands.visits_arg.Goals as goal

abbrev most : ValueParser
most = parsers.Unsigned 0 18446744073709551615

-- a parser of numbers of 64 bits, narrowed to what visits may be
narrowed_to_visits : (parser narrowed : ValueParser) (low high : ℤ)
    → parser ≡ most → low ≡ pos 1 → high ≡ pos 9223372036854775807
    → NarrowsTo parser (Some low) (Some high) narrowed → narrowed ≡ parsers.Unsigned 1 9223372036854775807
narrowed_to_visits parser narrowed low high all is_low is_high narrows =
    let one = subst (λ p. NarrowsTo p (Some low) (Some high) narrowed) all narrows in
    let two = subst (λ n. NarrowsTo most (Some n) (Some high) narrowed) is_low one in
    subst (λ n. NarrowsTo most (Some (pos 1)) (Some n) narrowed) is_high two

pub returns-clause-rule : goal.returns-clause-rule
returns-clause-rule c =
    let given = c.value_parser-2.ensures.given in
    let range = c.new-2.ensures in
    let narrowed = narrowed_to_visits _ c.range.result _ _ c.value_parser.ensures range.start range.end c.range.ensures in
    let parser : c.value_parser-2.result.value_parser ≡ Some (parsers.Unsigned 1 9223372036854775807) =
    given.1 ∙ ap Some (given.2 ∙ narrowed) in
    search rules
