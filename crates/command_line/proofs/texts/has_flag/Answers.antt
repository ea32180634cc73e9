use Rattle.std.proofs.Common.{◌∙◌, sym}
use Rattle.clap.specs.Words.{found_of}
use Rattle.clap.proofs.WalkLemmas.{first_value-rows}
use Rattle.command_line.proofs.WordLemmas.{flag_given, flag_missing}
use Rattle.command_line.proofs.texts.has_flag.Goals as goal

pub returns-in-Some : goal.returns-in-Some
returns-in-Some c =
    let found = sym (first_value-rows (found_of c.args.matches.now) c.args.name.now) ∙ sym c.in-Some.ensures in
    flag_given _ c.in-Some.text.now c.eq.result found c.eq.ensures

pub returns-in-None : goal.returns-in-None
returns-in-None c =
    let found = sym (first_value-rows (found_of c.args.matches.now) c.args.name.now) ∙ sym c.in-None.ensures in
    flag_missing _ found
