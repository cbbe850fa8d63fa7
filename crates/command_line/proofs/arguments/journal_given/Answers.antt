use Rattle.std.proofs.Common.{◌≡◌, ◌∙◌, sym, rules, codes, None, Some}
use Rattle.std.specs.Str.{bytes_eq}
use Rattle.clap.specs.Matches.{first_value, found_of}
use Rattle.command_line.proofs.Readings.{flag_of_value}
use Rattle.command_line.proofs.arguments.journal_given.Goals as goal

pub returns-in-None : goal.returns-in-None
returns-in-None c =
    let value : first_value (found_of c.args.matches.now) (codes "journal") ≡ None = search rules in
    sym (flag_of_value (found_of c.args.matches.now) None value)

pub returns-in-Some : goal.returns-in-Some
returns-in-Some c =
    let value : first_value (found_of c.args.matches.now) (codes "journal") ≡ Some c.in-Some.text.now = search rules in
    let same : c.eq.result ≡ bytes_eq c.in-Some.text.now (codes "true") = search rules in
    same ∙ sym (flag_of_value (found_of c.args.matches.now) (Some c.in-Some.text.now) value)
