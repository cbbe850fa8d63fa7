use Rattle.std.proofs.Common.{◌≡◌, ◌∙◌, sym, rules, codes, None, Some}
use Rattle.clap.specs.Matches.{first_value, found_of}
use Rattle.command_line.specs.Options.{size_in}
use Rattle.command_line.proofs.Readings.{size_of_value}
use Rattle.command_line.proofs.command.size_given.Goals as goal

pub returns-in_err-text : goal.returns-in_err-text
returns-in_err-text c =
    let value : first_value (found_of c.args.matches.now) (codes "N") ≡ None = search rules in
    let none : c.from_residual.result ≡ None = search rules in
    none ∙ sym (size_of_value (found_of c.args.matches.now) None value)

pub returns-in_err-n : goal.returns-in_err-n
returns-in_err-n c =
    let value : first_value (found_of c.args.matches.now) (codes "N") ≡ Some c.in_ok-text.text.now = search rules in
    let fits : size_in c.in_ok-text.text.now ≡ None = search rules in
    let none : c.from_residual-in_err-n.result ≡ None = search rules in
    none ∙ sym fits ∙ sym (size_of_value (found_of c.args.matches.now) (Some c.in_ok-text.text.now) value)

pub returns : goal.returns
returns c =
    let value : first_value (found_of c.args.matches.now) (codes "N") ≡ Some c.in_ok-text.text.now = search rules in
    let fits : size_in c.in_ok-text.text.now ≡ Some c.in_ok-n.n = search rules in
    sym fits ∙ sym (size_of_value (found_of c.args.matches.now) (Some c.in_ok-text.text.now) value)
