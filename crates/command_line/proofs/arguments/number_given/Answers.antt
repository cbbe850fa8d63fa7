use Rattle.std.proofs.Common.{◌≡◌, ◌∙◌, ap, rules, option_map, Option, None, Some, ℕ}
use Rattle.clap.specs.Matches.{first_value, found_of}
use Rattle.command_line.specs.Options.{number_for}
use Rattle.command_line.proofs.Readings.{number_of_value}
use Rattle.command_line.proofs.arguments.number_given.Goals as goal

pub returns-in-None : goal.returns-in-None
returns-in-None c =
    let value : first_value (found_of c.args.matches.now) c.name.result.now ≡ None = search rules in
    number_of_value c.args.setting (found_of c.args.matches.now) c.name.result.now None c.name.ensures value

pub returns-in-Some-number_in : goal.returns-in-Some-number_in
returns-in-Some-number_in c =
    let value : first_value (found_of c.args.matches.now) c.name.result.now ≡ Some c.in-Some.text.now = search rules in
    let fits : number_for c.args.setting c.in-Some.text.now ≡ Some c.in-Some-number_in.number = search rules in
    number_of_value c.args.setting (found_of c.args.matches.now) c.name.result.now (Some c.in-Some.text.now) c.name.ensures value ∙ ap (λ (o : Option ℕ). option_map (λ number. Some number) o) fits

pub returns-in-None-number_in : goal.returns-in-None-number_in
returns-in-None-number_in c =
    let value : first_value (found_of c.args.matches.now) c.name.result.now ≡ Some c.in-Some.text.now = search rules in
    let fits : number_for c.args.setting c.in-Some.text.now ≡ None = search rules in
    number_of_value c.args.setting (found_of c.args.matches.now) c.name.result.now (Some c.in-Some.text.now) c.name.ensures value ∙ ap (λ (o : Option ℕ). option_map (λ number. Some number) o) fits
