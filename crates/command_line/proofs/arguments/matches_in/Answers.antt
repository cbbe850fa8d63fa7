use Rattle.std.proofs.Common.{◌≡◌, ◌∙◌, ap, sym, subst, true, map, List, ℕ}
use Rattle.std.proofs.lemmas.List.{map-id}
use Rattle.clap.specs.Faults.{fault_of, is_simple_and_free, is_free_app}
use Rattle.clap.specs.Kinds.{HasKind}
use Rattle.clap.specs.Simple.{app_of, built, is_simple, matches_of}
use Rattle.clap.proofs.WalkLemmas.{both}
use Rattle.command_line.proofs.Readings.{failed}
use Rattle.command_line.proofs.arguments.matches_in.Goals as goal

pub returns-in-Ok : goal.returns-in-Ok
returns-in-Ok c =
    let free : is_simple_and_free (app_of c.args.command) ≡ true = c.requires in
    let same : map (λ (w : List ℕ). w) c.args.words.now ≡ c.args.words.now = map-id c.args.words.now in
    let simple = (both (is_simple (app_of c.args.command)) (is_free_app (built (app_of c.args.command))) free).0 in
    (ap (fault_of (app_of c.args.command)) (sym same) ∙ c.in-Ok.ensures.kinds free, (c.in-Ok.ensures.matches simple).0 ∙ ap (matches_of (app_of c.args.command)) same)

pub returns-in-Err : goal.returns-in-Err
returns-in-Err c =
    let free : is_simple_and_free (app_of c.args.command) ≡ true = c.requires in
    let same : map (λ (w : List ℕ). w) c.args.words.now ≡ c.args.words.now = map-id c.args.words.now in
    failed (app_of c.args.command) c.args.words.now c.fail_of.result c.in-Err.error
    (subst (λ (ws : List (List ℕ)). HasKind (fault_of (app_of c.args.command) ws) c.in-Err.error) same (c.in-Err.ensures.kinds free))
    (λ usage memory. c.fail_of.ensures usage (c.kind.ensures ∙ memory))
