use Rattle.std.proofs.Common.{◌++◌, ℕ, List, take, get_or, sym, ap, ◌∙◌}
use Rattle.std.specs.List.{flat_map}
use Rattle.std.proofs.lemmas.List.{flat_map_more, take_more}
use Rattle.twe_advise.specs.Json.{json_next_time}
use Rattle.twe_advise.specs.declared.paces.PacedTime.{PacedTime}
use Rattle.twe_advise.proofs.json.push_next_times.Goals as goal

pub loop-pace-preserved : goal.loop-pace-preserved
loop-pace-preserved c =
    let f : PacedTime → List ℕ = json_next_time c.args.work c.args.span in
    let paces : List PacedTime = c.args.paces.now in
    let i : ℕ = c.loop-pace.pace-index in
    let none : PacedTime = record { workers = 0; time = 0; held = 0 } in
    c.in_ok-push_next_time.ensures
    ∙ (ap (λ (l : List ℕ). l ++ f (get_or paces i none)) c.loop-pace.invariant
    ∙ (flat_map_more f c.args.text.now (take i paces) (get_or paces i none)
    ∙ ap (λ (l : List PacedTime). c.args.text.now ++ flat_map f l) (sym (take_more paces i none c.loop-pace-test.true))))
