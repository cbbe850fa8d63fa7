use Rattle.std.proofs.Common.{◌≡◌, ◌<◌, ◌≤◌, Option, IfNone, IfSome, Some, get_or, length, sym, ap, ◌∙◌, subst, arith}
use Rattle.std.specs.List.{All}
use Rattle.std.proofs.lemmas.Option.{slice_get-get_or}
use Rattle.std.proofs.lemmas.List.{take_all}
use Rattle.std.proofs.lemmas.List.Elements.{All-more}
use Rattle.twe_program.specs.declared.program.CellDecl.{CellDecl}
use Rattle.effect_meeting.specs.declared.met.Met.{Met}
use Rattle.effect_meeting.specs.Cells.{IsNeverMet, index_bounds}
use Rattle.effect_meeting.specs.inner.CellLines.{IsMetAfter}
use Rattle.effect_meeting.proofs.cells.first_cell.Goals as goal

-- this declaration has a cell where they meet
pub returns-in-Some-clause-found : goal.returns-in-Some-clause-found
returns-in-Some-clause-found c =
    let decl = c.index-cells-number.result in
    let After = IsMetAfter c.args.shared c.args.first.now c.args.second.now decl.path.elems (index_bounds decl.dims) in
    let below : c.loop-number.number < length c.args.cells.now = omega arith in
    let at : decl ≡ get_or c.args.cells.now c.loop-number.number decl = c.index-cells-number.is in
    let there : IfSome c.in_ok-found.found After = c.in_ok-found.ensures.found in
    let met : After c.in-Some.met = subst (λ (o : Option Met). IfSome o After) c.in-Some.is there in
    record {
      decl = decl;
      there = slice_get-get_or c.args.cells.now c.loop-number.number decl below ∙ ap Some (sym at);
      here = met.here;
      told = met.told;
      before = c.loop-number.invariant;
    }

-- this one has none either
pub loop-number-preserved : goal.loop-number-preserved
loop-number-preserved c =
    let Never = IsNeverMet c.args.shared c.args.first.now c.args.second.now in
    let decl = c.index-cells-number.result in
    let empty : IfNone c.in_ok-found.found (Never decl) = c.in_ok-found.ensures.none in
    let never : Never decl = subst (λ (o : Option Met). IfNone o (Never decl)) c.in_default.is empty in
    let below : c.loop-number.number < length c.args.cells.now = omega arith in
    let at : decl ≡ get_or c.args.cells.now c.loop-number.number decl = c.index-cells-number.is in
    let here : Never (get_or c.args.cells.now c.loop-number.number decl) =
    subst (λ (d : CellDecl). IsNeverMet c.args.shared c.args.first.now c.args.second.now d) at never in
    All-more Never c.args.cells.now c.loop-number.number decl below c.loop-number.invariant here

-- none of all has one
pub returns-clause-none : goal.returns-clause-none
returns-clause-none c =
    let Never = IsNeverMet c.args.shared c.args.first.now c.args.second.now in
    let past : length c.args.cells.now ≤ c.loop-number.number = omega arith in
    subst (All Never) (take_all c.loop-number.number c.args.cells.now past) c.loop-number.invariant
