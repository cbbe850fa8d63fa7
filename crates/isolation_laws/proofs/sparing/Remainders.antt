-- A segment spares the effects of a task if the rest of the body from which it starts is fine for them.
use Rattle.std.proofs.Common.{◌≡◌, ◌+◌, ℕ, zero, suc, ℤ, List, [], ◌∷◌, Option, None, Some, sym, subst}
use Rattle.std.specs.Prelude.{slice_get}
use Rattle.effect_sets.specs.declared.effects.Effect.{Effect}
use Rattle.twe_program.specs.declared.program.Decl.{Decl}
use Rattle.twe_program.specs.Program.{Program}
use Rattle.twe_program.specs.Statement.{Statement, Block, Let, Set, SetCell, SetArray, SetGrid, If, While, Return, Print, Call, Make, Wait, Statements, no_more, statement}
use Rattle.twe_program.specs.WellFormed.{IsWellFormed}
use Rattle.cover_flow.specs.Steps.{followed_by}
use Rattle.seg_meaning.specs.declared.frame.OpenBody.{OpenBody}
use Rattle.seg_meaning.specs.declared.frame.Frame.{Frame}
use Rattle.seg_meaning.specs.declared.frame.Position.{Position}
use Rattle.seg_meaning.specs.Meaning.{Below, body_of, done_within}
use Rattle.seg_meaning.specs.Remaining.{after_first, block_at, block_of, last_of_first, resumed, turned_again}
use Rattle.seg_meaning.specs.Segment.{flow_of, segment, stopped_by, store_at}
use Rattle.seg_meaning.specs.Store.{Store, Flow, goes, returns, fails, stops}
use Rattle.isolation_laws.specs.soundness.KeepsEffects.{KeepsEffects}
use Rattle.isolation_laws.proofs.soundness.Expressions.{BelowKeeps}
use Rattle.isolation_laws.proofs.soundness.Sound.{method_sound}
use Rattle.isolation_laws.proofs.soundness.Statements.{within_keeps}
use Rattle.machine_state.specs.segment_laws.Left.{again, body_left, left_in, left_of}
use Rattle.machine_state.proofs.segment_laws.Leading.{BelowLeads, left_after}
use Rattle.machine_state.proofs.segment_laws.LeftLeading.{inside_leads, resumed_leads, within_leads}
use Rattle.machine_state.proofs.segment_laws.Quiet.{followed_assoc, followed_none}
use Rattle.isolation_laws.proofs.sparing.Calls.{EachSpares}
use Rattle.isolation_laws.proofs.sparing.Statements.{BelowSpares, FlowSpares, IsFine, all_spare, done_spares, go_further, go_stopped}

module _ (p : Program) (wf : IsWellFormed p) (effects : KeepsEffects p) (below : Below) (keeps : BelowKeeps p below) (leads : BelowLeads below) (es : List Effect) (decl : Decl)
    (loops : BelowSpares p es decl below) where
  -- what remains inside these positions spares them, whatever comes after it
  abbrev RemainsSparing : Statements → List Position → Store → Type 0
  RemainsSparing stmts positions s =
      (others : Statements) → IsFine p es decl (followed_by (left_in stmts positions) others) → EachSpares p es s.accesses → FlowSpares p es (resumed below p stmts positions s)

  -- so does the next turn after it, if the statement around it is a loop
  again_spares : (first : Position) (inner : List Position) (stmt : Option Statement) (s : Store) → RemainsSparing (block_of first.block stmt) (first ∷ inner) s
      → (others : Statements) → IsFine p es decl (left_after stmt others (first ∷ inner)) → EachSpares p es s.accesses
      → FlowSpares p es (turned_again below (first ∷ inner) stmt (resumed below p (block_of first.block stmt) (first ∷ inner) s))
  again_spares first inner (Some (While point condition body place)) s h others fine each =
      let stmt = While point condition body place in
      let loop = statement stmt others in
      let turn = left_in body (first ∷ inner) in
      let turning : IsFine p es decl (followed_by turn loop) = subst (IsFine p es decl) (followed_assoc turn (statement stmt no_more) others) fine in
      go_further p es decl (followed_by turn loop) loop others (left_after (Some stmt) others) (resumed below p body (first ∷ inner) s) (below stmt)
      (resumed_leads p below leads (first ∷ inner) body s loop (left_after (Some stmt) others)
      (λ after more. followed_assoc (left_in body (record { block = first.block; after = after } ∷ more)) (statement stmt no_more) others))
      turning (h loop turning each) (λ s1 each1 fine1. loops point condition body place others fine1 s1 each1)
  again_spares first inner None s h others fine each = h others fine each
  again_spares first inner (Some (Block point body)) s h others fine each = h others fine each
  again_spares first inner (Some (Let point var value)) s h others fine each = h others fine each
  again_spares first inner (Some (Set point var value)) s h others fine each = h others fine each
  again_spares first inner (Some (SetCell point cell value place)) s h others fine each = h others fine each
  again_spares first inner (Some (SetArray point array index value place)) s h others fine each = h others fine each
  again_spares first inner (Some (SetGrid point array row column value place)) s h others fine each = h others fine each
  again_spares first inner (Some (If point arms)) s h others fine each = h others fine each
  again_spares first inner (Some (Return point value)) s h others fine each = h others fine each
  again_spares first inner (Some (Print point value place)) s h others fine each = h others fine each
  again_spares first inner (Some (Call point method given place)) s h others fine each = h others fine each
  again_spares first inner (Some (Make point future task given spawned future_place place)) s h others fine each = h others fine each
  again_spares first inner (Some (Wait point future join into place)) s h others fine each = h others fine each

  inside_spares : (inner : List Position) (stmt : Option Statement) (s : Store) → RemainsSparing (block_of (block_at inner) stmt) inner s
      → (others : Statements) → IsFine p es decl (left_after stmt others inner) → EachSpares p es s.accesses
      → FlowSpares p es (turned_again below inner stmt (resumed below p (block_of (block_at inner) stmt) inner s))
  inside_spares [] stmt s h others fine each = each
  inside_spares (first ∷ inner) stmt s h others fine each = again_spares first inner stmt s h others fine each

  pub resumed_spares : (positions : List Position) (stmts : Statements) (s : Store) → RemainsSparing stmts positions s
  resumed_spares [] stmts s others fine each = each
  resumed_spares (position ∷ inner) stmts s others fine each =
      let stmt = last_of_first position.after stmts in
      let rest = after_first position.after stmts in
      let next = followed_by rest others in
      let now = again inner stmt (left_in (block_of (block_at inner) stmt) inner) in
      let here : IsFine p es decl (followed_by now next) = subst (IsFine p es decl) (followed_assoc now rest others) fine in
      go_stopped p es decl (followed_by now next) next (left_after stmt next) position.block position.after
      (turned_again below inner stmt (resumed below p (block_of (block_at inner) stmt) inner s)) _
      (inside_leads p below leads inner stmt s (resumed_leads p below leads inner (block_of (block_at inner) stmt) s) next) here
      (inside_spares inner stmt s (resumed_spares inner (block_of (block_at inner) stmt) s) next here each)
      (λ s1 each1 fine1. all_spare p wf effects below keeps leads es decl loops position.block position.after rest others fine1 s1 each1)

module _ (p : Program) (wf : IsWellFormed p) (effects : KeepsEffects p) (es : List Effect) (decl : Decl) where
  -- each loop spares them, whatever the bound
  within_spares : (n : ℕ) → BelowSpares p es decl (done_within p n)
  within_spares zero point condition body place others fine s each = each
  within_spares (suc n) point condition body place others fine s each =
      done_spares p wf effects (done_within p n) (within_keeps p wf (method_sound p wf effects) n) (within_leads p n) es decl (within_spares n)
      (While point condition body place) others fine s each

  accesses_by : (frame : Frame) (f : Flow) → FlowSpares p es f → EachSpares p es (stopped_by p frame f).accesses
  accesses_by frame (goes s) h = h
  accesses_by frame (returns value s) h = h
  accesses_by frame (fails kind place s) h = h
  accesses_by frame (stops operation positions s) h = h

  flow_spares : (frame : Frame) (body : Option OpenBody) (cells : List ℤ) → (¬ (body ≡ None) → IsFine p es decl (body_left p frame.decl body)) → FlowSpares p es (flow_of p frame body cells)
  flow_spares frame None cells fine = tt
  flow_spares frame (Some opened) cells fine =
      let body = body_of (slice_get p.tasks frame.decl) in
      let n = frame.fuel + 1 in
      let some : ¬ (Some opened ≡ None) = λ e. absurd (cc) in
      let here : IsFine p es decl (followed_by (left_in body opened.open_blocks) no_more) = subst (IsFine p es decl) (sym (followed_none (left_in body opened.open_blocks))) (fine some) in
      resumed_spares p wf effects (done_within p n) (within_keeps p wf (method_sound p wf effects) n) (within_leads p n) es decl (within_spares n) opened.open_blocks body (store_at frame opened.vars cells) no_more here tt

  -- a segment spares them if the rest of its body, if it has one, is fine
  pub segment_spares : (frame : Frame) (cells : List ℤ) → (¬ (frame.body ≡ None) → IsFine p es decl (left_of p frame)) → EachSpares p es (segment p frame cells).accesses
  segment_spares frame cells fine = accesses_by frame (flow_of p frame frame.body cells) (flow_spares frame frame.body cells fine)
