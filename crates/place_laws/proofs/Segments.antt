-- The segment of a program without its places is that of the program, but that a fault or a make may have another place.
use Rattle.std.proofs.Common.{◌≡◌, ℕ, zero, suc, ◌+◌, ℤ, Bool, true, false, List, [], ◌∷◌, Option, None, Some, refl, sym, ap, ◌∙◌}
use Rattle.std.specs.Prelude.{pos, option_map, slice_get}
use Rattle.effect_sets.specs.declared.effects.Summary.{Summary}
use Rattle.twe_program.specs.Program.{Program}
use Rattle.twe_program.specs.Statement.{Statement, Block, Let, Set, SetCell, SetArray, SetGrid, If, While, Return, Print, Call, Make, Wait, Statements, no_more, statement, Arms, arm, otherwise, no_else}
use Rattle.seg_meaning.specs.declared.frame.OpenBody.{OpenBody}
use Rattle.seg_meaning.specs.declared.frame.Frame.{Frame}
use Rattle.seg_meaning.specs.declared.frame.Position.{Position}
use Rattle.seg_meaning.specs.declared.operation.Operation.TheVariants as operations
use Rattle.seg_meaning.specs.declared.stop.Stop.{Stop}
use Rattle.seg_meaning.specs.declared.stop.Stop.TheVariants as ends
use Rattle.seg_meaning.specs.Entry.{effects_at, entry_frame}
use Rattle.seg_meaning.specs.Meaning.{Below, body_of, done_all, done_within, stopped_at}
use Rattle.seg_meaning.specs.Remaining.{after_first, block_at, block_of, branch_of, last_of_first, resumed, turned_again}
use Rattle.seg_meaning.specs.Segment.{at_end, closing_stop, flow_of, segment, stopped_by, store_at, task_of, waiting_stop}
use Rattle.seg_meaning.specs.Store.{Store, Flow, fails, goes, returns, stops}
use Rattle.summary_texts.specs.paste_laws.places.Places.{SameButPlaces, bare_arms, bare_program, bare_statement, bare_statements, no_place}
use Rattle.place_laws.specs.Bare.{bare_stop, bare_stopped}
use Rattle.place_laws.proofs.Declarations.{same_body, same_effects, same_entry}
use Rattle.place_laws.proofs.Expressions.{IsBareBelow}
use Rattle.place_laws.proofs.Statements.{all_bare, within_bare}
use Rattle.place_laws.proofs.Stores.{bare_flow, bare_store, go_on, stopped_bare}

-- The parts of a block.

after_first_bare : (n : ℕ) (stmts : Statements) → after_first n (bare_statements stmts) ≡ bare_statements (after_first n stmts)
after_first_bare zero stmts = refl
after_first_bare (suc n) no_more = refl
after_first_bare (suc n) (statement first others) = after_first_bare n others

last_bare : (n : ℕ) (stmts : Statements) → last_of_first n (bare_statements stmts) ≡ option_map bare_statement (last_of_first n stmts)
last_bare zero stmts = refl
last_bare (suc n) no_more = refl
last_bare (suc zero) (statement first others) = refl
last_bare (suc (suc n)) (statement first others) = last_bare (suc n) others

branch_bare : (n : ℕ) (arms : Arms) → branch_of n (bare_arms arms) ≡ bare_statements (branch_of n arms)
branch_bare zero (arm condition body others) = refl
branch_bare (suc n) (arm condition body others) = branch_bare n others
branch_bare zero (otherwise body) = refl
branch_bare (suc n) (otherwise body) = refl
branch_bare zero no_else = refl
branch_bare (suc n) no_else = refl

block_bare : (n : ℕ) (stmt : Option Statement) → block_of n (option_map bare_statement stmt) ≡ bare_statements (block_of n stmt)
block_bare n None = refl
block_bare n (Some (Block point body)) = refl
block_bare n (Some (Let point var value)) = refl
block_bare n (Some (Set point var value)) = refl
block_bare n (Some (SetCell point cell value place)) = refl
block_bare n (Some (SetArray point array index value place)) = refl
block_bare n (Some (SetGrid point array row column value place)) = refl
block_bare n (Some (If point arms)) = branch_bare n arms
block_bare n (Some (While point condition body place)) = refl
block_bare n (Some (Return point value)) = refl
block_bare n (Some (Print point value place)) = refl
block_bare n (Some (Call point method args place)) = refl
block_bare n (Some (Make point future task args spawned future_place place)) = refl
block_bare n (Some (Wait point future join into place)) = refl

-- What remains of a body.

module _ (below other : Below) (meets : IsBareBelow below other) where
  again_bare : (inner : List Position) (stmt : Option Statement) (flow : Flow)
      → turned_again other inner (option_map bare_statement stmt) (bare_flow flow) ≡ bare_flow (turned_again below inner stmt flow)
  again_bare [] stmt flow = refl
  again_bare (position ∷ inner) None flow = refl
  again_bare (position ∷ inner) (Some (Block point body)) flow = refl
  again_bare (position ∷ inner) (Some (Let point var value)) flow = refl
  again_bare (position ∷ inner) (Some (Set point var value)) flow = refl
  again_bare (position ∷ inner) (Some (SetCell point cell value place)) flow = refl
  again_bare (position ∷ inner) (Some (SetArray point array index value place)) flow = refl
  again_bare (position ∷ inner) (Some (SetGrid point array row column value place)) flow = refl
  again_bare (position ∷ inner) (Some (If point arms)) flow = refl
  again_bare (position ∷ inner) (Some (While point condition body place)) flow =
      go_on (below (While point condition body place)) (other (bare_statement (While point condition body place)))
      (λ s. meets (While point condition body place) s) flow (bare_flow flow) refl
  again_bare (position ∷ inner) (Some (Return point value)) flow = refl
  again_bare (position ∷ inner) (Some (Print point value place)) flow = refl
  again_bare (position ∷ inner) (Some (Call point method args place)) flow = refl
  again_bare (position ∷ inner) (Some (Make point future task args spawned future_place place)) flow = refl
  again_bare (position ∷ inner) (Some (Wait point future join into place)) flow = refl

  module _ (p : Program) where
    -- what remains inside the statement before a position
    abbrev within : Below → Program → List Position → Option Statement → Store → Flow
    within run q inner stmt s = turned_again run inner stmt (resumed run q (block_of (block_at inner) stmt) inner s)

    resumed_bare : (stmts : Statements) (positions : List Position) (s : Store)
        → resumed other (bare_program p) (bare_statements stmts) positions (bare_store s) ≡ bare_flow (resumed below p stmts positions s)
    resumed_bare stmts [] s = refl
    resumed_bare stmts (position ∷ inner) s =
        let n = position.after in
        let stmt = last_of_first n stmts in
        let rest = resumed below p (block_of (block_at inner) stmt) inner s in
        let now = turned_again below inner stmt rest in
        let inside : within other (bare_program p) inner (last_of_first n (bare_statements stmts)) (bare_store s) ≡ bare_flow now =
        ap (λ (o : Option Statement). within other (bare_program p) inner o (bare_store s)) (last_bare n stmts)
        ∙ ap (λ (b : Statements). turned_again other inner (option_map bare_statement stmt) (resumed other (bare_program p) b inner (bare_store s))) (block_bare (block_at inner) stmt)
        ∙ ap (turned_again other inner (option_map bare_statement stmt)) (resumed_bare (block_of (block_at inner) stmt) inner s)
        ∙ again_bare inner stmt rest in
        go_on (λ s1. done_all below p position.block n (after_first n stmts) s1)
        (λ s1. done_all other (bare_program p) position.block n (after_first n (bare_statements stmts)) s1)
        (λ s1. ap (λ (b : Statements). done_all other (bare_program p) position.block n b (bare_store s1)) (after_first_bare n stmts)
        ∙ all_bare below other meets p position.block n (after_first n stmts) s1)
        (stopped_at position.block n now)
        (stopped_at position.block n (within other (bare_program p) inner (last_of_first n (bare_statements stmts)) (bare_store s)))
        (ap (stopped_at position.block n) inside ∙ stopped_bare position.block n now)

closing_bare : (out : List ℕ) (value : ℤ) → closing_stop out value ≡ bare_stop (closing_stop out value)
closing_bare [] value = refl
closing_bare (child ∷ others) value = refl

waiting_bare : (join : Bool) (on : ℕ) → waiting_stop join on ≡ bare_stop (waiting_stop join on)
waiting_bare true on = refl
waiting_bare false on = refl

module _ (p : Program) (frame : Frame) where
  flow_bare : (body : Option OpenBody) (cells : List ℤ) → flow_of (bare_program p) frame body cells ≡ bare_flow (flow_of p frame body cells)
  flow_bare None cells = refl
  flow_bare (Some body) cells =
      let n = frame.fuel + 1 in
      ap (λ (b : Statements). resumed (done_within (bare_program p) n) (bare_program p) b body.open_blocks (store_at frame body.vars cells)) (same_body p frame.decl)
      ∙ resumed_bare (done_within p n) (done_within (bare_program p) n) (within_bare p n) p (body_of (slice_get p.tasks frame.decl)) body.open_blocks (store_at frame body.vars cells)

  ended_bare : (value : ℤ) (s : Store) → at_end frame value (bare_store s) ≡ bare_stopped (at_end frame value s)
  ended_bare value s = ap (λ (stop : Stop). record (at_end frame value s) { stop = stop }) (closing_bare frame.out.items value)

  left_bare : (flow : Flow) → stopped_by (bare_program p) frame (bare_flow flow) ≡ bare_stopped (stopped_by p frame flow)
  left_bare (goes s) = ended_bare (pos 0) s
  left_bare (returns value s) = ended_bare value s
  left_bare (fails cause place s) = refl
  left_bare (stops (operations.Make future task args spawned place) positions s) =
      let left = stopped_by p frame (stops (operations.Make future task args spawned place) positions s) in
      ap (λ (child : Frame). record left { stop = ends.Make child args (effects_at (bare_program p) task args) spawned future no_place }) (same_entry p task args)
      ∙ ap (λ (effects : Summary). record left { stop = ends.Make (entry_frame p task args) args effects spawned future no_place }) (same_effects p task args)
  left_bare (stops (operations.Wait future join into) positions s) =
      let left = stopped_by p frame (stops (operations.Wait future join into) positions s) in
      ap (λ (stop : Stop). record left { stop = stop }) (waiting_bare join (task_of (slice_get frame.futures future)))

  pub segment_bare : (cells : List ℤ) → segment (bare_program p) frame cells ≡ bare_stopped (segment p frame cells)
  segment_bare cells = ap (stopped_by (bare_program p) frame) (flow_bare frame.body cells) ∙ left_bare (flow_of p frame frame.body cells)

pub segments_alike : (p q : Program) (frame : Frame) (cells : List ℤ) → SameButPlaces p q → bare_stopped (segment p frame cells) ≡ bare_stopped (segment q frame cells)
segments_alike p q frame cells same = sym (segment_bare p frame cells) ∙ ap (λ (r : Program). segment r frame cells) same ∙ segment_bare q frame cells
