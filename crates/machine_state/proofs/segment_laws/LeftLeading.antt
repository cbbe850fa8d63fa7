-- What remains of a body leads along a control path of what is left of it.
use Rattle.std.proofs.Common.{ℕ, zero, suc, List, [], ◌∷◌, Option, None, Some, inl, refl, sym, ◌∙◌, subst}
use Rattle.twe_program.specs.Program.{Program}
use Rattle.twe_program.specs.Statement.{Statement, Block, Let, Set, SetCell, SetArray, SetGrid, If, While, Return, Print, Call, Make, Wait, Statements, no_more, statement}
use Rattle.cover_flow.specs.Steps.{followed_by}
use Rattle.seg_meaning.specs.declared.frame.Position.{Position}
use Rattle.seg_meaning.specs.Store.{Store, Flow, then_go}
use Rattle.seg_meaning.specs.Meaning.{Below, stopped_at, done_all, done_within}
use Rattle.seg_meaning.specs.Remaining.{after_first, last_of_first, block_of, block_at, turned_again, resumed}
use Rattle.machine_state.specs.segment_laws.Left.{again, left_in}
use Rattle.machine_state.proofs.segment_laws.Quiet.{followed_assoc, followed_none, leads_nowhere, leads_silently}
use Rattle.machine_state.proofs.segment_laws.Leading.{BelowLeads, FlowLeads, LeftIn, left_after, all_leads, go_leads, statement_leads, stopped_leads}

-- whatever the bound, a loop leads past it, or to an operation inside it
pub within_leads : (p : Program) (n : ℕ) → BelowLeads (done_within p n)
within_leads p zero point condition body place others s =
    leads_silently (statement (While point condition body place) others) others (λ path. (inl refl, refl))
within_leads p (suc n) point condition body place others s =
    statement_leads p (done_within p n) (within_leads p n) (While point condition body place) others s

-- what is carried out leads from what is left by these positions, which begin in this block, whatever comes after it
abbrev InsideLeads : ℕ → Statements → List Position → Flow → Type 0
InsideLeads block stmts positions f = (others : Statements) (left : List Position → Statements) → LeftIn block stmts others left
    → FlowLeads (followed_by (left_in stmts positions) others) others left f

module _ (p : Program) (below : Below) (leads : BelowLeads below) where
  -- with the next turn after it, where the statement around it is a loop
  again_leads : (first : Position) (inner : List Position) (stmt : Option Statement) (inside : Flow) → InsideLeads first.block (block_of first.block stmt) (first ∷ inner) inside
      → (others : Statements) → FlowLeads (left_after stmt others (first ∷ inner)) others (left_after stmt others) (turned_again below (first ∷ inner) stmt inside)
  again_leads first inner (Some (While point condition body place)) inside h others =
      let stmt = While point condition body place in
      let loop = statement stmt others in
      let left = left_after (Some stmt) others in
      let turn = left_in body (first ∷ inner) in
      subst (λ (from : Statements). FlowLeads from others left (then_go inside (below stmt))) (sym (followed_assoc turn (statement stmt no_more) others))
      (go_leads (followed_by turn loop) loop others left inside (below stmt)
      (h loop left (λ after more. followed_assoc (left_in body (record { block = first.block; after = after } ∷ more)) (statement stmt no_more) others))
      (λ s. leads point condition body place others s))
  again_leads first inner None inside h others = h others _ (λ after more. refl)
  again_leads first inner (Some (Block point body)) inside h others = h others _ (λ after more. refl)
  again_leads first inner (Some (Let point var value)) inside h others = h others _ (λ after more. refl)
  again_leads first inner (Some (Set point var value)) inside h others = h others _ (λ after more. refl)
  again_leads first inner (Some (SetCell point cell value place)) inside h others = h others _ (λ after more. refl)
  again_leads first inner (Some (SetArray point array index value place)) inside h others = h others _ (λ after more. refl)
  again_leads first inner (Some (SetGrid point array row column value place)) inside h others = h others _ (λ after more. refl)
  again_leads first inner (Some (If point arms)) inside h others = h others _ (λ after more. refl)
  again_leads first inner (Some (Return point value)) inside h others = h others _ (λ after more. refl)
  again_leads first inner (Some (Print point value place)) inside h others = h others _ (λ after more. refl)
  again_leads first inner (Some (Call point method args place)) inside h others = h others _ (λ after more. refl)
  again_leads first inner (Some (Make point future task args spawned future_place place)) inside h others = h others _ (λ after more. refl)
  again_leads first inner (Some (Wait point future join into place)) inside h others = h others _ (λ after more. refl)

  -- what remains inside the statement before a position
  pub inside_leads : (inner : List Position) (stmt : Option Statement) (s : Store)
      → InsideLeads (block_at inner) (block_of (block_at inner) stmt) inner (resumed below p (block_of (block_at inner) stmt) inner s)
      → (others : Statements) → FlowLeads (left_after stmt others inner) others (left_after stmt others) (turned_again below inner stmt (resumed below p (block_of (block_at inner) stmt) inner s))
  inside_leads [] stmt s h others = leads_nowhere others
  inside_leads (first ∷ inner) stmt s h others = again_leads first inner stmt (resumed below p (block_of first.block stmt) (first ∷ inner) s) h others

  pub resumed_leads : (positions : List Position) (stmts : Statements) (s : Store) → InsideLeads (block_at positions) stmts positions (resumed below p stmts positions s)
  resumed_leads [] stmts s others left is = leads_nowhere others
  resumed_leads (position ∷ inner) stmts s others left is =
      let stmt = last_of_first position.after stmts in
      let rest = after_first position.after stmts in
      let next = followed_by rest others in
      let inside = turned_again below inner stmt (resumed below p (block_of (block_at inner) stmt) inner s) in
      let now = again inner stmt (left_in (block_of (block_at inner) stmt) inner) in
      let flow = then_go (stopped_at position.block position.after inside) (λ s1. done_all below p position.block position.after rest s1) in
      subst (λ (from : Statements). FlowLeads from others left flow) (sym (followed_assoc now rest others))
      (go_leads (followed_by now next) next others left (stopped_at position.block position.after inside) _
      (stopped_leads (followed_by now next) next (left_after stmt next) left position.block position.after inside
      (λ ps. is position.after ps ∙ followed_assoc (again ps stmt (left_in (block_of (block_at ps) stmt) ps)) rest others)
      (inside_leads inner stmt s (resumed_leads inner (block_of (block_at inner) stmt) s) next))
      (λ s1. all_leads p below leads position.block stmts others left is position.after rest refl s1))

-- the whole of what remains of a body
pub body_leads : (p : Program) (n : ℕ) (body : Statements) (positions : List Position) (s : Store)
    → FlowLeads (left_in body positions) no_more (left_in body) (resumed (done_within p n) p body positions s)
body_leads p n body positions s =
    subst (λ (from : Statements). FlowLeads from no_more (left_in body) (resumed (done_within p n) p body positions s)) (followed_none (left_in body positions))
    (resumed_leads p (done_within p n) (within_leads p n) positions body s no_more (left_in body) (λ after inner. sym (followed_none (left_in body (record { block = block_at positions; after = after } ∷ inner)))))
