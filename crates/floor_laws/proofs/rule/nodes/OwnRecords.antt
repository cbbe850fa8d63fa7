-- What the content of a node has of the records that a seat has placed.
use Rattle.std.proofs.Common.{◌≡◌, ℕ, true, List, Some, sym, ap, subst, ◌∙◌, ⊎_elim}
use Rattle.region_paths.specs.declared.elements.Elem.{Elem}
use Rattle.twe_base.specs.Limits.{Bounds}
use Rattle.twe_program.specs.Program.{Program}
use Rattle.machine_state.specs.declared.state.TaskRow.{TaskRow}
use Rattle.machine_state.specs.declared.state.TaskStatus.TheVariants as status
use Rattle.seg_journal.specs.declared.numbered.NumberedEntry.{NumberedEntry}
use Rattle.floor_laws.specs.declared.rule.view.HeldTurn.{HeldTurn}
use Rattle.floor_laws.specs.rule.Floors.{Floor}
use Rattle.floor_laws.specs.admission.admission_core.States.{State, IsAmong, Record}
use Rattle.floor_laws.specs.rule.nodes.FactSteps.{IsToPlace}
use Rattle.floor_laws.specs.rule.nodes.Fitting.{AreRecordsAt, ContentFits}
use Rattle.floor_laws.specs.rule.nodes.Rule.{KeepsBoth, KeepsNodes}
use Rattle.floor_laws.specs.rule.nodes.Trees.{Tree}

module _ (nodes : List (List Elem)) (p : Program) (lim : Bounds) (log : List NumberedEntry) (f : Floor) (tree : Tree) (core : State)
    (both : KeepsBoth nodes p lim log f tree core) (i n : ℕ) (content : List Record) (has : tree.contents n ≡ Some content) where
  abbrev keep : KeepsNodes nodes p lim log f tree core
  keep = both.nodes_keep

  are : AreRecordsAt core.records n content
  are = (subst (ContentFits core.records tree.activities n) has (keep.contents.homes n)).1

  -- what the seat has placed stands there
  pub fresh_there : (r : Record) → IsAmong r (tree.fresh i) → r.node ≡ n → IsAmong r content
  fresh_there r among node = (are r).1 ((keep.known.fresh_stand i r among).0, node)

  -- a record of a task that is to be admitted was placed by the seat that has its turn
  made_fresh : (r : Record) (turn : HeldTurn) → IsAmong r core.records → f.held i r.task ≡ Some turn → turn.row.status ≡ status.Made → IsAmong r (tree.fresh i)
  made_fresh r turn stands held made =
      let known = both.floor.fits.rows i r.task turn held in
      let row_made : known.row.status ≡ status.Made = ap (λ (x : TaskRow). x.status) known.same ∙ made in
      let own = keep.known.owned r known.row stands known.there (λ enabled. made_enabled (sym row_made ∙ enabled)) in
      let seat : own.0 ≡ i = both.floor.fits.one_holder own.0 i r.task own.1.0 turn own.1.1 held in
      subst (λ (j : ℕ). IsAmong r (tree.fresh j)) seat (own.2 row_made)
    where
      made_enabled : status.Made ≡ status.Enabled → ⊥
      made_enabled h = cc

  pub own_fresh : (r : Record) (turn : HeldTurn) → IsAmong r content → f.held i r.task ≡ Some turn → IsToPlace turn → IsAmong r (tree.fresh i)
  own_fresh r turn among held =
      let stands : IsAmong r core.records = ((are r).0 among).0 in
      ⊎_elim (λ (first : turn.first ≡ true). keep.known.first_fresh i r turn stands held first) (λ (made : turn.row.status ≡ status.Made). made_fresh r turn stands held made)
