-- What a recorder tells of an entry.
use Rattle.std.proofs.Common.{◌≡◌, ◌<◌, List, length, refl, sym, ap, ◌∙◌, subst}
use Rattle.std.specs.Prelude.{slice_get}
use Rattle.prefix_tree.specs.declared.part.Part.{Part}
use Rattle.seg_journal.specs.declared.journal.End.{End}
use Rattle.seg_journal.specs.declared.moves.Move.{Move}
use Rattle.twe_base.specs.Limits.{Bounds}
use Rattle.twe_program.specs.Program.{Program, cell_count}
use Rattle.twe_program.specs.WellFormed.{IsWellFormed}
use Rattle.machine_state.specs.declared.state.State.{State}
use Rattle.machine_state.specs.Legal.{MayMove}
use Rattle.machine_state.specs.Runs.{IsReached}
use Rattle.machine_state.proofs.standing.ReachedStands.{reached_stands}
use Rattle.span_profile.specs.declared.deed.Deed.{Deed}
use Rattle.span_profile.specs.declared.recording.EntryKeys.{EntryKeys}
use Rattle.span_profile.specs.declared.recording.Recorder.{Recorder}
use Rattle.span_profile.specs.declared.watched.WatchedCells.{WatchedCells}
use Rattle.span_profile.specs.heaviest_chain.Nodes.{Node}
use Rattle.span_profile.specs.Recorders.{HasKeysOf, Records, node_with}
use Rattle.span_profile.specs.Strands.{strand_of}
use Rattle.span_profile.specs.inner.Deeds.{DidMove, asked, given, node_of}
use Rattle.span_profile.specs.inner.Shows.{Shows}
use Rattle.span_profile.proofs.Tracking.{IsNoted, mover_row, noted, shows_kind}

module _ (p : Program) (lim : Bounds) (well : IsWellFormed p) (st : State) (reached : IsReached p lim st) (mv : Move) (may : MayMove st mv) (deed : Deed) (watched : WatchedCells)
    (did : DidMove p st mv deed watched) where
  pub recorded : IsNoted p deed watched
  recorded = let row = mover_row st mv.kind mv.task may in noted p st mv.kind mv.task row.0 row.1 deed watched did

  module _ (recorder : Recorder) (tree : List (List Part)) (r : Records p tree recorder) where
    shown : Shows tree (node_of recorder.places deed watched) (strand_of p st (record { mv = mv; end = deed.end }))
    shown =
        let row = mover_row st mv.kind mv.task may in
        let many = (reached_stands p lim st well reached).cells in
        subst (λ (nodes : List (List Part)). Shows nodes (node_of recorder.places deed watched) (strand_of p st (record { mv = mv; end = deed.end }))) r.numbers
        (shows_kind p well recorder.places r.places st mv.kind mv.task (slice_get st.tasks mv.task) refl row.0 row.1 deed watched many did)

    pub keys_shown : (keys : EntryKeys) → keys.end ≡ deed.end → keys.weight ≡ deed.weight → keys.asks ≡ asked recorder.places deed watched.reads.items watched.writes.items
        → keys.gives ≡ given recorder.places deed watched.reads.items watched.writes.items → HasKeysOf p tree st mv keys
    keys_shown keys end_is weight_is asks_are gives_are =
        let node : node_of recorder.places deed watched ≡ node_with keys = λ i. record { weight = sym weight_is i; asks = sym asks_are i; gives = sym gives_are i } in
        subst (λ (n : Node). Shows tree n (strand_of p st (record { mv = mv; end = keys.end }))) node
        (subst (λ (e : End). Shows tree (node_of recorder.places deed watched) (strand_of p st (record { mv = mv; end = e }))) (sym end_is) shown)
