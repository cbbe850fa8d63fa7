-- What a run keeps as its moves are taken.
use Rattle.std.specs.Prelude.{◌≡◌, Bool, List}
use Rattle.std.specs.List.{AllZip, list_any}
use Rattle.seg_journal.specs.declared.journal.Entry.{Entry}
use Rattle.twe_base.specs.Limits.{Bounds}
use Rattle.twe_program.specs.Program.{Program, cell_count}
use Rattle.twe_machine.specs.Listings.{IsListing}
use Rattle.machine_state.specs.Runs.{IsRun, counted, is_fault}
use Rattle.span_profile.specs.heaviest_chain.Built.{FrontHolds}
use Rattle.span_profile.specs.heaviest_chain.Nodes.{Node}
use Rattle.span_profile.specs.declared.profiling.Tracked.{Tracked}
use Rattle.span_profile.specs.Strands.{strands}
use Rattle.span_profile.specs.inner.Numbering.{ArePlaces}
use Rattle.span_profile.specs.inner.Sets.{no_cells}
use Rattle.span_profile.specs.inner.Shows.{Shows}
use Rattle.span_profile.specs.inner.Trails.{IsTrail}

-- some entry has met a fault
abbrev pub has_fault : List Entry → Bool
has_fault entries = list_any (λ (entry : Entry). is_fault entry.end) entries

-- A run under way: the state is the one that the journal leads to, and its enabled tasks are known. The chains hold a node for
-- each entry of the counted part, which shows what the entry did, and the entries of the chain that have come have steps.
pub record IsTracked (p : Program) (lim : Bounds) (run : Tracked) : Type 0 where
  pub is_run : IsRun p lim run.journal run.st
  pub listing : IsListing run.st run.enabled
  pub over : run.over ≡ has_fault run.journal
  pub places : ArePlaces p run.places
  pub reads : run.watched.reads ≡ no_cells (cell_count p)
  pub writes : run.watched.writes ≡ no_cells (cell_count p)
  pub nodes : List Node
  pub holds : FrontHolds nodes run.chains
  pub shows : AllZip (Shows places.nodes) nodes (strands p lim (counted run.journal))
  pub trail : IsTrail p places.nodes (strands p lim (counted run.journal)) run.trail
