-- What a recorder tells of entries.
use Rattle.std.specs.Prelude.{◌≡◌, List}
use Rattle.prefix_tree.specs.declared.part.Part.{Part}
use Rattle.seg_journal.specs.declared.moves.Move.{Move}
use Rattle.twe_program.specs.Program.{Program, cell_count}
use Rattle.machine_state.specs.declared.state.State.{State}
use Rattle.span_profile.specs.declared.recording.EntryKeys.{EntryKeys}
use Rattle.span_profile.specs.declared.recording.Recorder.{Recorder}
use Rattle.span_profile.specs.Strands.{strand_of}
use Rattle.span_profile.specs.heaviest_chain.Nodes.{Node}
use Rattle.span_profile.specs.inner.Numbering.{ArePlaces}
use Rattle.span_profile.specs.inner.Sets.{no_cells}
use Rattle.span_profile.specs.inner.Shows.{Shows}

-- the node of an entry with these keys
abbrev pub node_with : EntryKeys → Node
node_with keys = record { weight = keys.weight; asks = keys.asks; gives = keys.gives }

-- the keys show what the entry of this move did in this state, where a path has the number of its node in the tree
abbrev pub HasKeysOf : Program → List (List Part) → State → Move → EntryKeys → Type 0
HasKeysOf p tree st mv keys = Shows tree (node_with keys) (strand_of p st (record { mv = mv; end = keys.end }))

-- The recorder stands between two entries, and numbers paths by this tree.
pub record Records (p : Program) (tree : List (List Part)) (recorder : Recorder) : Type 0 where
  pub places : ArePlaces p recorder.places
  pub numbers : places.nodes ≡ tree
  pub reads : recorder.watched.reads ≡ no_cells (cell_count p)
  pub writes : recorder.watched.writes ≡ no_cells (cell_count p)

-- it numbers paths by some tree
abbrev pub IsRecorder : Program → Recorder → Type 0
IsRecorder p recorder = (tree : List (List Part)) × Records p tree recorder
