-- Work, span and the heaviest chain of a list of moves, and the earliest times of its entries.
use Rattle.std.specs.Prelude.{◌≡◌, ℕ, List, length, map}
use Rattle.seg_journal.specs.declared.journal.Entry.{Entry}
use Rattle.seg_journal.specs.declared.moves.Move.{Move}
use Rattle.seg_journal.specs.Spelling.{move_of}
use Rattle.twe_base.specs.Limits.{Bounds}
use Rattle.twe_program.specs.Program.{Program}
use Rattle.machine_state.specs.Runs.{Legal, counted}
use Rattle.schedules.specs.Timetables.{AreEarliest}
use Rattle.span_profile.specs.heaviest_chain.Chains.{IsHeaviest, Leads, weight_at}
use Rattle.span_profile.specs.LeadsTo.{LeadsTo}
use Rattle.span_profile.specs.Strands.{strands, weight_of}

-- The moves are those of a legal journal. Of the entries of its counted part the work is the sum of all weights. The chain
-- is one of entries each of which leads to the next, it weighs the span, and no chain is heavier. Of the heaviest chains it
-- is the one whose last entry is the lowest, then whose last but one is the lowest, and so on. Another journal of the same
-- program can have another span.
pub record IsProfile (p : Program) (lim : Bounds) (moves : List Move) (work span : ℕ) (chain : List ℕ) : Type 0 where
  pub journal : List Entry
  pub legal : Legal p lim journal
  pub has : map move_of journal ≡ moves
  pub heaviest : IsHeaviest LeadsTo weight_of (strands p lim (counted journal)) work span chain

-- The moves are those of a legal journal. An entry of its counted part takes as long as it weighs, and can start and end at these
-- times at the earliest, if what leads to it has to end before.
pub record HasEarliest (p : Program) (lim : Bounds) (moves : List Move) (span : ℕ) (starts ends : List ℕ) : Type 0 where
  pub journal : List Entry
  pub legal : Legal p lim journal
  pub has : map move_of journal ≡ moves
  pub earliest : AreEarliest (Leads LeadsTo (strands p lim (counted journal)))
      (weight_at weight_of (strands p lim (counted journal))) (length (strands p lim (counted journal))) span starts ends
