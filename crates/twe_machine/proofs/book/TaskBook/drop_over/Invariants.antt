-- Who stood in the book and is enabled still does.
use Rattle.std.proofs.Common.{ℕ, List}
use Rattle.region_paths.specs.declared.elements.Elem.{Elem}
use Rattle.machine_state.specs.declared.state.TaskStatus.TheVariants.{Enabled}
use Rattle.twe_machine.specs.Books.{BookIsDecided, IsPlacedIn}
use Rattle.machine_state.specs.Rows.{HasStatus}
use Rattle.twe_machine.proofs.book.TaskBook.drop_over.Given as goal

abbrev pub invariant-loop-elem : goal.invariant-loop-elem
invariant-loop-elem l = record {
  kept : (s : ℕ) (front : List Elem) → HasStatus l.st s Enabled → IsPlacedIn l.initial.self s front → IsPlacedIn l.self s front;
  decided : BookIsDecided l.st.links l.initial.self → BookIsDecided l.st.links l.self;
}
