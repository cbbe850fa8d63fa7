use Rattle.machine_state.proofs.segment_laws.BeingReady.{entry_ready, ready_same, ready_ended, ready_given, ready_waits, ready_gets, ready_joins, ready_later, ready_declared, ready_made}
use Rattle.machine_state.proofs.segment_laws.waits_are_of_made_tasks.Goals as goal

pub returns : goal.returns
returns c = record {
  entry = entry_ready;
  same = ready_same;
  ended = ready_ended;
  given = ready_given;
  waits = λ p frame cells on ready e. ready_waits p frame cells ready on e;
  gets = λ p frame cells on into ready e. ready_gets p frame cells ready on into e;
  joins = λ p frame cells on into ready e. ready_joins p frame cells ready on into e;
  later = ready_later;
  declared = ready_declared;
  made = ready_made;
}
