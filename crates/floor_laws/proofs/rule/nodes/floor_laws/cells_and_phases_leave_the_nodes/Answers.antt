use Rattle.std.proofs.Common.{refl}
use Rattle.floor_laws.specs.rule.Steps.{after_finding_done, after_load, after_store}
use Rattle.floor_laws.proofs.rule.nodes.TurnEvents.{floor_same, phase_stored}
use Rattle.floor_laws.proofs.rule.nodes.floor_laws.cells_and_phases_leave_the_nodes.Goals as goal

pub returns-clause-load : goal.returns-clause-load
returns-clause-load k nodes p lim log f tree core i t c value keep = floor_same nodes p lim log f tree core keep (after_load f i t c value) refl refl

pub returns-clause-store : goal.returns-clause-store
returns-clause-store k nodes p lim log f tree core i t c value keep = floor_same nodes p lim log f tree core keep (after_store f i t c value) refl refl

pub returns-clause-done : goal.returns-clause-done
returns-clause-done k nodes p lim log f tree core i t value keep = floor_same nodes p lim log f tree core keep (after_finding_done f i t value) refl refl

pub returns-clause-phase : goal.returns-clause-phase
returns-clause-phase k nodes p lim log f tree core i t turn phase keep has = phase_stored nodes p lim log f tree core keep i t turn phase has
