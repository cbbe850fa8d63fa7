use Rattle.machine_state.specs.Runs.{state_after}
use Rattle.seg_journal.specs.Merging.{journal_of}
use Rattle.floor_laws.proofs.rule.QuietLemmas.{shows}
use Rattle.floor_laws.proofs.rule.laws.quiet_floors_show_the_state.Goals as goal

pub returns : goal.returns
returns c p lim log f rule quiet = shows p (state_after p lim (journal_of log)) f rule.fits quiet
