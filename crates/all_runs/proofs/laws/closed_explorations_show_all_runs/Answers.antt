use Rattle.all_runs.proofs.Shown.{all_shown}
use Rattle.all_runs.proofs.laws.closed_explorations_show_all_runs.Goals as goal

pub returns : goal.returns
returns c p lim going ended well keeps within explored closed = all_shown p lim going ended well keeps explored closed within.tasks_least
