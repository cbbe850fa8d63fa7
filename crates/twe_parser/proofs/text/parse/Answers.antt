use Rattle.std.proofs.Common.{◌∙◌}
use Rattle.twe_parser.specs.inner.Reading.{EndsWhole}
use Rattle.twe_parser.proofs.Refusals.{if_ok_map, if_err_map, end_is, end_accepted, end_fails_nothing, end_refused}
use Rattle.twe_parser.proofs.text.parse.Goals as goal

pub returns-clause-tree : goal.returns-clause-tree
returns-clause-tree c = if_ok_map _ (λ tree whole. end_accepted c.args.text.now c.in_ok-end.end c.read.new.self c.in_ok-end.ensures.read tree whole) c.finish.ensures.whole

pub returns-clause-end : goal.returns-clause-end
returns-clause-end c = if_ok_map _ (λ tree (whole : EndsWhole tree c.in_ok-end.end c.read.new.self). whole.place ∙ end_is c.args.text.now c.in_ok-end.end c.read.new.self c.in_ok-end.ensures.read) c.finish.ensures.whole

pub returns-clause-accepted : goal.returns-clause-accepted
returns-clause-accepted c = if_ok_map _ (λ tree whole. end_fails_nothing c.args.text.now c.in_ok-end.end c.read.new.self c.in_ok-end.ensures.read tree whole) c.finish.ensures.whole

pub returns-clause-refused : goal.returns-clause-refused
returns-clause-refused c = if_err_map _ (λ fail early. end_refused c.args.text.now c.in_ok-end.end c.read.new.self c.in_ok-end.ensures.read fail early) c.finish.ensures.early
