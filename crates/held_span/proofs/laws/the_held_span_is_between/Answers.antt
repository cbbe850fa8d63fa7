use Rattle.held_span.proofs.Between.{held_least, held_most}
use Rattle.held_span.proofs.laws.the_held_span_is_between.Goals as goal

pub returns-clause-least : goal.returns-clause-least
returns-clause-least c = λ p lim moves work span held chain profile is. held_least p lim moves work span held chain profile is

pub returns-clause-most : goal.returns-clause-most
returns-clause-most c = λ p lim moves work span held chain profile is. held_most p lim moves work span held chain profile is
