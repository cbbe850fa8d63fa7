use Rattle.twe_draw.proofs.picture.Nest.{plain_box_nests, row_line_nests, title_nests, titled_box_nests, upright_nests, words_nest}
use Rattle.twe_draw.proofs.picture.nesting_laws.elements_nest.Goals as goal

pub returns-clause-boxes : goal.returns-clause-boxes
returns-clause-boxes c = plain_box_nests

pub returns-clause-titles : goal.returns-clause-titles
returns-clause-titles c = title_nests

pub returns-clause-titled : goal.returns-clause-titled
returns-clause-titled c = titled_box_nests

pub returns-clause-words : goal.returns-clause-words
returns-clause-words c = words_nest

pub returns-clause-uprights : goal.returns-clause-uprights
returns-clause-uprights c = upright_nests

pub returns-clause-rows : goal.returns-clause-rows
returns-clause-rows c = row_line_nests
