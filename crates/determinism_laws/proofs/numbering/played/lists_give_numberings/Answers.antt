use Rattle.determinism_laws.proofs.numbering.Listed.{few_below, listed_apart, listed_at}
use Rattle.determinism_laws.proofs.numbering.played.lists_give_numberings.Goals as goal

pub returns : goal.returns
returns c = record { apart = listed_apart; at = listed_at; few = few_below }
