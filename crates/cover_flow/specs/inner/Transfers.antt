-- What going through statements does to the facts of 128 futures, and what a turn of each loop does.
use Rattle.std.specs.Prelude.{ℕ, List, [], ◌∷◌, ◌++◌, bit_and, bit_or, if◌then◌else◌}
use Rattle.twe_program.specs.Statement.{Statement, Block, If, While, Return, Make, Wait, Statements, no_more, statement, Arms, arm, otherwise, no_else}
use Rattle.cover_flow.specs.declared.facts.Facts.{Facts}
use Rattle.cover_flow.specs.declared.transfer.Transfer.{Transfer}
use Rattle.cover_flow.specs.inner.Words.{none_come, joined_words, put_out_words, taken_in_words, mask_of}

-- each future stays out or not out
abbrev pub unchanged : Transfer
unchanged = record {
  from_out = record { out = 340282366920938463463374607431768211455; not_out = 0 };
  from_not_out = record { out = 0; not_out = 340282366920938463463374607431768211455 };
}

-- no path goes through
abbrev pub nothing_passes : Transfer
nothing_passes = record { from_out = none_come; from_not_out = none_come }

-- the facts after, from those before: what comes of futures that were out, and of futures that were not
abbrev pub applied : Transfer → Facts → Facts
applied t facts = record {
  out = bit_or (bit_and facts.out t.from_out.out) (bit_and facts.not_out t.from_not_out.out);
  not_out = bit_or (bit_and facts.out t.from_out.not_out) (bit_and facts.not_out t.from_not_out.not_out);
}

-- before each test of a loop with this turn
abbrev pub entered : Transfer → Facts → Facts
entered turn facts = joined_words facts (applied turn facts)

-- what either of two ways does
abbrev pub transfers_joined : Transfer → Transfer → Transfer
transfers_joined t u = record {
  from_out = joined_words t.from_out u.from_out;
  from_not_out = joined_words t.from_not_out u.from_not_out;
}

-- the same, and then a spawn into the futures of the mask
abbrev pub transfers_put_out : ℕ → Transfer → Transfer
transfers_put_out mask t = record {
  from_out = put_out_words mask t.from_out;
  from_not_out = put_out_words mask t.from_not_out;
}

-- the same, and then a join of the futures of the mask
abbrev pub transfers_taken_in : ℕ → Transfer → Transfer
transfers_taken_in mask t = record {
  from_out = taken_in_words mask t.from_out;
  from_not_out = taken_in_words mask t.from_not_out;
}

-- the same, and then a loop with this turn, up to its last test
abbrev pub transfers_looped : Transfer → Transfer → Transfer
transfers_looped turn t = record { from_out = entered turn t.from_out; from_not_out = entered turn t.from_not_out }

-- the statement after what came before
abbrev mutual
  pub passed : ℕ → Statement → Transfer → Transfer
  passed first (Block point body) t = passed_all first body t
  passed first (If point arms) t = passed_one first nothing_passes arms t
  passed first (While point condition body place) t = transfers_looped (passed_all first body unchanged) t
  passed first (Return point value) t = nothing_passes
  passed first (Make point future task args spawned future_place place) t =
      if spawned then transfers_put_out (mask_of first future) t else t
  passed first (Wait point future join into place) t = if join then transfers_taken_in (mask_of first future) t else t
  passed first s t = t

  pub passed_all : ℕ → Statements → Transfer → Transfer
  passed_all first no_more t = t
  passed_all first (statement s others) t = passed_all first others (passed first s t)

  -- one of the branches before, or one of these
  pub passed_one : ℕ → Transfer → Arms → Transfer → Transfer
  passed_one first before (arm condition body others) t =
      passed_one first (transfers_joined before (passed_all first body t)) others t
  passed_one first before (otherwise body) t = transfers_joined before (passed_all first body t)
  passed_one first before no_else t = transfers_joined before t

-- what a turn does, for each of some loops
abbrev pub Turns : Type 0
Turns = List Transfer

-- what a turn of each loop does, the loops in the order of the text
abbrev mutual
  pub turns_of : ℕ → Statement → Turns
  turns_of first (Block point body) = turns_of_all first body
  turns_of first (If point arms) = turns_of_one first arms
  turns_of first (While point condition body place) = passed_all first body unchanged ∷ turns_of_all first body
  turns_of first s = []

  pub turns_of_all : ℕ → Statements → Turns
  turns_of_all first no_more = []
  turns_of_all first (statement s others) = turns_of first s ++ turns_of_all first others

  pub turns_of_one : ℕ → Arms → Turns
  turns_of_one first (arm condition body others) = turns_of_all first body ++ turns_of_one first others
  turns_of_one first (otherwise body) = turns_of_all first body
  turns_of_one first no_else = []
