-- Where the words of the floor lie in its table, and what their numbers mean.
use Rattle.std.specs.Prelude.{◌+◌, ◌*◌, ◌-ℤ◌, ◌/◌, ◌%◌, ◌^◌, ℕ, zero, suc, ℤ, pos, List, [], ◌∷◌}
use mathlib.Core.Option.{Option, none, some}
use lib.ListN.{get_elem?}
use Rattle.twe_base.specs.Limits.{Bounds}
use Rattle.twe_program.specs.Program.{Program, cell_count}
use Rattle.floor_laws.specs.declared.rule.view.Phase.{Phase}
use Rattle.floor_laws.specs.declared.rule.view.Phase.TheVariants.{Absent, Made, Running, Waits, Done, Faulted}
use Rattle.floor_laws.specs.rule.Floors.{TurnWord, Free, Taken, New}

-- how many words a cache line of 64 bytes has: words that lie so far apart share no line, wherever the table begins
abbrev pub cache_line : ℕ
cache_line = 8

-- how many words lie from the turn word of a task to that of the next one: its turn word, its phase word, and seven more
abbrev pub task_span : ℕ
task_span = 9

-- Word 0 is the clock. The words of the cells follow, and then for each task its turn word and its phase word. Behind the clock,
-- behind the word of each cell and behind the two words of each task are seven words that are not used. So the clock, the words
-- of two cells, those of two tasks, and those of a cell and a task are at least eight words apart, and share no cache line.
abbrev pub clock_place : ℕ
clock_place = 0

-- the place of a cell's word
abbrev pub cell_place : ℕ → ℕ
cell_place c = cache_line + cache_line * c

-- the place of a task's turn word
abbrev pub turn_place : Program → ℕ → ℕ
turn_place p t = cache_line + cache_line * cell_count p + task_span * t

-- the place of a task's phase word
abbrev pub phase_place : Program → ℕ → ℕ
phase_place p t = cache_line + cache_line * cell_count p + task_span * t + 1

-- how many words there are
abbrev pub word_count : Program → Bounds → ℕ
word_count p lim = cache_line + cache_line * cell_count p + task_span * lim.tasks

-- the clock counts entries by 1 and makes by 2 ^ 45
abbrev pub entries_of_clock : ℕ → ℕ
entries_of_clock n = n % 2 ^ 45

-- how many tasks were asked for, by the clock
abbrev pub asked_of_clock : ℕ → ℕ
asked_of_clock n = n / 2 ^ 45

-- a cell's value is 2 ^ 31 less than its word
abbrev pub value_of_word : ℕ → ℤ
value_of_word n = pos n -ℤ pos 2147483648

-- the turn word of a task whose turn nobody has
abbrev pub free_word : ℕ
free_word = 0

-- the turn word of a task that is not made yet, or whose first turn was not given
abbrev pub new_word : ℕ
new_word = 1

-- the turn word of a task whose turn this worker took
abbrev pub taken_word : ℕ → ℕ
taken_word worker = suc (suc worker)

-- what a turn word says
abbrev pub turn_of_word : ℕ → TurnWord
turn_of_word zero = Free
turn_of_word (suc zero) = New
turn_of_word (suc (suc worker)) = Taken worker

-- what a phase word says: from 5 on, that the task waits for another one, whose number is 5 less than the word
abbrev pub phase_of_word : ℕ → Phase
phase_of_word zero = Absent
phase_of_word (suc zero) = Made
phase_of_word (suc (suc zero)) = Running
phase_of_word (suc (suc (suc zero))) = Done
phase_of_word (suc (suc (suc (suc zero)))) = Faulted
phase_of_word (suc (suc (suc (suc (suc on))))) = Waits on

-- Beyond the words of the table no task is made.

-- a word of the table, or 0 beyond its words
abbrev pub number_at : Option ℕ → ℕ
number_at none = 0
number_at (some n) = n

-- what the turn word says; beyond the words the task is new
abbrev pub turn_word_at : Option ℕ → TurnWord
turn_word_at none = New
turn_word_at (some n) = turn_of_word n

-- what the phase word says; beyond the words the task is absent
abbrev pub phase_word_at : Option ℕ → Phase
phase_word_at none = Absent
phase_word_at (some n) = phase_of_word n

-- the values of n cells whose words lie from this place on, each in a line of its own
abbrev pub cell_words_from : List ℕ → ℕ → ℕ → List ℤ
cell_words_from words place zero = []
cell_words_from words place (suc n) =
    value_of_word (number_at (get_elem? words place)) ∷ cell_words_from words (place + cache_line) n

-- the number that stands for a phase
abbrev pub word_of_phase : Phase → ℕ
word_of_phase Absent = 0
word_of_phase Made = 1
word_of_phase Running = 2
word_of_phase Done = 3
word_of_phase Faulted = 4
word_of_phase (Waits on) = suc (suc (suc (suc (suc on))))
