-- Where the words and slots of a floor with nodes lie in its table, and what the words of nodes mean.
use Rattle.std.specs.Prelude.{◌+◌, ℕ, zero, suc, List, [], ◌∷◌, length}
use mathlib.Core.Option.{Option, none, some}
use Rattle.region_paths.specs.declared.elements.Elem.{Elem}
use Rattle.twe_base.specs.Limits.{Bounds}
use Rattle.twe_program.specs.Program.{Program}
use Rattle.floor_laws.specs.table.Layout.{word_count}
use Rattle.floor_laws.specs.admission.admission_core.States.{Record}
use Rattle.floor_laws.specs.rule.nodes.Trees.{LockWord, Unlocked, Locked}

-- The words of the floor come first, as in a table of the floor. For each task that may be made its decider word follows.
abbrev pub decider_place : Program → Bounds → ℕ → ℕ
decider_place p lim t = word_count p lim + t

-- for each node its lock word follows
abbrev pub lock_place : Program → Bounds → ℕ → ℕ
lock_place p lim n = word_count p lim + lim.tasks + n

-- how many words there are: those of the floor, one decider word for each task, and one lock word for each node
abbrev pub tree_word_count : List (List Elem) → Program → Bounds → ℕ
tree_word_count nodes p lim = word_count p lim + lim.tasks + length nodes

-- the slots of the tasks come first, and then for each node the slot of its content
abbrev pub content_place : Bounds → ℕ → ℕ
content_place lim n = lim.tasks + n

-- how many slots there are: one for each task that may be made, and one for each node
abbrev pub tree_slot_count : List (List Elem) → Bounds → ℕ
tree_slot_count nodes lim = lim.tasks + length nodes

-- the lock word of a node that nobody has locked, and at which records may lie
abbrev pub free_lock : ℕ
free_lock = 0

-- the lock word of a node that nobody has locked, and at which no record lies
abbrev pub bare_lock : ℕ
bare_lock = 1

-- the lock word of a node that this worker has locked
abbrev pub taken_lock : ℕ → ℕ
taken_lock worker = suc (suc worker)

-- the lock word of a node that nobody has locked, and at which these records lie
abbrev pub left_lock : List Record → ℕ
left_lock [] = bare_lock
left_lock (r ∷ records) = free_lock

-- the decider word of a task that decides at no node
abbrev pub no_decider : ℕ
no_decider = 0

-- the decider word of a task that decides at this node
abbrev pub decider_at : ℕ → ℕ
decider_at n = suc n

-- what a lock word says
abbrev pub lock_of_word : ℕ → LockWord
lock_of_word zero = Unlocked
lock_of_word (suc zero) = Unlocked
lock_of_word (suc (suc worker)) = Locked worker

-- beyond the words of the table there is no node that could be locked
abbrev pub lock_at : Option ℕ → LockWord
lock_at none = Unlocked
lock_at (some n) = lock_of_word n
