-- What statements declare has its place among what the whole body declares.
use Rattle.std.proofs.Common.{◌≡◌, ◌≤◌, ℕ, ◌+◌, List, [], ◌∷◌, ◌++◌, Some, length, slice_get, sym, ap, ◌∙◌, arith, append_assoc, length-append}
use Rattle.twe_program.specs.Numbering.{Declared}
use Rattle.twe_names.proofs.Lists.{slice_get-middle}

-- Of these variables and futures, so many variables are counted where the statements end, and so many futures where they
-- begin; these are the futures that they declare.
pub record Room (vars : ℕ) (futures : List Declared) (from to : ℕ) (inside : List Declared) : Type 0 where
  pub vars_fit : to ≤ vars
  pub before : List Declared
  pub after : List Declared
  pub list : futures ≡ before ++ (inside ++ after)
  pub many : length before ≡ from

pub room-front : (vars : ℕ) (futures : List Declared) (from mid to : ℕ) (fs gs : List Declared)
    → Room vars futures from to (fs ++ gs) → mid ≤ to → Room vars futures from mid fs
room-front vars futures from mid to fs gs room below =
    let fit : to ≤ vars = room.vars_fit in
    record {
      vars_fit = omega arith;
      before = room.before;
      after = gs ++ room.after;
      list = room.list ∙ ap (λ (xs : List Declared). room.before ++ xs) (append_assoc fs gs room.after);
      many = room.many;
    }

pub room-back : (vars : ℕ) (futures : List Declared) (from mid to : ℕ) (fs gs : List Declared)
    → Room vars futures from to (fs ++ gs) → mid ≡ from + length fs → Room vars futures mid to gs
room-back vars futures from mid to fs gs room e = record {
  vars_fit = room.vars_fit;
  before = room.before ++ fs;
  after = room.after;
  list =
      room.list ∙ ap (λ (xs : List Declared). room.before ++ xs) (append_assoc fs gs room.after)
      ∙ sym (append_assoc room.before fs (gs ++ room.after));
  many =
      let many : length room.before ≡ from = room.many in
      simp length-append (omega arith);
}

-- the one future that a statement declares is found by its number
pub room-future : (vars : ℕ) (futures : List Declared) (from to : ℕ) (one : Declared)
    → Room vars futures from to (one ∷ []) → slice_get futures from ≡ Some one
room-future vars futures from to one room = slice_get-middle futures room.before one room.after from room.list room.many
