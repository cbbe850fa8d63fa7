-- The part of a journal that counts: how long it is, and that its moves lead to it.
use Rattle.std.proofs.Common.{◌≡◌, ◌<◌, ◌≤◌, ◌+◌, ◌-◌, ◌++◌, ℕ, zero, suc, Bool, true, false, List, [], ◌∷◌, length, map, take, drop, get_or, Result, Ok, Err, IfOk, IsErrOf, refl, sym, ap, ◌∙◌, subst, append_assoc, arith}
use Rattle.std.specs.Prelude.{if◌then◌else◌}
use Rattle.std.proofs.lemmas.List.{length-map, length-take-le, take-append-drop, take_all}
use Rattle.seg_journal.specs.declared.journal.Entry.{Entry}
use Rattle.seg_journal.specs.declared.moves.Move.{Move}
use Rattle.seg_journal.specs.Spelling.{move_of}
use Rattle.twe_base.specs.Limits.{Bounds}
use Rattle.twe_program.specs.Program.{Program}
use Rattle.machine_state.specs.declared.why.Why.{Why}
use Rattle.machine_state.specs.declared.replay_fail.ReplayFail.{ReplayFail}
use Rattle.machine_state.specs.declared.state.State.{State}
use Rattle.machine_state.specs.Moves.{move_result, start_of}
use Rattle.machine_state.specs.Replays.{IsFirstIllegal, IsReplay}
use Rattle.machine_state.specs.Runs.{Legal, LegalFrom, counted, is_fault, state_after}
use Rattle.machine_state.proofs.replays.Replayed.{one_from}
use Rattle.span_profile.specs.Advice.{IsCountedRun}

-- the entries up to this number have met no fault
abbrev pub IsClear : List Entry → ℕ → Type 0
IsClear journal n = (k : ℕ) (d : Entry) → k < n → is_fault (get_or journal k d).end ≡ false

rest_clear : (entry : Entry) (entries : List Entry) (n : ℕ) → IsClear (entry ∷ entries) (suc n) → IsClear entries n
rest_clear entry entries n clear k d below = clear (suc k) d (omega (arith, below))

-- a journal without a fault counts whole
whole_by : (entry : Entry) (entries : List Entry) (t : Bool) → t ≡ false → counted entries ≡ entries → entry ∷ (if t then [] else counted entries) ≡ entry ∷ entries
whole_by entry entries true clear same = absurd (cc)
whole_by entry entries false clear same = ap (λ (l : List Entry). entry ∷ l) same

whole : (journal : List Entry) → IsClear journal (length journal) → counted journal ≡ journal
whole [] clear = refl
whole (entry ∷ entries) clear =
    whole_by entry entries (is_fault entry.end) (clear 0 entry (omega arith)) (whole entries (rest_clear entry entries (length entries) clear))

pub none_count : (journal : List Entry) (n : ℕ) → IsClear journal n → length journal ≤ n → length journal ≡ length (counted journal)
none_count journal n clear all = ap (λ (l : List Entry). length l) (sym (whole journal (λ k d below. clear k d (omega (arith, below, all)))))

-- the first fault is the last entry that counts
first_by : (entry : Entry) (entries : List Entry) (t : Bool) → t ≡ true → length (entry ∷ (if t then [] else counted entries)) ≡ 1
first_by entry entries true fault = refl
first_by entry entries false fault = absurd (cc)

later_by : (entry : Entry) (entries : List Entry) (t : Bool) (n : ℕ) → t ≡ false → n ≡ length (counted entries) → suc n ≡ length (entry ∷ (if t then [] else counted entries))
later_by entry entries true n clear same = absurd (cc)
later_by entry entries false n clear same = ap (λ (m : ℕ). suc m) same

first_fault : (journal : List Entry) (i : ℕ) (d : Entry) → IsClear journal i → i < length journal → is_fault (get_or journal i d).end ≡ true → suc i ≡ length (counted journal)
first_fault [] i d clear below fault = absurd (omega (arith, below))
first_fault (entry ∷ entries) zero d clear below fault = sym (first_by entry entries (is_fault entry.end) fault)
first_fault (entry ∷ entries) (suc i) d clear below fault =
    later_by entry entries (is_fault entry.end) (suc i) (clear 0 entry (omega arith))
    (first_fault entries i d (rest_clear entry entries i clear) (omega (arith, below)) fault)

pub fault_count : (journal : List Entry) (i : ℕ) (d : Entry) → IsClear journal i → i < length journal → is_fault (get_or journal i d).end ≡ true → i + 1 ≡ length (counted journal)
fault_count journal i d clear below fault = let found = first_fault journal i d clear below fault in omega (arith, found)

-- what counts is a beginning of the journal
begin_by : (entry : Entry) (entries : List Entry) (t : Bool) → take (length (counted entries)) entries ≡ counted entries
    → take (length (entry ∷ (if t then [] else counted entries))) (entry ∷ entries) ≡ entry ∷ (if t then [] else counted entries)
begin_by entry entries true same = refl
begin_by entry entries false same = ap (λ (l : List Entry). entry ∷ l) same

begins : (journal : List Entry) → take (length (counted journal)) journal ≡ counted journal
begins [] = refl
begins (entry ∷ entries) = begin_by entry entries (is_fault entry.end) (begins entries)

short_by : (entry : Entry) (entries : List Entry) (t : Bool) → length (counted entries) ≤ length entries → length (entry ∷ (if t then [] else counted entries)) ≤ suc (length entries)
short_by entry entries true short = omega arith
short_by entry entries false short = omega (arith, short)

counted_short : (journal : List Entry) → length (counted journal) ≤ length journal
counted_short [] = omega arith
counted_short (entry ∷ entries) = short_by entry entries (is_fault entry.end) (counted_short entries)

module _ (p : Program) (lim : Bounds) where
  legal_by : (st : State) (entries : List Entry) (t : Bool) → LegalFrom p lim st (counted entries) → LegalFrom p lim st (if t then [] else counted entries)
  legal_by st entries true legal = tt
  legal_by st entries false legal = legal

  pub counted_legal : (st : State) (journal : List Entry) → LegalFrom p lim st journal → LegalFrom p lim st (counted journal)
  counted_legal st [] legal = tt
  counted_legal st (entry ∷ entries) legal =
      (legal.0, legal.1, legal_by (move_result p lim st entry.mv).0 entries (is_fault entry.end) (counted_legal (move_result p lim st entry.mv).0 entries legal.2))

map_take : (n : ℕ) (journal : List Entry) → map move_of (take n journal) ≡ take n (map move_of journal)
map_take zero journal = refl
map_take (suc n) [] = refl
map_take (suc n) (entry ∷ entries) = ap (λ (l : List Move). entry.mv ∷ l) (map_take n entries)

module _ (p : Program) (lim : Bounds) (moves : List Move) (journal : List Entry) (st : State) (is : IsReplay p lim moves journal st) where
  same_length : length journal ≡ length moves
  same_length = sym (length-map journal move_of) ∙ ap (λ (l : List Move). length l) is.has

  pub count_within : (count : ℕ) → count ≡ length (counted journal) → count ≤ length moves
  count_within count same = let short = counted_short journal in omega (arith, short, same, same_length)

  pub part_length : (count : ℕ) → count ≡ length (counted journal) → count ≡ length (take count moves)
  part_length count same = sym (length-take-le count moves (count_within count same))

  -- all of it counts
  pub counts_whole : (count : ℕ) → count ≡ length (counted journal) → count ≡ length moves → IsCountedRun p lim moves journal st
  counts_whole count same all =
      let long : length journal ≤ length (counted journal) = omega (arith, same, all, same_length) in
      record {
        whole = journal;
        legal = is.run.legal;
        has = is.has;
        journal_is = sym (take_all (length (counted journal)) journal long) ∙ begins journal;
        state_is = is.run.same;
      }

  -- or the beginning was replayed
  part_of : (count : ℕ) (part : List Entry) (last : State) → count ≡ length (counted journal) → IsReplay p lim (take count moves) part last → IsCountedRun p lim moves part last
  part_of count part last same replayed =
      let moves_same : map move_of part ≡ map move_of (counted journal) =
      replayed.has ∙ (ap (take count) (sym is.has) ∙ (sym (map_take count journal) ∙ ap (map move_of) (ap (λ (n : ℕ). take n journal) same ∙ begins journal))) in
      record {
        whole = journal;
        legal = is.run.legal;
        has = is.has;
        journal_is = one_from p lim (start_of p lim) part (counted journal) replayed.run.legal (counted_legal p lim (start_of p lim) journal is.run.legal) moves_same;
        state_is = replayed.run.same;
      }

  pub counts_part : (count : ℕ) (result : Result (List Entry × State) ReplayFail) → count ≡ length (counted journal)
      → IfOk result (λ run. IsReplay p lim (take count moves) run.0 run.1) → IfOk result (λ run. IsCountedRun p lim moves run.0 run.1)
  counts_part count (Ok run) same replayed = part_of count run.0 run.1 same replayed
  counts_part count (Err fail) same replayed = tt

-- the first move of a beginning that is not legal is the first of all
pub first_of_part : (p : Program) (lim : Bounds) (moves : List Move) (count n : ℕ) (why : Why) → IsFirstIllegal p lim (take count moves) n why → IsFirstIllegal p lim moves n why
first_of_part p lim moves count n why first = record {
  before = first.before;
  mv = first.mv;
  after = first.after ++ drop count moves;
  split = sym (take-append-drop count moves) ∙ (ap (λ (l : List Move). l ++ drop count moves) first.split ∙ append_assoc (map move_of first.before) (first.mv ∷ first.after) (drop count moves));
  legal = first.legal;
  counted = first.counted;
  forbids = first.forbids;
}
