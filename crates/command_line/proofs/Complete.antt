-- `clap` takes the options of a command, and finds what they choose.
use Rattle.std.proofs.Common.{◌≡◌, ◌≤◌, ◌+◌, ◌||◌, ℕ, List, [], ◌∷◌, ◌++◌, Bool, true, false, fold, Option, None, Some, codes, option_map, refl, sym, ap, ◌∙◌, subst, arith, append_assoc, append-nil}
use Rattle.std.specs.Str.{bytes_eq}
use Rattle.clap.specs.Lexer.{long_of}
use Rattle.clap.specs.Walk.{Held, Row, Rule, Text, Walk, settled, walked}
use Rattle.clap.specs.Faults.{settle_fault, turn_fault, use_fault, walk_fault}
use Rattle.command_line.specs.declared.setting.Setting.{Setting}
use Rattle.command_line.specs.Options.{Item, of, flag, size, Among, option_spelled, Choice, set, journal, load, AreOptions, no_more, value_beside, value_inside, flagged, sized, max_load}
use Rattle.command_line.specs.inner.Reading.{id, has_end}
use Rattle.command_line.proofs.Lookups.{rule, rules, is_named, by_long}
use Rattle.command_line.proofs.Rows.{Use, rows, is_used, passes_both, second_use, new_passes, value_fault, flag_fault}
use Rattle.command_line.proofs.Turns.{shape, Pending, none, wants, holds, held, at, Fits, Settles, as_they_are, with_one, settles_without_fault, settles_to, fault_by, walk_by, turn_is, walked_is, long_fault_by, long_walk_by, name_fault, name_walk, react_fault_of, value_fault_is, value_walk, flag_walk, plain_fault, plain_walk, plain_if_short, beside_passes, beside_walk, Idle, alone_settles, alone_walk}
use Rattle.command_line.proofs.Shapes.{IsPlain, long_spelled, long_spelled_with, no_end_spelled, no_end_spelled_with, value_is_plain, number_is_plain}
use Rattle.command_line.proofs.Uses.{once, times, times_join, own_once, never_used, all_chosen, chosen, chosen_first, times_chosen}

module _ (name : Text) (items : List Item) where
  -- `clap` takes the words, and comes to these uses
  pub record Passes (uses : List Use) (pending : Pending) (place : ℕ) (words : List Text) (last : List Use) : Type 0 where
    pub faults : walk_fault (shape name items) [] (at uses pending place) words ≡ []
    pub settles : settle_fault (rules items) false (fold (walked (rules items) []) (at uses pending place) words).held ≡ []
    pub rows_are : (settled (rules items) (fold (walked (rules items) []) (at uses pending place) words).held).rows ≡ rows last
    pub goes_on : (fold (walked (rules items) []) (at uses pending place) words).stopped ≡ None
    pub ends : has_end words ≡ false

  passes_none : (uses : List Use) (pending : Pending) (place : ℕ) (base : List Use) → Fits items pending → Settles uses pending base → Passes uses pending place [] base
  unfolding walk_fault
  passes_none uses pending place base fits s = record {
    faults = refl;
    settles = settles_without_fault name items uses pending base fits s;
    rows_are = ap (λ (h : Held). h.rows) (settles_to name items uses pending base fits s);
    goes_on = refl;
    ends = refl;
  }

  passes_more : (uses : List Use) (pending : Pending) (place : ℕ) (word : Text) (words : List Text) (after : List Use) (left : Pending) (next_place : ℕ) (last : List Use)
      → bytes_eq word (codes "--") ≡ false → fault_by name items uses pending place word (long_of word) ≡ []
      → walk_by name items uses pending place word (long_of word) ≡ at after left next_place
      → Passes after left next_place words last → Passes uses pending place (word ∷ words) last
  unfolding walk_fault
  passes_more uses pending place word words after left next_place last differs fault goes p =
      let there = walked_is name items uses pending place word differs ∙ goes in
      record {
        faults =
            passes_both (turn_fault (shape name items) [] (at uses pending place) word) (walk_fault (shape name items) [] (walked (rules items) [] (at uses pending place) word) words)
            (turn_is name items uses pending place word differs ∙ fault) (subst (λ (w : Walk). walk_fault (shape name items) [] w words ≡ []) (sym there) p.faults);
        settles = subst (λ (w : Walk). settle_fault (rules items) false (fold (walked (rules items) []) w words).held ≡ []) (sym there) p.settles;
        rows_are = subst (λ (w : Walk). (settled (rules items) (fold (walked (rules items) []) w words).held).rows ≡ rows last) (sym there) p.rows_are;
        goes_on = subst (λ (w : Walk). (fold (walked (rules items) []) w words).stopped ≡ None) (sym there) p.goes_on;
        ends = ap (λ (b : Bool). b || has_end words) differs ∙ p.ends;
      }

  -- ---- one option

  module _ (uses : List Use) (pending : Pending) (place : ℕ) (base : List Use) (fits : Fits items pending) (s : Settles uses pending base) where
    long_fault_is : (word : Text) (item : Item) (value : Option Text) → is_named item ≡ true → Among item items → long_of word ≡ Some (id item, value)
        → fault_by name items uses pending place word (long_of word) ≡ long_fault_by name items uses pending place word (Some (rule item)) value
    long_fault_is word item value named among looks =
        ap (fault_by name items uses pending place word) looks ∙ ap (λ (found : Option Rule). long_fault_by name items uses pending place word found value) (by_long items item named among)

    long_walk_is : (word : Text) (item : Item) (value : Option Text) → is_named item ≡ true → Among item items → long_of word ≡ Some (id item, value)
        → walk_by name items uses pending place word (long_of word) ≡ long_walk_by name items uses pending place word (Some (rule item)) value
    long_walk_is word item value named among looks =
        ap (walk_by name items uses pending place word) looks ∙ ap (λ (found : Option Rule). long_walk_by name items uses pending place word found value) (by_long items item named among)

    settles_well : settle_fault (rules items) false (held uses pending) ≡ []
    settles_well = settles_without_fault name items uses pending base fits s

    settles_here : settled (rules items) (held uses pending) ≡ held base none
    settles_here = settles_to name items uses pending base fits s

    reacts : (word : Text) (item : Item) (values : List Text) → ((rs : List Row) → use_fault false (rule item) values rs ≡ second_use item rs) → is_used item base ≡ false
        → react_fault_of name items uses pending place word item values ≡ []
    reacts word item values fault new =
        passes_both _ [] (passes_both (settle_fault (rules items) false (held uses pending)) _ settles_well
        (ap (λ (h : Held). use_fault false (rule item) values h.rows) settles_here ∙ fault (rows base) ∙ new_passes item (rows base) new)) refl

    pub name_passes : (setting : Setting) (words : List Text) (last : List Use) → Among (of setting) items → Passes base (wants setting) place words last
        → Passes uses pending place (option_spelled setting ∷ words) last
    name_passes setting words last among p =
        passes_more uses pending place (option_spelled setting) words base (wants setting) place last (no_end_spelled setting)
        (long_fault_is (option_spelled setting) (of setting) None refl among (long_spelled setting) ∙ name_fault name items uses pending place (option_spelled setting) setting
        ∙ passes_both (settle_fault (rules items) false (held uses pending)) [] settles_well refl)
        (long_walk_is (option_spelled setting) (of setting) None refl among (long_spelled setting) ∙ name_walk name items uses pending place (option_spelled setting) setting base settles_here) p

    pub inside_passes : (setting : Setting) (value : Text) (words : List Text) (last : List Use) → Among (of setting) items → is_used (of setting) base ≡ false
        → Passes (base ++ (of setting, value) ∷ []) none place words last → Passes uses pending place ((option_spelled setting ++ (codes "=" ++ value)) ∷ words) last
    inside_passes setting value words last among new p =
        let word = option_spelled setting ++ (codes "=" ++ value) in
        passes_more uses pending place word words (base ++ (of setting, value) ∷ []) none place last (no_end_spelled_with setting value)
        (long_fault_is word (of setting) (Some value) refl among (long_spelled_with setting value) ∙ value_fault_is name items uses pending place word setting value
        ∙ reacts word (of setting) (value ∷ []) (value_fault (of setting) refl value) new)
        (long_walk_is word (of setting) (Some value) refl among (long_spelled_with setting value) ∙ value_walk name items uses pending place word setting value base settles_here new) p

    pub flag_passes : (words : List Text) (last : List Use) → Among flag items → is_used flag base ≡ false
        → Passes (base ++ (flag, codes "true") ∷ []) none place words last → Passes uses pending place (codes "--journal" ∷ words) last
    flag_passes words last among new p =
        passes_more uses pending place (codes "--journal") words (base ++ (flag, codes "true") ∷ []) none place last refl
        (long_fault_is (codes "--journal") flag None refl among refl ∙ reacts (codes "--journal") flag [] flag_fault new)
        (long_walk_is (codes "--journal") flag None refl among refl ∙ flag_walk name items uses pending place (codes "--journal") base settles_here new) p

    pub alone_passes : (word : Text) (words : List Text) (last : List Use) → Idle name items pending → place ≡ 1 → Among size items → IsPlain word
        → Passes base (holds size word) 2 words last → Passes uses pending place (word ∷ words) last
    alone_passes word words last free first among plain p =
        passes_more uses pending place word words base (holds size word) 2 last plain.no_end
        (ap (fault_by name items uses pending place word) plain.no_long ∙ (plain_if_short name items uses pending place word plain.no_short).0
        ∙ ap (λ (n : ℕ). plain_fault name items uses pending n word) first ∙ alone_settles name items uses pending word free among ∙ settles_well)
        (ap (walk_by name items uses pending place word) plain.no_long ∙ (plain_if_short name items uses pending place word plain.no_short).1
        ∙ ap (λ (n : ℕ). plain_walk name items uses pending n word) first ∙ alone_walk name items uses pending word base free among settles_here) p

  pub value_passes : (uses : List Use) (setting : Setting) (place : ℕ) (word : Text) (words : List Text) (last : List Use) → Among (of setting) items → IsPlain word
      → Passes uses (holds (of setting) word) place words last → Passes uses (wants setting) place (word ∷ words) last
  value_passes uses setting place word words last among plain p =
      passes_more uses (wants setting) place word words uses (holds (of setting) word) place last plain.no_end
      (ap (fault_by name items uses (wants setting) place word) plain.no_long ∙ (plain_if_short name items uses (wants setting) place word plain.no_short).0
      ∙ beside_passes name items uses setting place word)
      (ap (walk_by name items uses (wants setting) place word) plain.no_long ∙ (plain_if_short name items uses (wants setting) place word plain.no_short).1
      ∙ beside_walk name items uses setting place word among) p

  -- ---- all options

  -- nothing is chosen that was used or is chosen twice
  abbrev pub Room : List Use → List Choice → Type 0
  Room base choices = (item : Item) → times item base + times_chosen item choices ≤ 1

  pub record Done (uses : List Use) (pending : Pending) (place : ℕ) (words : List Text) (base : List Use) (choices : List Choice) : Type 0 where
    pub more : List Use
    pub are : all_chosen more ≡ Some choices
    pub passes : Passes uses pending place words (base ++ more)

  is_new : (item : Item) (base : List Use) (n : ℕ) → times item base + (once item item + n) ≤ 1 → is_used item base ≡ false
  is_new item base n room = never_used item base (omega (arith, own_once item, room))

  room_after : (base : List Use) (item : Item) (text : Text) (choices : List Choice) → ((other : Item) → times other base + (once other item + times_chosen other choices) ≤ 1)
      → Room (base ++ (item, text) ∷ []) choices
  room_after base item text choices room other = omega (arith, times_join other base ((item, text) ∷ []), room other)

  place_after : (base : List Use) (u : Use) (place : ℕ) → (times size base ≡ 0 → place ≡ 1) → times size (base ++ u ∷ []) ≡ 0 → place ≡ 1
  place_after base u place first e = first (omega (arith, times_join size base (u ∷ []), e))

  is_idle : {uses : List Use} {pending : Pending} {base : List Use} → Settles uses pending base → Idle name items pending
  is_idle as_they_are = refl
  is_idle (with_one new) = refl

  -- the options after one more use
  with_use : (uses : List Use) (pending : Pending) (place : ℕ) (words : List Text) (base : List Use) (u : Use) (choice : Choice) (choices : List Choice) (more : List Use)
      → chosen u ≡ Some choice → all_chosen more ≡ Some choices → Passes uses pending place words ((base ++ u ∷ []) ++ more) → Done uses pending place words base (choice ∷ choices)
  with_use uses pending place words base u choice choices more is are p = record {
    more = u ∷ more;
    are = chosen_first u more choice choices is are;
    passes = subst (Passes uses pending place words) (append_assoc base (u ∷ []) more) p;
  }

  pub done : {words : List Text} {choices : List Choice} → AreOptions items words choices → (uses : List Use) (pending : Pending) (place : ℕ) (base : List Use)
      → Fits items pending → Settles uses pending base → Room base choices → (times size base ≡ 0 → place ≡ 1) → Done uses pending place words base choices
  done no_more uses pending place base fits s room first =
      record { more = []; are = refl; passes = subst (Passes uses pending place []) (sym (append-nil base)) (passes_none uses pending place base fits s) }
  done (value_beside {words} {choices} setting value number among is rest) uses pending place base fits s room first =
      let u : Use = (of setting, value) in
      let new = is_new (of setting) base (times_chosen (of setting) choices) (room (of setting)) in
      let d = done rest base (holds (of setting) value) place (base ++ u ∷ []) (among, refl) (with_one new) (room_after base (of setting) value choices room) (place_after base u place first) in
      with_use uses pending place (option_spelled setting ∷ value ∷ words) base u (set setting number) choices d.more (ap (λ (o : Option ℕ). option_map (λ n. set setting n) o) is) d.are
      (name_passes uses pending place base fits s setting (value ∷ words) ((base ++ u ∷ []) ++ d.more) among
      (value_passes base setting place value words ((base ++ u ∷ []) ++ d.more) among (value_is_plain setting value number is) d.passes))
  done (value_inside {words} {choices} setting value number among is rest) uses pending place base fits s room first =
      let u : Use = (of setting, value) in
      let new = is_new (of setting) base (times_chosen (of setting) choices) (room (of setting)) in
      let d = done rest (base ++ u ∷ []) none place (base ++ u ∷ []) tt as_they_are (room_after base (of setting) value choices room) (place_after base u place first) in
      with_use uses pending place ((option_spelled setting ++ (codes "=" ++ value)) ∷ words) base u (set setting number) choices d.more (ap (λ (o : Option ℕ). option_map (λ n. set setting n) o) is) d.are
      (inside_passes uses pending place base fits s setting value words ((base ++ u ∷ []) ++ d.more) among new d.passes)
  done (flagged {words} {choices} among rest) uses pending place base fits s room first =
      let u : Use = (flag, codes "true") in
      let new = is_new flag base (times_chosen flag choices) (room flag) in
      let d = done rest (base ++ u ∷ []) none place (base ++ u ∷ []) tt as_they_are (room_after base flag (codes "true") choices room) (place_after base u place first) in
      with_use uses pending place (codes "--journal" ∷ words) base u journal choices d.more refl d.are
      (flag_passes uses pending place base fits s words ((base ++ u ∷ []) ++ d.more) among new d.passes)
  done (sized {words} {choices} value number among is rest) uses pending place base fits s room first =
      let u : Use = (size, value) in
      let new = is_new size base (times_chosen size choices) (room size) in
      let unused : times size base ≡ 0 = omega (arith, own_once size, room size) in
      let d = done rest base (holds size value) 2 (base ++ u ∷ []) (among, refl) (with_one new) (room_after base size value choices room)
      (λ none. absurd (omega (arith, times_join size base (u ∷ []), own_once size, none))) in
      with_use uses pending place (value ∷ words) base u (load number) choices d.more (ap (λ (o : Option ℕ). option_map (λ n. load n) o) is) d.are
      (alone_passes uses pending place base fits s value words ((base ++ u ∷ []) ++ d.more) (is_idle s) (first unused) among (number_is_plain 1 max_load value number is) d.passes)
