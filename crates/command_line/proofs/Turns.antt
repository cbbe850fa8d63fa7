-- One word of `clap`'s walk over the words of a command.
use Rattle.std.proofs.Common.{◌≡◌, ℕ, List, [], ◌∷◌, ◌++◌, length, Bool, true, false, cond, Option, None, Some, codes, drop, encode_utf8, slice_get, refl, sym, ap, ◌∙◌}
use Rattle.std.specs.Option.{option_map_or}
use Rattle.std.specs.Str.{bytes_eq, chars}
use Rattle.clap.specs.Lexer.{long_of, short_of}
use Rattle.clap.specs.Walk.{Held, Outcome, Row, Rule, Step, Text, Waiting, Walk, idle, option, after_flag, after_step, arg_by_index, bundle, bundle_met, bundle_step, is_pending, long_met, long_or_other, option_word, plain, plain_word, pushed, settled, short_or_plain, subcommand_met, to_positional, used, used_by_id, walked}
use Rattle.clap.specs.Simple.{Shape, new_shape}
use Rattle.clap.specs.Kinds.{Kinds, or_else}
use Rattle.clap.specs.Faults.{bundle_fault, bundle_step_fault, flag_word_fault, flags_fault, long_fault, positional_fault, settle_fault, short_fault, step_fault, stray_fault, turn_fault, use_fault}
use Rattle.clap.specs.declared.error.kind.ErrorKind.TheVariants.{InvalidValue, UnknownArgument}
use Rattle.command_line.specs.declared.setting.Setting.{Setting}
use Rattle.command_line.specs.declared.setting.Setting.TheVariants.{Workers, Fuel, Tasks}
use Rattle.command_line.specs.Options.{Item, of, flag, size, Among}
use Rattle.command_line.specs.inner.Reading.{id}
use Rattle.command_line.proofs.Lookups.{rule, rules, by_id, by_short, by_first_place, no_second_place, first_place_found, and_false}
use Rattle.command_line.proofs.Rows.{Use, rows, is_used, is_valued, some_kind, used_value, used_flag, value_fault, second_use, new_use, new_passes, both_empty}

-- the command of these items, as it is built
abbrev pub shape : Text → List Item → Shape
shape name items = record (new_shape name) { rules = rules items; disable_help_flag = true; disable_help_subcommand = true; is_built = true }

-- what is read but not yet a use: nothing, the name of a setting, or an item and its text
pub data Pending : Type 0 where
  none : Pending
  wants : Setting → Pending
  holds : Item → Text → Pending

abbrev pub pending_in : Pending → Option (Text × List Text)
pending_in none = None
pending_in (wants setting) = Some (id (of setting), [])
pending_in (holds item text) = Some (id item, text ∷ [])

abbrev pub waiting_in : Pending → Waiting
waiting_in none = idle
waiting_in (wants setting) = option (id (of setting))
waiting_in (holds item text) = idle

abbrev pub held : List Use → Pending → Held
held uses pending = record { rows = rows uses; pending = pending_in pending; skip = 0 }

-- the walk stands here
abbrev pub at : List Use → Pending → ℕ → Walk
at uses pending place = record { held = held uses pending; waiting = waiting_in pending; position = place; is_trailing = false; stopped = None }

-- what is pending belongs to the command
abbrev pub Fits : List Item → Pending → Type 0
Fits items none = Unit {0}
Fits items (wants setting) = Among (of setting) items
Fits items (holds item text) = Among item items × (is_valued item ≡ true)

-- with what is pending, the uses are these
pub data Settles : List Use → Pending → List Use → Type 0 where
  as_they_are : {uses : List Use} → Settles uses none uses
  with_one : {uses : List Use} {item : Item} {text : Text} → is_used item uses ≡ false → Settles uses (holds item text) (uses ++ (item, text) ∷ [])

module _ (name : Text) (items : List Item) where
  -- ---- settling

  settled_one : (uses : List Use) (item : Item) (text : Text) → Among item items → is_valued item ≡ true
      → settle_fault (rules items) false (held uses (holds item text)) ≡ second_use item (rows uses)
  settled_one uses item text among valued =
      ap (λ (o : Option Rule). option_map_or (λ a. use_fault false a (text ∷ []) (rows uses)) o []) (by_id items item among) ∙ value_fault item valued text (rows uses)

  pub settles_without_fault : (uses : List Use) (pending : Pending) (after : List Use) → Fits items pending → Settles uses pending after
      → settle_fault (rules items) false (held uses pending) ≡ []
  settles_without_fault uses none after fits as_they_are = refl
  settles_without_fault uses (wants setting) after fits s = elim s [ ]
  settles_without_fault uses (holds item text) after fits (with_one new) = settled_one uses item text fits.0 fits.1 ∙ new_passes item (rows uses) new

  pub settles_to : (uses : List Use) (pending : Pending) (after : List Use) → Fits items pending → Settles uses pending after
      → settled (rules items) (held uses pending) ≡ held after none
  settles_to uses none after fits as_they_are = refl
  settles_to uses (wants setting) after fits s = elim s [ ]
  settles_to uses (holds item text) after fits (with_one new) =
      ap (λ (rs : List Row). record { rows = rs; pending = None; skip = 0 })
      (ap (λ (o : Option Rule). used_by_id o (text ∷ []) (rows uses)) (by_id items item fits.0) ∙ used_value item fits.1 text uses new)

  wanted_fails : {P : Type 0} (uses : List Use) (setting : Setting) → Among (of setting) items → settle_fault (rules items) false (held uses (wants setting)) ≡ [] → P
  wanted_fails uses Workers among e =
      some_kind InvalidValue [] (sym (ap (λ (o : Option Rule). option_map_or (λ a. use_fault false a [] (rows uses)) o []) (by_id items (of Workers) among)) ∙ e)
  wanted_fails uses Fuel among e =
      some_kind InvalidValue [] (sym (ap (λ (o : Option Rule). option_map_or (λ a. use_fault false a [] (rows uses)) o []) (by_id items (of Fuel) among)) ∙ e)
  wanted_fails uses Tasks among e =
      some_kind InvalidValue [] (sym (ap (λ (o : Option Rule). option_map_or (λ a. use_fault false a [] (rows uses)) o []) (by_id items (of Tasks) among)) ∙ e)

  pub settling : (uses : List Use) (pending : Pending) → Fits items pending → settle_fault (rules items) false (held uses pending) ≡ [] → (after : List Use) × Settles uses pending after
  settling uses none fits e = (uses, as_they_are)
  settling uses (wants setting) fits e = wanted_fails uses setting fits e
  settling uses (holds item text) fits e =
      (uses ++ (item, text) ∷ [], with_one (new_use item (rows uses) (sym (settled_one uses item text fits.0 fits.1) ∙ e)))

  -- ---- a word, by what it looks like

  -- where the walk is before the word, and the word
  module _ (uses : List Use) (pending : Pending) (place : ℕ) (word : Text) where
    abbrev pub met : Option (Text × Option Text) → Held × Step
    met looks = long_or_other (rules items) (waiting_in pending) word looks (held uses pending)

    abbrev pub fault_by : Option (Text × Option Text) → Kinds
    fault_by looks = or_else (flag_word_fault (rules items) false looks word (held uses pending)) (step_fault (shape name items) place (met looks).0 (met looks).1)

    abbrev pub walk_by : Option (Text × Option Text) → Walk
    walk_by looks = after_step (rules items) word (at uses pending place) (met looks).0 (met looks).1

    no_subcommand : subcommand_met [] (waiting_in pending) word ≡ None
    no_subcommand = elim pending as (λ (p : Pending). subcommand_met [] (waiting_in p) word ≡ None) [ none ↦ refl | wants s ↦ refl | holds i t ↦ refl ]

    pub turn_is : bytes_eq word (codes "--") ≡ false → turn_fault (shape name items) [] (at uses pending place) word ≡ fault_by (long_of word)
    turn_is differs = rw (no_subcommand, differs) refl

    pub walked_is : bytes_eq word (codes "--") ≡ false → walked (rules items) [] (at uses pending place) word ≡ walk_by (long_of word)
    unfolding walked
    walked_is differs = rw (no_subcommand, differs) refl

    -- ---- the word is an option

    abbrev pub long_fault_by : Option Rule → Option Text → Kinds
    long_fault_by found v =
        or_else (long_fault (rules items) false found v (held uses pending))
        (step_fault (shape name items) place (after_flag (rules items) (waiting_in pending) word (long_met (rules items) found v (held uses pending)).0 (long_met (rules items) found v (held uses pending)).1).0
        (after_flag (rules items) (waiting_in pending) word (long_met (rules items) found v (held uses pending)).0 (long_met (rules items) found v (held uses pending)).1).1)

    abbrev pub long_walk_by : Option Rule → Option Text → Walk
    long_walk_by found v =
        after_step (rules items) word (at uses pending place)
        (after_flag (rules items) (waiting_in pending) word (long_met (rules items) found v (held uses pending)).0 (long_met (rules items) found v (held uses pending)).1).0
        (after_flag (rules items) (waiting_in pending) word (long_met (rules items) found v (held uses pending)).0 (long_met (rules items) found v (held uses pending)).1).1

    -- its value is the next word
    pub name_fault : (setting : Setting) → long_fault_by (Some (rule (of setting))) None ≡ or_else (settle_fault (rules items) false (held uses pending)) []
    name_fault Workers = refl
    name_fault Fuel = refl
    name_fault Tasks = refl

    pub name_walk : (setting : Setting) (after : List Use) → settled (rules items) (held uses pending) ≡ held after none
        → long_walk_by (Some (rule (of setting))) None ≡ at after (wants setting) place
    name_walk Workers after settles = ap (λ (h : Held). record { held = record h { pending = Some (id (of Workers), []) }; waiting = option (id (of Workers)); position = place; is_trailing = false; stopped = None }) settles
    name_walk Fuel after settles = ap (λ (h : Held). record { held = record h { pending = Some (id (of Fuel), []) }; waiting = option (id (of Fuel)); position = place; is_trailing = false; stopped = None }) settles
    name_walk Tasks after settles = ap (λ (h : Held). record { held = record h { pending = Some (id (of Tasks), []) }; waiting = option (id (of Tasks)); position = place; is_trailing = false; stopped = None }) settles

    -- its value is in the word, or it is the flag
    abbrev pub react_fault_of : Item → List Text → Kinds
    react_fault_of item values = or_else (or_else (settle_fault (rules items) false (held uses pending)) (use_fault false (rule item) values (settled (rules items) (held uses pending)).rows)) []

    pub value_fault_is : (setting : Setting) (text : Text) → long_fault_by (Some (rule (of setting))) (Some text) ≡ react_fault_of (of setting) (text ∷ [])
    value_fault_is Workers text = refl
    value_fault_is Fuel text = refl
    value_fault_is Tasks text = refl

    pub flag_fault_is : long_fault_by (Some (rule flag)) None ≡ react_fault_of flag []
    flag_fault_is = refl

    abbrev walk_with : List Row → Walk
    walk_with rs = record { held = record { rows = rs; pending = None; skip = 0 }; waiting = idle; position = place; is_trailing = false; stopped = None }

    pub value_walk : (setting : Setting) (text : Text) (after : List Use) → settled (rules items) (held uses pending) ≡ held after none → is_used (of setting) after ≡ false
        → long_walk_by (Some (rule (of setting))) (Some text) ≡ at (after ++ (of setting, text) ∷ []) none place
    value_walk Workers text after settles new = ap (λ (h : Held). walk_with (used (rule (of Workers)) (text ∷ []) h.rows)) settles ∙ ap walk_with (used_value (of Workers) refl text after new)
    value_walk Fuel text after settles new = ap (λ (h : Held). walk_with (used (rule (of Fuel)) (text ∷ []) h.rows)) settles ∙ ap walk_with (used_value (of Fuel) refl text after new)
    value_walk Tasks text after settles new = ap (λ (h : Held). walk_with (used (rule (of Tasks)) (text ∷ []) h.rows)) settles ∙ ap walk_with (used_value (of Tasks) refl text after new)

    pub flag_walk : (after : List Use) → settled (rules items) (held uses pending) ≡ held after none → is_used flag after ≡ false
        → long_walk_by (Some (rule flag)) None ≡ at (after ++ (flag, codes "true") ∷ []) none place
    flag_walk after settles new = ap (λ (h : Held). walk_with (used (rule flag) [] h.rows)) settles ∙ ap walk_with (used_flag after new)

    -- ---- the word is none

    abbrev pub plain_met : Held × Step
    plain_met = plain_word (rules items) (waiting_in pending) word (held uses pending)

    abbrev pub plain_fault : Kinds
    plain_fault = step_fault (shape name items) place plain_met.0 plain_met.1

    abbrev pub plain_walk : Walk
    plain_walk = after_step (rules items) word (at uses pending place) plain_met.0 plain_met.1

    abbrev short_met : Option Text → Held × Step
    short_met looks = short_or_plain (rules items) (waiting_in pending) word looks (held uses pending)

    abbrev short_fault_by : Option Text → Kinds
    short_fault_by looks =
        or_else (option_map_or (λ flags. bundle_fault (rules items) false flags (held uses pending)) looks []) (step_fault (shape name items) place (short_met looks).0 (short_met looks).1)

    abbrev short_walk_by : Option Text → Walk
    short_walk_by looks = after_step (rules items) word (at uses pending place) (short_met looks).0 (short_met looks).1

    -- no argument has a name of one letter
    by_letter : (letter : Option ℕ) (flags : Text) (rest : Text → ℕ → Outcome → Held → Held × Outcome) (rest_fault : Text → ℕ → Held → Kinds)
        → bundle_step_fault (rules items) false letter flags 0 (held uses pending) rest_fault ≡ []
        → bundle_step (rules items) letter flags 0 plain (held uses pending) rest ≡ (held uses pending, plain)
    by_letter None flags rest rest_fault e = refl
    by_letter (Some x) flags rest rest_fault e =
        some_kind UnknownArgument []
        (sym (ap (λ (o : Option Rule). short_fault (rules items) false o (drop (length (encode_utf8 x)) flags) (held uses pending) (rest_fault (drop (length (encode_utf8 x)) flags) 0)) (by_short items x)) ∙ e)

    bundle_is_plain : (flags : Text) → bundle_fault (rules items) false flags (held uses pending) ≡ [] → bundle (rules items) flags (held uses pending) ≡ (held uses pending, plain)
    unfolding flags_fault bundle_met
    bundle_is_plain [] e = refl
    bundle_is_plain (x ∷ flags) e =
        by_letter (slice_get (chars (x ∷ flags)) 0) (x ∷ flags) (bundle_met (rules items) (length flags)) (flags_fault (rules items) false (length flags)) e

    -- a word that begins with one hyphen is refused, or is read as one without it
    short_is_plain : (looks : Option Text) → short_fault_by looks ≡ [] → (plain_fault ≡ []) × (short_walk_by looks ≡ plain_walk)
    short_is_plain None e = (e, refl)
    short_is_plain (Some flags) e =
        let parts = both_empty (bundle_fault (rules items) false flags (held uses pending)) (step_fault (shape name items) place (short_met (Some flags)).0 (short_met (Some flags)).1) e in
        let same = ap (λ (p : Held × Outcome). after_flag (rules items) (waiting_in pending) word p.0 p.1) (bundle_is_plain flags parts.0) in
        (sym (ap (λ (p : Held × Step). step_fault (shape name items) place p.0 p.1) same) ∙ parts.1, ap (λ (p : Held × Step). after_step (rules items) word (at uses pending place) p.0 p.1) same)

    pub refused_or_plain : fault_by None ≡ [] → (plain_fault ≡ []) × (walk_by None ≡ plain_walk)
    refused_or_plain e = short_is_plain (short_of word) e

    pub plain_if_short : short_of word ≡ None → (fault_by None ≡ plain_fault) × (walk_by None ≡ plain_walk)
    plain_if_short looks = (ap short_fault_by looks, ap short_walk_by looks)

  -- ---- a word that is no option

  -- it is the value of the setting that the last word named
  pub beside_passes : (uses : List Use) (setting : Setting) (place : ℕ) (word : Text) → plain_fault uses (wants setting) place word ≡ []
  beside_passes uses setting place word = refl

  pub beside_walk : (uses : List Use) (setting : Setting) (place : ℕ) (word : Text) → Among (of setting) items
      → plain_walk uses (wants setting) place word ≡ at uses (holds (of setting) word) place
  beside_walk uses Workers place word among =
      ap (λ (o : Option Rule). record {
        held = (option_word o (id (of Workers)) word (held uses (wants Workers))).0;
        waiting = (option_word o (id (of Workers)) word (held uses (wants Workers))).1;
        position = place;
        is_trailing = false;
        stopped = None;
      }) (by_id items (of Workers) among)
  beside_walk uses Fuel place word among =
      ap (λ (o : Option Rule). record {
        held = (option_word o (id (of Fuel)) word (held uses (wants Fuel))).0;
        waiting = (option_word o (id (of Fuel)) word (held uses (wants Fuel))).1;
        position = place;
        is_trailing = false;
        stopped = None;
      }) (by_id items (of Fuel) among)
  beside_walk uses Tasks place word among =
      ap (λ (o : Option Rule). record {
        held = (option_word o (id (of Tasks)) word (held uses (wants Tasks))).0;
        waiting = (option_word o (id (of Tasks)) word (held uses (wants Tasks))).1;
        position = place;
        is_trailing = false;
        stopped = None;
      }) (by_id items (of Tasks) among)

  -- nothing waits for it, and it is the size of a load
  abbrev pub Idle : Pending → Type 0
  Idle pending = waiting_in pending ≡ idle

  abbrev alone_fault_by : List Use → Pending → Option Rule → Kinds
  alone_fault_by uses pending found = option_map_or (λ a. positional_fault (rules items) false a (held uses pending)) found (stray_fault (shape name items))

  abbrev idle_fault : List Use → Pending → ℕ → Text → Waiting → Kinds
  idle_fault uses pending place word waiting =
      step_fault (shape name items) place (plain_word (rules items) waiting word (held uses pending)).0 (plain_word (rules items) waiting word (held uses pending)).1

  pub alone_fault : (uses : List Use) (pending : Pending) (place : ℕ) (word : Text) → Idle pending
      → plain_fault uses pending place word ≡ alone_fault_by uses pending (arg_by_index (rules items) place)
  alone_fault uses pending place word free = ap (idle_fault uses pending place word) free

  size_fault : (uses : List Use) (pending : Pending) → positional_fault (rules items) false (rule size) (held uses pending) ≡ settle_fault (rules items) false (held uses pending)
  size_fault uses pending =
      ap (λ (b : Bool). cond b [] (settle_fault (rules items) false (held uses pending))) (and_false (is_pending (rule size) (pending_in pending)))

  pub alone_settles : (uses : List Use) (pending : Pending) (word : Text) → Idle pending → Among size items
      → plain_fault uses pending 1 word ≡ settle_fault (rules items) false (held uses pending)
  alone_settles uses pending word free among =
      alone_fault uses pending 1 word free ∙ ap (alone_fault_by uses pending) (by_first_place items among) ∙ size_fault uses pending

  pub alone_is_first : (uses : List Use) (pending : Pending) (word : Text) → Idle pending → plain_fault uses pending 1 word ≡ [] → Among size items
  alone_is_first uses pending word free e = by_found (arg_by_index (rules items) 1) refl (sym (alone_fault uses pending 1 word free) ∙ e)
    where
      by_found : (found : Option Rule) → arg_by_index (rules items) 1 ≡ found → alone_fault_by uses pending found ≡ [] → Among size items
      by_found None is e = some_kind UnknownArgument [] e
      by_found (Some a) is e = (first_place_found items a is).0

  pub no_second : {P : Type 0} (uses : List Use) (pending : Pending) (word : Text) → Idle pending → plain_fault uses pending 2 word ≡ [] → P
  no_second uses pending word free e =
      some_kind UnknownArgument [] (sym (alone_fault uses pending 2 word free ∙ ap (alone_fault_by uses pending) (no_second_place items)) ∙ e)

  abbrev size_walk : List Use → Pending → Text → Held → Walk
  size_walk uses pending word h = record {
    held = pushed (id size) word h;
    waiting = idle;
    position = 2;
    is_trailing = false;
    stopped = None;
  }

  pub alone_walk : (uses : List Use) (pending : Pending) (word : Text) (after : List Use) → Idle pending → Among size items
      → settled (rules items) (held uses pending) ≡ held after none → plain_walk uses pending 1 word ≡ at after (holds size word) 2
  alone_walk uses pending word after free among settles =
      ap (λ (w : Waiting). after_step (rules items) word (record (at uses pending 1) { waiting = w }) (plain_word (rules items) w word (held uses pending)).0 (plain_word (rules items) w word (held uses pending)).1) free
      ∙ ap (λ (o : Option Rule). to_positional (rules items) o word (record (at uses pending 1) { waiting = idle }) (held uses pending)) (by_first_place items among)
      ∙ ap (λ (b : Bool). size_walk uses pending word (cond b (held uses pending) (settled (rules items) (held uses pending)))) (and_false (is_pending (rule size) (pending_in pending)))
      ∙ ap (size_walk uses pending word) settles
