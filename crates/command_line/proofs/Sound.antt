-- Words that `clap` takes are uses of items, one after another, none of them twice.
use Rattle.std.proofs.Common.{◌≡◌, ◌⊎◌, inl, inr, ◌||◌, ℕ, List, [], ◌∷◌, ◌++◌, Bool, true, false, fold, Option, None, Some, codes, refl, sym, ap, ◌∙◌, subst, true≢false}
use Rattle.std.specs.Str.{bytes_eq}
use Rattle.clap.specs.Lexer.{long_of}
use Rattle.clap.specs.Walk.{Held, Row, Rule, Text, Walk, arg_by_long, settled, walked}
use Rattle.clap.specs.Kinds.{or_else}
use Rattle.clap.specs.Faults.{settle_fault, turn_fault, use_fault, walk_fault}
use Rattle.clap.specs.declared.error.kind.ErrorKind.TheVariants.{TooManyValues, UnknownArgument}
use Rattle.command_line.specs.declared.setting.Setting.{Setting}
use Rattle.command_line.specs.Options.{Item, of, flag, size, Among, option_spelled}
use Rattle.command_line.specs.inner.Reading.{id, has_end}
use Rattle.command_line.proofs.Lookups.{rule, rules, is_named, long_found}
use Rattle.command_line.proofs.Rows.{Use, rows, is_used, some_kind, both_empty, new_use, second_use, value_fault, flag_fault}
use Rattle.command_line.proofs.Turns.{shape, Pending, none, wants, holds, held, at, Fits, Settles, settles_to, settling, fault_by, walk_by, turn_is, walked_is, long_fault_by, long_walk_by, name_fault, name_walk, react_fault_of, value_fault_is, value_walk, flag_walk, plain_fault, plain_walk, refused_or_plain, Idle, beside_walk, alone_settles, alone_is_first, no_second, alone_walk}
use Rattle.command_line.proofs.Shapes.{IsLong, is_long, spelled_is, spelled_with}

-- the words are uses of the items, which come after those that were settled before
pub data Reads (items : List Item) : List Use → Pending → List Text → List Use → Type 0 where
  ended : {uses : List Use} {pending : Pending} {after : List Use} → Settles uses pending after → Reads items uses pending [] after
  named : {uses : List Use} {pending : Pending} {words : List Text} {last : List Use} (setting : Setting) (after : List Use) → Among (of setting) items → Settles uses pending after
      → Reads items after (wants setting) words last → Reads items uses pending (option_spelled setting ∷ words) last
  beside : {uses : List Use} {words : List Text} {last : List Use} (setting : Setting) (value : Text)
      → Reads items uses (holds (of setting) value) words last → Reads items uses (wants setting) (value ∷ words) last
  inside : {uses : List Use} {pending : Pending} {words : List Text} {last : List Use} (setting : Setting) (value : Text) (after : List Use) → Among (of setting) items
      → Settles uses pending after → is_used (of setting) after ≡ false → Reads items (after ++ (of setting, value) ∷ []) none words last
      → Reads items uses pending ((option_spelled setting ++ (codes "=" ++ value)) ∷ words) last
  flagged_so : {uses : List Use} {pending : Pending} {words : List Text} {last : List Use} (after : List Use) → Among flag items
      → Settles uses pending after → is_used flag after ≡ false → Reads items (after ++ (flag, codes "true") ∷ []) none words last
      → Reads items uses pending (codes "--journal" ∷ words) last
  alone : {uses : List Use} {pending : Pending} {words : List Text} {last : List Use} (value : Text) (after : List Use) → Among size items
      → Settles uses pending after → Reads items after (holds size value) words last → Reads items uses pending (value ∷ words) last

abbrev pub IsPlace : ℕ → Type 0
IsPlace place = (place ≡ 1) ⊎ (place ≡ 2)

module _ (name : Text) (items : List Item) where
  -- where the walk is after a word
  record Next (uses : List Use) (pending : Pending) (word : Text) (walk : Walk) : Type 0 where
    after : List Use
    left : Pending
    place : ℕ
    fits : Fits items left
    is_place : IsPlace place
    walk_is : walk ≡ at after left place
    reads : (words : List Text) (last : List Use) → Reads items after left words last → Reads items uses pending (word ∷ words) last

  module _ (uses : List Use) (pending : Pending) (place : ℕ) (word : Text) (fits : Fits items pending) (is_place : IsPlace place) where
    reads_as : (spelling : Text) → word ≡ spelling → (words : List Text) (last : List Use) → Reads items uses pending (spelling ∷ words) last → Reads items uses pending (word ∷ words) last
    reads_as spelling is words last reads = subst (λ (w : Text). Reads items uses pending (w ∷ words) last) (sym is) reads

    next_name : (setting : Setting) → Among (of setting) items → word ≡ option_spelled setting → or_else (settle_fault (rules items) false (held uses pending)) [] ≡ []
        → Next uses pending word (long_walk_by name items uses pending place word (Some (rule (of setting))) None)
    next_name setting among is e =
        let s = settling name items uses pending fits (both_empty (settle_fault (rules items) false (held uses pending)) [] e).0 in
        record {
          after = s.0;
          left = wants setting;
          place = place;
          fits = among;
          is_place = is_place;
          walk_is = name_walk name items uses pending place word setting s.0 (settles_to name items uses pending s.0 fits s.1);
          reads = λ words last reads. reads_as (option_spelled setting) is words last (named setting s.0 among s.1 reads);
        }

    -- what is asked of a use that comes at once
    reacts : (item : Item) (values : List Text) → ((rs : List Row) → use_fault false (rule item) values rs ≡ second_use item rs)
        → react_fault_of name items uses pending place word item values ≡ [] → (after : List Use) × Settles uses pending after × (is_used item after ≡ false)
    reacts item values fault e =
        let outer = both_empty (or_else (settle_fault (rules items) false (held uses pending)) (use_fault false (rule item) values (settled (rules items) (held uses pending)).rows)) [] e in
        let inner = both_empty (settle_fault (rules items) false (held uses pending)) (use_fault false (rule item) values (settled (rules items) (held uses pending)).rows) outer.0 in
        let s = settling name items uses pending fits inner.0 in
        (s.0, s.1, new_use item (rows s.0) (sym (ap (λ (h : Held). use_fault false (rule item) values h.rows) (settles_to name items uses pending s.0 fits s.1) ∙ fault (rows s.0)) ∙ inner.1))

    next_value : (setting : Setting) (value : Text) → Among (of setting) items → word ≡ option_spelled setting ++ (codes "=" ++ value)
        → react_fault_of name items uses pending place word (of setting) (value ∷ []) ≡ []
        → Next uses pending word (long_walk_by name items uses pending place word (Some (rule (of setting))) (Some value))
    next_value setting value among is e =
        let s = reacts (of setting) (value ∷ []) (value_fault (of setting) refl value) e in
        record {
          after = s.0 ++ (of setting, value) ∷ [];
          left = none;
          place = place;
          fits = tt;
          is_place = is_place;
          walk_is = value_walk name items uses pending place word setting value s.0 (settles_to name items uses pending s.0 fits s.1) s.2;
          reads = λ words last reads. reads_as (option_spelled setting ++ (codes "=" ++ value)) is words last (inside setting value s.0 among s.1 s.2 reads);
        }

    next_flag : Among flag items → word ≡ codes "--journal" → react_fault_of name items uses pending place word flag [] ≡ []
        → Next uses pending word (long_walk_by name items uses pending place word (Some (rule flag)) None)
    next_flag among is e =
        let s = reacts flag [] flag_fault e in
        record {
          after = s.0 ++ (flag, codes "true") ∷ [];
          left = none;
          place = place;
          fits = tt;
          is_place = is_place;
          walk_is = flag_walk name items uses pending place word s.0 (settles_to name items uses pending s.0 fits s.1) s.2;
          reads = λ words last reads. reads_as (codes "--journal") is words last (flagged_so s.0 among s.1 s.2 reads);
        }

    -- an option of the command
    next_item : (item : Item) (value : Option Text) → is_named item ≡ true → Among item items → IsLong word (id item) value
        → long_fault_by name items uses pending place word (Some (rule item)) value ≡ []
        → Next uses pending word (long_walk_by name items uses pending place word (Some (rule item)) value)
    next_item (of setting) None has among looks e =
        next_name setting among (looks.word_is ∙ ap (λ (xs : Text). 45 ∷ 45 ∷ xs) looks.joined ∙ spelled_is setting) (sym (name_fault name items uses pending place word setting) ∙ e)
    next_item (of setting) (Some value) has among looks e =
        next_value setting value among (looks.word_is ∙ ap (λ (xs : Text). 45 ∷ 45 ∷ xs) looks.joined ∙ spelled_with setting value)
        (sym (value_fault_is name items uses pending place word setting value) ∙ e)
    next_item flag None has among looks e = next_flag among (looks.word_is ∙ ap (λ (xs : Text). 45 ∷ 45 ∷ xs) looks.joined) e
    next_item flag (Some value) has among looks e = some_kind TooManyValues [] e
    next_item size value has among looks e = absurd (true≢false (sym has))

    next_long : (long : Text) (value : Option Text) → long_of word ≡ Some (long, value) → (found : Option Rule) → arg_by_long (rules items) long ≡ found
        → long_fault_by name items uses pending place word found value ≡ [] → Next uses pending word (long_walk_by name items uses pending place word found value)
    next_long long value looks None is e = some_kind UnknownArgument [] e
    next_long long value looks (Some a) is e =
        let n = long_found items long a is in
        subst (λ (b : Rule). Next uses pending word (long_walk_by name items uses pending place word (Some b) value)) (sym n.rule_is)
        (next_item n.item value n.named n.among (subst (λ (t : Text). IsLong word t value) (sym n.name_is) (is_long word long value looks))
        (subst (λ (b : Rule). long_fault_by name items uses pending place word (Some b) value ≡ []) n.rule_is e))

  -- a word that no option waits for
  next_first : (uses : List Use) (pending : Pending) (word : Text) → Idle name items pending → Fits items pending
      → plain_fault name items uses pending 1 word ≡ [] → Next uses pending word (plain_walk name items uses pending 1 word)
  next_first uses pending word free fits e =
      let among = alone_is_first name items uses pending word free e in
      let s = settling name items uses pending fits (sym (alone_settles name items uses pending word free among) ∙ e) in
      record {
        after = s.0;
        left = holds size word;
        place = 2;
        fits = (among, refl);
        is_place = inr refl;
        walk_is = alone_walk name items uses pending word s.0 free among (settles_to name items uses pending s.0 fits s.1);
        reads = λ words last reads. alone word s.0 among s.1 reads;
      }

  next_alone : (uses : List Use) (pending : Pending) (place : ℕ) (word : Text) → Idle name items pending → Fits items pending → IsPlace place
      → plain_fault name items uses pending place word ≡ [] → Next uses pending word (plain_walk name items uses pending place word)
  next_alone uses pending place word free fits (inl is) e =
      subst (λ (n : ℕ). Next uses pending word (plain_walk name items uses pending n word)) (sym is)
      (next_first uses pending word free fits (subst (λ (n : ℕ). plain_fault name items uses pending n word ≡ []) is e))
  next_alone uses pending place word free fits (inr is) e =
      no_second name items uses pending word free (subst (λ (n : ℕ). plain_fault name items uses pending n word ≡ []) is e)

  -- a word that is no option
  next_plain : (uses : List Use) (pending : Pending) (place : ℕ) (word : Text) → Fits items pending → IsPlace place
      → plain_fault name items uses pending place word ≡ [] → Next uses pending word (plain_walk name items uses pending place word)
  next_plain uses (wants setting) place word fits is_place e = record {
    after = uses;
    left = holds (of setting) word;
    place = place;
    fits = (fits, refl);
    is_place = is_place;
    walk_is = beside_walk name items uses setting place word fits;
    reads = λ words last reads. beside setting word reads;
  }
  next_plain uses none place word fits is_place e = next_alone uses none place word refl fits is_place e
  next_plain uses (holds item text) place word fits is_place e = next_alone uses (holds item text) place word refl fits is_place e

  -- ---- a word, and all the words

  next_of : (uses : List Use) (pending : Pending) (place : ℕ) (word : Text) → Fits items pending → IsPlace place
      → fault_by name items uses pending place word (long_of word) ≡ [] → Next uses pending word (walk_by name items uses pending place word (long_of word))
  next_of uses pending place word fits is_place e = by_looks (long_of word) refl e
    where
      by_looks : (looks : Option (Text × Option Text)) → long_of word ≡ looks → fault_by name items uses pending place word looks ≡ []
          → Next uses pending word (walk_by name items uses pending place word looks)
      by_looks (Some (long, value)) is e = next_long uses pending place word fits is_place long value is (arg_by_long (rules items) long) refl e
      by_looks None is e =
          let plain = refused_or_plain name items uses pending place word e in
          subst (Next uses pending word) (sym plain.1) (next_plain uses pending place word fits is_place plain.0)

  -- what the words come to
  pub record Comes (uses : List Use) (pending : Pending) (words : List Text) (walk : Walk) : Type 0 where
    pub last : List Use
    pub reads : Reads items uses pending words last
    pub rows_are : (settled (rules items) walk.held).rows ≡ rows last

  no_end : (word : Text) (words : List Text) → has_end (word ∷ words) ≡ false → (bytes_eq word (codes "--") ≡ false) × (has_end words ≡ false)
  no_end word words e = by_test (bytes_eq word (codes "--")) e
    where
      by_test : (b : Bool) → (b || has_end words) ≡ false → (b ≡ false) × (has_end words ≡ false)
      by_test true e = absurd (true≢false e)
      by_test false e = (refl, e)

  pub comes : (words : List Text) (uses : List Use) (pending : Pending) (place : ℕ) → Fits items pending → IsPlace place → has_end words ≡ false
      → walk_fault (shape name items) [] (at uses pending place) words ≡ []
      → settle_fault (rules items) false (fold (walked (rules items) []) (at uses pending place) words).held ≡ []
      → Comes uses pending words (fold (walked (rules items) []) (at uses pending place) words)
  unfolding walk_fault
  comes [] uses pending place fits is_place ends e settles =
      let s = settling name items uses pending fits settles in
      record { last = s.0; reads = ended s.1; rows_are = ap (λ (h : Held). h.rows) (settles_to name items uses pending s.0 fits s.1) }
  comes (word ∷ words) uses pending place fits is_place ends e settles =
      let apart = no_end word words ends in
      let parts = both_empty (turn_fault (shape name items) [] (at uses pending place) word)
      (walk_fault (shape name items) [] (walked (rules items) [] (at uses pending place) word) words) e in
      let n = next_of uses pending place word fits is_place (sym (turn_is name items uses pending place word apart.0) ∙ parts.0) in
      let there = walked_is name items uses pending place word apart.0 ∙ n.walk_is in
      let c = comes words n.after n.left n.place n.fits n.is_place apart.1
      (subst (λ (w : Walk). walk_fault (shape name items) [] w words ≡ []) there parts.1)
      (subst (λ (w : Walk). settle_fault (rules items) false (fold (walked (rules items) []) w words).held ≡ []) there settles) in
      record {
        last = c.last;
        reads = n.reads words c.last c.reads;
        rows_are = subst (λ (w : Walk). (settled (rules items) (fold (walked (rules items) []) w words).held).rows ≡ rows c.last) (sym there) c.rows_are;
      }
