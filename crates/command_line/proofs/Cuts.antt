-- Uses of items make options, if each of their texts is the number that is wanted.
use Rattle.std.proofs.Common.{◌≡◌, List, [], ◌∷◌, ◌++◌, Some, codes, refl, sym, ◌∙◌, subst, append_assoc, append-nil}
use Rattle.std.specs.Str.{bytes_eq}
use Rattle.std.proofs.lemmas.Option.{cond_some, same_Some}
use Rattle.clap.specs.Walk.{Text}
use Rattle.command_line.specs.declared.setting.Setting.{Setting}
use Rattle.command_line.specs.Options.{Item, of, flag, size, Among, option_spelled, Choice, set, journal, load, AreOptions, no_more, value_beside, value_inside, flagged, sized, number_for, size_in}
use Rattle.command_line.proofs.Rows.{Use}
use Rattle.command_line.proofs.Turns.{Pending, none, wants, holds, Settles, as_they_are, with_one}
use Rattle.command_line.proofs.Uses.{Distinct, one_more, chosen, all_chosen, map_some, splits}
use Rattle.command_line.proofs.Sound.{Reads, ended, named, beside, inside, flagged_so, alone}

-- ---- nothing is used twice

settled_distinct : {uses : List Use} {pending : Pending} {after : List Use} → Settles uses pending after → Distinct uses → Distinct after
settled_distinct as_they_are d = d
settled_distinct (with_one {uses} {item} {text} new) d = one_more uses item text d new

pub read_distinct : {items : List Item} {uses : List Use} {pending : Pending} {words : List Text} {last : List Use} → Reads items uses pending words last → Distinct uses → Distinct last
read_distinct (ended s) d = settled_distinct s d
read_distinct (named setting after among s rest) d = read_distinct rest (settled_distinct s d)
read_distinct (beside setting value rest) d = read_distinct rest d
read_distinct (inside setting value after among s new rest) d = read_distinct rest (one_more after (of setting) value (settled_distinct s d) new)
read_distinct (flagged_so after among s new rest) d = read_distinct rest (one_more after flag (codes "true") (settled_distinct s d) new)
read_distinct (alone value after among s rest) d = read_distinct rest (settled_distinct s d)

-- ---- options

-- the uses are of the command's items, and the flag's text is what `clap` gives it
abbrev pub HasFlagText : Use → Type 0
HasFlagText (flag, text) = text ≡ codes "true"
HasFlagText (of setting, text) = Unit {0}
HasFlagText (size, text) = Unit {0}

abbrev pub Proper : List Item → List Use → Type 0
Proper items [] = Unit {0}
Proper items (u ∷ uses) = (Among u.0 items × HasFlagText u) × Proper items uses

-- the words are options, which the uses after `base` make
pub record Cut (items : List Item) (words : List Text) (base last : List Use) : Type 0 where
  pub more : List Use
  pub are : last ≡ base ++ more
  pub proper : Proper items more
  pub options : (choices : List Choice) → all_chosen more ≡ Some choices → AreOptions items words choices

grown : {items : List Item} {words : List Text} {base last : List Use} (u : Use) (spelling : List Text) → Among u.0 items → HasFlagText u
    → ((choice : Choice) (choices : List Choice) → chosen u ≡ Some choice → AreOptions items words choices → AreOptions items spelling (choice ∷ choices))
    → Cut items words (base ++ u ∷ []) last → Cut items spelling base last
grown {items} {words} {base} {last} u spelling among text extend c = record {
  more = u ∷ c.more;
  are = c.are ∙ append_assoc base (u ∷ []) c.more;
  proper = ((among, text), c.proper);
  options = λ choices e.
      let s = splits u c.more choices e in
      subst (AreOptions items spelling) s.are (extend s.choice s.others s.choice_is (c.options s.others s.others_are));
}

abbrev Cuts : List Item → List Use → Pending → List Text → List Use → Type 0
Cuts items uses none words last = Cut items words uses last
Cuts items uses (holds item text) words last = Cut items words (uses ++ (item, text) ∷ []) last
Cuts items uses (wants setting) words last = (value : Text) × (rest : List Text) × (words ≡ value ∷ rest) × Cut items rest (uses ++ (of setting, value) ∷ []) last

settled_cut : {items : List Item} {uses : List Use} {pending : Pending} {after : List Use} {words : List Text} {last : List Use} → Settles uses pending after
    → Cut items words after last → Cuts items uses pending words last
settled_cut as_they_are c = c
settled_cut (with_one new) c = c

beside_cut : {items : List Item} {base last : List Use} (setting : Setting) (words : List Text) → Among (of setting) items → Cuts items base (wants setting) words last
    → Cut items (option_spelled setting ∷ words) base last
beside_cut {items} {base} {last} setting words among (value, rest, are, c) =
    subst (λ (ws : List Text). Cut items (option_spelled setting ∷ ws) base last) (sym are)
    (grown (of setting, value) (option_spelled setting ∷ value ∷ rest) among tt (λ choice choices e options.
    map_some (λ number. set setting number) (number_for setting value) choice e (λ number is same.
    subst (λ (k : Choice). AreOptions items (option_spelled setting ∷ value ∷ rest) (k ∷ choices)) same (value_beside setting value number among is options))) c)

read_cuts : {items : List Item} {uses : List Use} {pending : Pending} {words : List Text} {last : List Use} → Reads items uses pending words last → Cuts items uses pending words last
read_cuts {items} {last = last} (ended s) = settled_cut s (record {
  more = [];
  are = sym (append-nil last);
  proper = tt;
  options = λ choices e. subst (AreOptions items []) (same_Some [] choices e) no_more;
})
read_cuts (named {words = words} setting after among s rest) = settled_cut s (beside_cut setting words among (read_cuts rest))
read_cuts (beside {words = words} setting value rest) = (value, words, refl, read_cuts rest)
read_cuts {items} (inside {words = words} setting value after among s new rest) =
    settled_cut s (grown (of setting, value) ((option_spelled setting ++ (codes "=" ++ value)) ∷ words) among tt (λ choice choices e options.
    map_some (λ number. set setting number) (number_for setting value) choice e (λ number is same.
    subst (λ (k : Choice). AreOptions items ((option_spelled setting ++ (codes "=" ++ value)) ∷ words) (k ∷ choices)) same (value_inside setting value number among is options))) (read_cuts rest))
read_cuts {items} (flagged_so {words = words} after among s new rest) =
    settled_cut s (grown (flag, codes "true") (codes "--journal" ∷ words) among refl (λ choice choices e options.
    subst (λ (k : Choice). AreOptions items (codes "--journal" ∷ words) (k ∷ choices)) (cond_some (bytes_eq (codes "true") (codes "true")) journal choice e).1 (flagged among options)) (read_cuts rest))
read_cuts {items} (alone {words = words} value after among s rest) =
    settled_cut s (grown (size, value) (value ∷ words) among tt (λ choice choices e options.
    map_some (λ number. load number) (size_in value) choice e (λ number is same.
    subst (λ (k : Choice). AreOptions items (value ∷ words) (k ∷ choices)) same (sized value number among is options))) (read_cuts rest))

-- the words of a command, from its first on
pub read_options : {items : List Item} {words : List Text} {last : List Use} → Reads items [] none words last → Cut items words [] last
read_options reads = read_cuts reads
