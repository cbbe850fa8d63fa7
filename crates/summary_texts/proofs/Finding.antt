-- What a writer has at the end is the text of the parts.
use Rattle.std.proofs.Common.{◌≡◌, ℕ, ◌+◌, ◌<◌, ◌≤◌, ◌⊎◌, length, get_or, Bool, true, false, ◌||◌, List, [], ◌∷◌, ◌++◌, Option, None, Some, drop, refl, sym, ap, ◌∙◌, subst, append_assoc, inl, inr}
use Rattle.std.specs.Prelude.{if◌then◌else◌, slice_get, flat_map, bytes_eq}
use Rattle.std.proofs.lemmas.Bool.{or_cases, cond-false}
use Rattle.std.proofs.lemmas.List.{append-nil, drop_more, drop_all}
use Rattle.std.proofs.lemmas.Option.{slice_get_cases, slice_get_within, get_or_from_slice_get}
use Rattle.std.proofs.lemmas.Slice.Eq.{bytes_eq-Decides}
use Rattle.twe_lexer.specs.declared.fixed.Fixed.TheVariants as fixed
use Rattle.twe_lexer.specs.Places.{is_gap}
use Rattle.twe_lexer.specs.Spelling.{spelling}
use Rattle.summary_texts.specs.declared.writer.Stage.{Stage}
use Rattle.summary_texts.specs.declared.writer.Stage.TheVariants as stages
use Rattle.summary_texts.specs.declared.writer.Writer.{Writer}
use Rattle.summary_texts.specs.Parts.{begins_summary, is_brace, is_task, joined_bytes, Part, MethodSummary, Around, summary_part, parts_around, parts_in, parts_of}
use Rattle.summary_texts.specs.Written.{is_comment, comment_behind, kept_behind, comments_behind, written_parts}
use Rattle.summary_texts.specs.inner.Steps.{at_start, with_lexeme, after_first, after_gap, after_token, after_lexeme, after_all, whole}

-- both cases of a test
pub by_test : (P : Bool → Type 0) (b : Bool) → (b ≡ true → P true) → (b ≡ false → P false) → P b
by_test P true one other = one refl
by_test P false one other = other refl

pub joined_append : (one other : List (List ℕ)) → joined_bytes (one ++ other) ≡ joined_bytes one ++ joined_bytes other
joined_append [] other = refl
joined_append (first ∷ one) other = ap (λ (more : List ℕ). first ++ more) (joined_append one other) ∙ sym (append_assoc first (joined_bytes one) (joined_bytes other))

pub kept_append : (one other : List (List ℕ)) → flat_map kept_behind (one ++ other) ≡ flat_map kept_behind one ++ flat_map kept_behind other
kept_append [] other = refl
kept_append (first ∷ one) other =
    ap (λ (more : List ℕ). kept_behind first ++ more) (kept_append one other) ∙ sym (append_assoc (kept_behind first) (flat_map kept_behind one) (flat_map kept_behind other))

-- a word that a summary begins with, and a `{`, are tokens
same_bytes : (bytes other : List ℕ) → bytes_eq bytes other ≡ true → bytes ≡ other
same_bytes bytes other is = (bytes_eq-Decides bytes other).0 is

pub word_no_gap : (lexeme : List ℕ) → begins_summary lexeme ≡ true → is_gap lexeme ≡ false
word_no_gap lexeme is = elim (or_cases (bytes_eq lexeme (spelling fixed.Pure) || bytes_eq lexeme (spelling fixed.Reads)) (bytes_eq lexeme (spelling fixed.Writes)) is) [
  | inl first ↦ elim (or_cases (bytes_eq lexeme (spelling fixed.Pure)) (bytes_eq lexeme (spelling fixed.Reads)) first) [
    | inl pure ↦ ap is_gap (same_bytes lexeme (spelling fixed.Pure) pure)
    | inr reads ↦ ap is_gap (same_bytes lexeme (spelling fixed.Reads) reads)
  ]
  | inr writes ↦ ap is_gap (same_bytes lexeme (spelling fixed.Writes) writes)
]

pub brace_no_gap : (lexeme : List ℕ) → is_brace lexeme ≡ true → is_gap lexeme ≡ false
brace_no_gap lexeme is = ap is_gap (same_bytes lexeme (spelling fixed.OpenBrace) is)

abbrev at : List ℕ → Stage → List ℕ → List ℕ → ℕ → Writer
at out stage gap comments used = record { out = out; stage = stage; gap = gap; comments = comments; used = used }

-- what is written in the end
abbrev ending : List (Option (List ℕ)) → Writer → List (List ℕ) → List ℕ
ending news writer lexemes = whole (after_all news writer lexemes)

-- what is left of the new summaries
left_none : (news : List (Option (List ℕ))) (used : ℕ) → slice_get news used ≡ None → drop used news ≡ []
left_none news used is = none_left (slice_get_cases news used).1
  where
    none_left : ((x : Option (List ℕ)) × (used < length news) × (slice_get news used ≡ Some x) × (get_or news used x ≡ x)) ⊎ ((length news ≤ used) × (slice_get news used ≡ None)) → drop used news ≡ []
    none_left (inl (x, within, some, same)) = let clash : Some x ≡ None = sym some ∙ is in cc
    none_left (inr (past, none)) = drop_all used news past

left_some : (news : List (Option (List ℕ))) (used : ℕ) (new : Option (List ℕ)) → slice_get news used ≡ Some new → drop used news ≡ new ∷ drop (used + 1) news
left_some news used new is =
    drop_more news used None (slice_get_within news used new is) ∙ ap (λ (n : Option (List ℕ)). n ∷ drop (used + 1) news) (get_or_from_slice_get news used new None is)

-- the first of these is for a summary that stays
abbrev Keeps : Bool → List (Option (List ℕ)) → List (Option (List ℕ)) → Type 0
Keeps in_task from left = (summary : List (List ℕ)) (parts : List Part)
    → written_parts from (summary_part in_task summary ∷ parts) ≡ joined_bytes summary ++ written_parts left parts

keeps_task : (news : List (Option (List ℕ))) → Keeps true news news
keeps_task news summary parts = refl

keeps_none : (news : List (Option (List ℕ))) → news ≡ [] → Keeps false news news
keeps_none news is = subst (λ (n : List (Option (List ℕ))). Keeps false n n) (sym is) (λ summary parts. refl)

keeps_first : (news left : List (Option (List ℕ))) → news ≡ None ∷ left → Keeps false news left
keeps_first news left is = subst (λ (n : List (Option (List ℕ))). Keeps false n left) (sym is) (λ summary parts. refl)

-- three pieces, the last of which is two
apart : (before a b l w : List ℕ) → ((before ++ (a ++ b)) ++ l) ++ w ≡ before ++ (a ++ (b ++ (l ++ w)))
apart before a b l w = simp append_assoc refl

alone : (out l : List ℕ) → out ++ l ≡ out ++ (joined_bytes (l ∷ []) ++ joined_bytes [])
alone out l = ap (λ (more : List ℕ). out ++ more) (sym (append-nil (l ++ []) ∙ append-nil l))

one_more_gap : (gap : List (List ℕ)) (blanks l : List ℕ) → blanks ≡ joined_bytes gap → blanks ++ l ≡ joined_bytes (gap ++ l ∷ [])
one_more_gap gap blanks l is = (λ i. is i ++ sym (append-nil l) i) ∙ sym (joined_append gap (l ∷ []))

one_more_kept : (gap : List (List ℕ)) (comments l : List ℕ) → comments ≡ flat_map kept_behind gap → comments ++ kept_behind l ≡ flat_map kept_behind (gap ++ l ∷ [])
one_more_kept gap comments l is = (λ i. is i ++ sym (append-nil (kept_behind l)) i) ∙ sym (kept_append gap (l ∷ []))

longer_gap : (before : List ℕ) (summary gap : List (List ℕ)) (out l : List ℕ) → out ≡ before ++ (joined_bytes summary ++ joined_bytes gap) → out ++ l ≡ before ++ (joined_bytes summary ++ joined_bytes (gap ++ l ∷ []))
longer_gap before summary gap out l is =
    ap (λ (o : List ℕ). o ++ l) is ∙ append_assoc before (joined_bytes summary ++ joined_bytes gap) l ∙ ap (λ (more : List ℕ). before ++ more) (append_assoc (joined_bytes summary) (joined_bytes gap) l)
    ∙ ap (λ (more : List ℕ). before ++ (joined_bytes summary ++ more)) (one_more_gap gap (joined_bytes gap) l refl)

longer_summary : (before : List ℕ) (summary gap : List (List ℕ)) (out l : List ℕ) → out ≡ before ++ (joined_bytes summary ++ joined_bytes gap) → out ++ l ≡ before ++ (joined_bytes (summary ++ (gap ++ l ∷ [])) ++ joined_bytes [])
longer_summary before summary gap out l is =
    longer_gap before summary gap out l is ∙ ap (λ (more : List ℕ). before ++ more) (sym (joined_append summary (gap ++ l ∷ [])) ∙ sym (append-nil (joined_bytes (summary ++ (gap ++ l ∷ [])))))

nested : (before a b l w : List ℕ) → (((before ++ a) ++ b) ++ l) ++ w ≡ before ++ (a ++ (b ++ (l ++ w)))
nested before a b l w = simp append_assoc refl

-- a token leaves nothing behind the summary
more_kept : (before new : List ℕ) (summary gap : List (List ℕ)) (out comments l : List ℕ) → out ≡ before ++ (new ++ comments_behind summary) → comments ≡ flat_map kept_behind gap → is_gap l ≡ false
    → out ++ comments ≡ before ++ (new ++ comments_behind (summary ++ (gap ++ l ∷ [])))
more_kept before new summary gap out comments l is comments_are token =
    let nothing : kept_behind l ≡ [] = cond-false (is_gap l) _ [] token in
    let behind : comments_behind (summary ++ (gap ++ l ∷ [])) ≡ comments_behind summary ++ flat_map kept_behind gap =
    kept_append summary (gap ++ l ∷ []) ∙ ap (λ (more : List ℕ). comments_behind summary ++ more)
    (kept_append gap (l ∷ []) ∙ ap (λ (more : List ℕ). flat_map kept_behind gap ++ more) (append-nil (kept_behind l) ∙ nothing) ∙ append-nil (flat_map kept_behind gap)) in
    (λ i. is i ++ comments_are i) ∙ append_assoc before (new ++ comments_behind summary) (flat_map kept_behind gap)
    ∙ ap (λ (more : List ℕ). before ++ more) (append_assoc new (comments_behind summary) (flat_map kept_behind gap) ∙ ap (λ (more : List ℕ). new ++ more) (sym behind))

-- what a writer comes to from here on: around summaries, in one that stays, and in one that is replaced
abbrev AroundIs : List (List ℕ) → Type 0
AroundIs lexemes = (news : List (Option (List ℕ))) (used : ℕ) (in_task : Bool) (out : List ℕ)
    → ending news (at out (stages.Around in_task) [] [] used) lexemes ≡ out ++ written_parts (drop used news) (parts_around in_task lexemes)

abbrev StayingIs : List (List ℕ) → Type 0
StayingIs lexemes = (news : List (Option (List ℕ))) (used : ℕ) (in_task : Bool) (before : List ℕ) (summary gap : List (List ℕ)) (from : List (Option (List ℕ))) → Keeps in_task from (drop used news)
    → (out : List ℕ) → out ≡ before ++ (joined_bytes summary ++ joined_bytes gap)
    → ending news (at out stages.Staying [] [] used) lexemes ≡ before ++ written_parts from (parts_in in_task summary gap lexemes)

abbrev ReplacedIs : List (List ℕ) → Type 0
ReplacedIs lexemes = (news : List (Option (List ℕ))) (used : ℕ) (before new : List ℕ) (summary gap : List (List ℕ)) (out blanks comments : List ℕ) → out ≡ before ++ (new ++ comments_behind summary)
    → blanks ≡ joined_bytes gap → comments ≡ flat_map kept_behind gap
    → ending news (at out stages.Replaced blanks comments used) lexemes ≡ before ++ written_parts (Some new ∷ drop used news) (parts_in false summary gap lexemes)

record AllIs (lexemes : List (List ℕ)) : Type 0 where
  around : AroundIs lexemes
  staying : StayingIs lexemes
  replaced : ReplacedIs lexemes

module _ (l : List ℕ) (lexemes : List (List ℕ)) (more : AllIs lexemes) (news : List (Option (List ℕ))) (used : ℕ) where
  first_of_method : (out : List ℕ) → is_gap l ≡ false → (found : Option (Option (List ℕ))) → slice_get news used ≡ found
      → ending news (after_first found (at out (stages.Around false) [] [] used) l) lexemes ≡ out ++ written_parts (drop used news) (parts_in false (l ∷ []) [] lexemes)
  first_of_method out token None is = more.staying news used false out (l ∷ []) [] (drop used news) (keeps_none (drop used news) (left_none news used is)) (out ++ l) (alone out l)
  first_of_method out token (Some None) is =
      more.staying news (used + 1) false out (l ∷ []) [] (drop used news) (keeps_first (drop used news) (drop (used + 1) news) (left_some news used None is)) (out ++ l) (alone out l)
  first_of_method out token (Some (Some new)) is =
      more.replaced news (used + 1) out new (l ∷ []) [] (out ++ new) [] []
      (ap (λ (its : List ℕ). out ++ its) (sym (append-nil new) ∙ ap (λ (its : List ℕ). new ++ its) (sym (append-nil (kept_behind l) ∙ cond-false (is_gap l) (if is_comment l then comment_behind l else []) [] token)))) refl refl
      ∙ ap (λ (n : List (Option (List ℕ))). out ++ written_parts n (parts_in false (l ∷ []) [] lexemes)) (sym (left_some news used (Some new) is))

  first_word : (in_task : Bool) (out : List ℕ) → is_gap l ≡ false
      → ending news (if in_task then with_lexeme (at out (stages.Around in_task) [] [] used) stages.Staying l else after_first (slice_get news used) (at out (stages.Around in_task) [] [] used) l) lexemes
      ≡ out ++ written_parts (drop used news) (parts_in in_task (l ∷ []) [] lexemes)
  first_word true out token = more.staying news used true out (l ∷ []) [] (drop used news) (keeps_task (drop used news)) (out ++ l) (alone out l)
  first_word false out token = first_of_method out token (slice_get news used) refl

  around_one : (in_task : Bool) (out : List ℕ)
      → ending news (at out (stages.Around in_task) [] [] used) (l ∷ lexemes) ≡ out ++ written_parts (drop used news) (parts_around in_task (l ∷ lexemes))
  around_one in_task out =
      by_test (λ b. ending news (if b then (if in_task then with_lexeme (at out (stages.Around in_task) [] [] used) stages.Staying l else after_first (slice_get news used) (at out (stages.Around in_task) [] [] used) l)
      else with_lexeme (at out (stages.Around in_task) [] [] used) (stages.Around (is_task l || in_task)) l) lexemes
      ≡ out ++ written_parts (drop used news) (if b then parts_in in_task (l ∷ []) [] lexemes else (Around l ∷ parts_around (is_task l || in_task) lexemes)))
      (begins_summary l)
      (λ is. first_word in_task out (word_no_gap l is))
      (λ is. more.around news used (is_task l || in_task) (out ++ l) ∙ append_assoc out l (written_parts (drop used news) (parts_around (is_task l || in_task) lexemes)))

  staying_one : (in_task : Bool) (before : List ℕ) (summary gap : List (List ℕ)) (from : List (Option (List ℕ))) → Keeps in_task from (drop used news)
      → (out : List ℕ) → out ≡ before ++ (joined_bytes summary ++ joined_bytes gap)
      → ending news (at out stages.Staying [] [] used) (l ∷ lexemes) ≡ before ++ written_parts from (parts_in in_task summary gap (l ∷ lexemes))
  staying_one in_task before summary gap from keeps out is =
      by_test (λ b. ending news (with_lexeme (at out stages.Staying [] [] used) (if b then stages.Around false else stages.Staying) l) lexemes
      ≡ before ++ written_parts from (if is_gap l then parts_in in_task summary (gap ++ l ∷ []) lexemes
      else if b then (summary_part in_task summary ∷ Around (joined_bytes gap) ∷ Around l ∷ parts_around false lexemes) else parts_in in_task (summary ++ (gap ++ l ∷ [])) [] lexemes))
      (is_brace l)
      (λ brace. more.around news used false (out ++ l)
      ∙ ap (λ (o : List ℕ). (o ++ l) ++ written_parts (drop used news) (parts_around false lexemes)) is
      ∙ apart before (joined_bytes summary) (joined_bytes gap) l (written_parts (drop used news) (parts_around false lexemes))
      ∙ ap (λ (its : List ℕ). before ++ its) (sym (keeps summary (Around (joined_bytes gap) ∷ Around l ∷ parts_around false lexemes)))
      ∙ ap (λ (parts : List Part). before ++ written_parts from parts)
      (sym (cond-false (is_gap l) (parts_in in_task summary (gap ++ l ∷ []) lexemes) (summary_part in_task summary ∷ Around (joined_bytes gap) ∷ Around l ∷ parts_around false lexemes) (brace_no_gap l brace))))
      (λ brace. by_test (λ b. ending news (at (out ++ l) stages.Staying [] [] used) lexemes
      ≡ before ++ written_parts from (if b then parts_in in_task summary (gap ++ l ∷ []) lexemes else parts_in in_task (summary ++ (gap ++ l ∷ [])) [] lexemes))
      (is_gap l)
      (λ gaps. more.staying news used in_task before summary (gap ++ l ∷ []) from keeps (out ++ l) (longer_gap before summary gap out l is))
      (λ token. more.staying news used in_task before (summary ++ (gap ++ l ∷ [])) [] from keeps (out ++ l) (longer_summary before summary gap out l is)))

  module _ (before new : List ℕ) (summary gap : List (List ℕ)) (out blanks comments : List ℕ) (is : out ≡ before ++ (new ++ comments_behind summary)) (gap_is : blanks ≡ joined_bytes gap)
      (comments_are : comments ≡ flat_map kept_behind gap) where
    token_one : is_gap l ≡ false → ending news (after_token (at out stages.Replaced blanks comments used) l) lexemes
        ≡ before ++ written_parts (Some new ∷ drop used news) (if is_brace l then (MethodSummary summary ∷ Around (joined_bytes gap) ∷ Around l ∷ parts_around false lexemes) else parts_in false (summary ++ (gap ++ l ∷ [])) [] lexemes)
    token_one token =
        by_test (λ b. ending news (if b then at ((out ++ blanks) ++ l) (stages.Around false) [] [] used else at (out ++ comments) stages.Replaced [] [] used) lexemes
        ≡ before ++ written_parts (Some new ∷ drop used news) (if b then (MethodSummary summary ∷ Around (joined_bytes gap) ∷ Around l ∷ parts_around false lexemes) else parts_in false (summary ++ (gap ++ l ∷ [])) [] lexemes))
        (is_brace l)
        (λ brace. more.around news used false ((out ++ blanks) ++ l)
        ∙ (λ i. ((is i ++ gap_is i) ++ l) ++ written_parts (drop used news) (parts_around false lexemes))
        ∙ nested before (new ++ comments_behind summary) (joined_bytes gap) l (written_parts (drop used news) (parts_around false lexemes)))
        (λ brace. more.replaced news used before new (summary ++ (gap ++ l ∷ [])) [] (out ++ comments) [] [] (more_kept before new summary gap out comments l is comments_are token) refl refl)

    replaced_one : ending news (at out stages.Replaced blanks comments used) (l ∷ lexemes) ≡ before ++ written_parts (Some new ∷ drop used news) (parts_in false summary gap (l ∷ lexemes))
    replaced_one =
        by_test (λ b. ending news (if b then after_gap (at out stages.Replaced blanks comments used) l else after_token (at out stages.Replaced blanks comments used) l) lexemes
        ≡ before ++ written_parts (Some new ∷ drop used news) (if b then parts_in false summary (gap ++ l ∷ []) lexemes
        else if is_brace l then (MethodSummary summary ∷ Around (joined_bytes gap) ∷ Around l ∷ parts_around false lexemes) else parts_in false (summary ++ (gap ++ l ∷ [])) [] lexemes))
        (is_gap l)
        (λ gaps. more.replaced news used before new summary (gap ++ l ∷ []) out (blanks ++ l) (comments ++ kept_behind l) is (one_more_gap gap blanks l gap_is) (one_more_kept gap comments l comments_are))
        token_one

staying_end : (news : List (Option (List ℕ))) (used : ℕ) → (in_task : Bool) (before : List ℕ) (summary gap : List (List ℕ)) (from : List (Option (List ℕ))) → Keeps in_task from (drop used news)
    → (out : List ℕ) → out ≡ before ++ (joined_bytes summary ++ joined_bytes gap)
    → ending news (at out stages.Staying [] [] used) [] ≡ before ++ written_parts from (parts_in in_task summary gap [])
staying_end news used in_task before summary gap from keeps out is =
    append-nil out ∙ is ∙ ap (λ (its : List ℕ). before ++ its) (ap (λ (its : List ℕ). joined_bytes summary ++ its) (sym (append-nil (joined_bytes gap))) ∙ sym (keeps summary (Around (joined_bytes gap) ∷ [])))

all_is : (lexemes : List (List ℕ)) → AllIs lexemes
all_is [] = record {
  around = λ news used in_task out. refl;
  staying = staying_end;
  replaced = λ news used before new summary gap out blanks comments is gap_is comments_are.
      (λ i. is i ++ gap_is i) ∙ append_assoc before (new ++ comments_behind summary) (joined_bytes gap)
      ∙ ap (λ (its : List ℕ). before ++ ((new ++ comments_behind summary) ++ its)) (sym (append-nil (joined_bytes gap)));
}
all_is (l ∷ lexemes) = record {
  around = around_one l lexemes (all_is lexemes);
  staying = staying_one l lexemes (all_is lexemes);
  replaced = replaced_one l lexemes (all_is lexemes);
}

-- what the writer has at the end
pub written_whole : (news : List (Option (List ℕ))) (lexemes : List (List ℕ)) → whole (after_all news at_start lexemes) ≡ written_parts news (parts_of lexemes)
written_whole news lexemes = (all_is lexemes).around news 0 false []

pub after_append : (news : List (Option (List ℕ))) (writer : Writer) (one other : List (List ℕ)) → after_all news writer (one ++ other) ≡ after_all news (after_all news writer one) other
after_append news writer [] other = refl
after_append news writer (first ∷ one) other = after_append news (after_lexeme news writer first) one other
