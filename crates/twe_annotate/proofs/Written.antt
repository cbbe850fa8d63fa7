-- The text with the least summaries, if each method has one that a text can have.
use Rattle.std.proofs.Common.{◌≡◌, ℕ, zero, suc, Bool, true, false, List, [], ◌∷◌, ◌++◌, map, length, Option, Some, codes, refl, sym, ap, ◌∙◌, subst}
use Rattle.std.specs.Prelude.{slice_get, if◌then◌else◌}
use Rattle.std.specs.List.{list_all}
use Rattle.std.specs.Option.{is_some}
use Rattle.std.proofs.lemmas.Bool.{and_parts, false≢true}
use Rattle.std.proofs.lemmas.List.{length-map}
use Rattle.effect_sets.specs.declared.effects.Summary.{Summary}
use Rattle.twe_ast.specs.declared.item.Ast.{Ast}
use Rattle.twe_ast.specs.declared.item.Item.{Item}
use Rattle.twe_ast.specs.declared.item.Item.TheVariants.{Regions, Cell, Method, Task}
use Rattle.twe_program.specs.Program.{Program}
use Rattle.twe_io.specs.declared.status.Status.{Status}
use Rattle.twe_io.specs.declared.status.Status.TheVariants.{Done, TooMany}
use Rattle.effect_infer.specs.needs.Choices.{NoRuleFails, with_summaries}
use Rattle.effect_infer.specs.Inferred.{AreEachLeast, AreLeast}
use Rattle.twe_frontend.specs.meaning.Meaning.{TextMeans}
use Rattle.summary_texts.specs.Pasted.{IsPastedText}
use Rattle.summary_texts.specs.Writable.{is_writable}
use Rattle.twe_annotate.specs.Answers.{AnnotateDue, AreLeastOf}
use Rattle.twe_annotate.specs.Kept.{kept_lines, named_line, write_status}
use Rattle.twe_annotate.specs.declared.words.AnnotateRequest.TheVariants.{Write}

-- the summaries of all methods
some-at : (all : List Summary) (m : ℕ) (summary : Summary) → slice_get all m ≡ Some summary → slice_get (map Some all) m ≡ Some (Some summary)
some-at [] m summary e = absurd (cc)
some-at (first ∷ all) zero summary e = cc
some-at (first ∷ all) (suc m) summary e = some-at all m summary e

pub all-least : (p : Program) (all : List Summary) → AreEachLeast p (map Some all) → AreLeast p all
all-least p all each = record { one_each = sym (length-map all Some) ∙ each.one_each; least = λ m summary e. each.least m (Some summary) (some-at all m summary e) }

if-true : {X : Type 0} (test : Bool) (one other : X) → test ≡ true → (if test then one else other) ≡ one
if-true true one other h = refl
if-true false one other h = absurd (false≢true h)

-- no method is named
pub none-named : (all : List Summary) (items : List Item) → list_all is_writable all ≡ true → kept_lines (map Some all) items ≡ []
none-named all [] h = refl
none-named all (Regions names ∷ items) h = none-named all items h
none-named all (Cell cell ∷ items) h = none-named all items h
none-named all (Task deterministic decl ∷ items) h = none-named all items h
none-named [] (Method decl ∷ items) h = none-named [] items h
none-named (summary ∷ all) (Method decl ∷ items) h =
    let both = and_parts (is_writable summary) (list_all is_writable all) h in
    let first = if-true (is_writable summary) [] (named_line (codes "cannot be written: ") decl.name) both.0 in
    let others = none-named all items both.1 in
    λ i. first i ++ others i

all-some : (all : List Summary) → list_all (λ its. is_some its) (map Some all) ≡ true
all-some [] = refl
all-some (summary ∷ all) = all-some all

pub all-done : (all : List Summary) → write_status (map Some all) ≡ Done
all-done all = if-true (list_all (λ its. is_some its) (map Some all)) Done TooMany (all-some all)

-- what was inferred
pub are-least-of : (p : Program) (each : List (Option Summary)) → AreEachLeast p each → ((all : List Summary) → each ≡ map Some all → NoRuleFails p → NoRuleFails (with_summaries all p)) → AreLeastOf p each
are-least-of p each least stays = record { least = least; stays = stays }

-- the answer, by its parts
pub due-written : (text : List ℕ) (tree : Ast) (p : Program) (each : List (Option Summary)) (status : Status) (out err : List ℕ) → TextMeans text tree p → AreLeastOf p each
    → IsPastedText each tree text out → status ≡ write_status each → err ≡ kept_lines each tree.items → AnnotateDue Write text (record { status = status; out = out; err = err })
due-written text tree p each status out err means least is status_is err_is =
    subst (λ (s : Status). AnnotateDue Write text (record { status = s; out = out; err = err })) (sym status_is)
    (subst (λ (e : List ℕ). AnnotateDue Write text (record { status = write_status each; out = out; err = e })) (sym err_is)
    (AnnotateDue.written tree p each out refl means least is))
