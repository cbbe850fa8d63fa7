-- What numbers of effects mean for keys and for sets.
use Rattle.std.proofs.Common.{◌≡◌, ◌<◌, ◌+◌, ◌^◌, ◌++◌, ℕ, List, length, map, Some, sym, ap, ◌∙◌, subst, arith}
use Rattle.std.specs.List.{All, Contains}
use Rattle.std.specs.Prelude.{slice_index_or, slice_set}
use Rattle.std.proofs.lemmas.List.Elements.{Contains-get_or}
use Rattle.held_span.specs.Marks.{left_by, seen_by}
use Rattle.held_span.specs.declared.marks.EffectMark.{EffectMark}
use Rattle.held_span.specs.declared.marks.EffectMark.TheVariants.{Own, Rival}
use Rattle.held_span.specs.declared.marks.EffectMarks.{EffectMarks}
use Rattle.held_span.specs.declared.holders.Holders.{Holders}
use Rattle.held_span.specs.declared.ways.Ways.{Ways}
use Rattle.held_span.specs.inner.Freeing.{AreNumbered, IsFreed, mark_keys}
use Rattle.held_span.specs.inner.Holding.{HasRoomFor, HoldsOne, IsForMark, IsLowestOf}
use Rattle.held_span.specs.inner.Walking.{IsWalk}
use Rattle.span_profile.specs.declared.heaviest_chain.key.Key.{Key}
use Rattle.span_profile.specs.declared.heaviest_chain.key.Key.TheVariants.{Task}
use Rattle.held_span.specs.inner.Keys.{effect_of}

-- what holds of all that a list contains holds of all of its elements
pub all_of : {X : Type 0} (P : X → Type 0) (xs : List X) → ((x : X) → Contains xs x → P x) → All P xs
all_of P xs f = λ k d below. f (slice_index_or xs k d) (Contains-get_or xs k d below)

for_mark : (holders : Holders) (effects : ℕ) → HasRoomFor holders effects → (mark : EffectMark) → effect_of mark < effects → IsForMark holders mark
for_mark holders effects room (Own effect) below = let is = room.own in omega (arith, is, below)
for_mark holders effects room (Rival effect) below = let is = room.rival in omega (arith, is, below)

module _ (marks : EffectMarks) (are : AreNumbered marks) (t : ℕ) where
  pub left_for : (holders : Holders) → HasRoomFor holders (length marks.rivals) → (list : List EffectMark) → list ≡ left_by marks t → All (IsForMark holders) list
  left_for holders room list is =
      subst (λ (l : List EffectMark). All (IsForMark holders) l) (sym is)
      (all_of (IsForMark holders) (left_by marks t) (λ mark has. for_mark holders (length marks.rivals) room mark (are.left t mark has)))

  fits : (tasks : ℕ) → tasks ≡ length marks.lists → (mark : EffectMark) → effect_of mark < length marks.rivals → tasks + effect_of mark < 2 ^ 32
  fits tasks is mark below = let few = are.few in omega (arith, is, below, few)

  pub left_fit : (tasks : ℕ) → tasks ≡ length marks.lists → (list : List EffectMark) → list ≡ left_by marks t → All (λ mark. tasks + effect_of mark < 2 ^ 32) list
  left_fit tasks many list is =
      subst (λ (l : List EffectMark). All (λ (mark : EffectMark). tasks + effect_of mark < 2 ^ 32) l) (sym is)
      (all_of (λ (mark : EffectMark). tasks + effect_of mark < 2 ^ 32) (left_by marks t) (λ mark has. fits tasks many mark (are.left t mark has)))

  pub seen_fit : (tasks : ℕ) → tasks ≡ length marks.lists → (list : List EffectMark) → list ≡ seen_by marks t → All (λ mark. tasks + effect_of mark < 2 ^ 32) list
  seen_fit tasks many list is =
      subst (λ (l : List EffectMark). All (λ (mark : EffectMark). tasks + effect_of mark < 2 ^ 32) l) (sym is)
      (all_of (λ (mark : EffectMark). tasks + effect_of mark < 2 ^ 32) (seen_by marks t) (λ mark has. fits tasks many mark (are.seen t mark has)))

-- what a walk adds after the marks that are seen
pub freed_back : (marks : EffectMarks) (holders : Holders) (old new : Ways) (t s : ℕ) (before between after : List Key)
    → IsLowestOf (HoldsOne holders (seen_by marks t)) (Some s) → between ≡ before ++ mark_keys marks (seen_by marks t)
    → (tasks : List ℕ) × IsWalk old s t tasks × (after ≡ between ++ map (λ task. Task task) tasks)
    → new ≡ record { makers = old.makers; firsts = slice_set old.firsts t s }
    → IsFreed marks holders old new t before after (Some s)
freed_back marks holders old new t s before between after lowest added walked noted = record {
  lowest = lowest;
  walk = walked.0;
  walks = (walked.1, noted);
  keys = walked.2 ∙ ap (λ (l : List Key). l ++ map (λ task. Task task) walked.0) added;
}
