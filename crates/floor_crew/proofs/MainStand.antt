-- The main stand of a round: the others are joined to it again.
use Rattle.std.proofs.Common.{◌≡◌, ◌+◌, ◌-◌, ◌++◌, ℕ, List, [], ◌∷◌, sym, ap, ◌∙◌, append_assoc, arith}
use Rattle.std.proofs.lemmas.List.{append-nil}
use Rattle.atomic_table.specs.Seated.{TableId}
use Rattle.seg_journal.specs.declared.numbered.NumberedEntry.{NumberedEntry}
use Rattle.seg_journal.specs.Merging.{all_of}
use Rattle.floor_laws.specs.table.FloorOf.{turn_in}
use Rattle.task_floor.specs.steps.Committing.{Log}
use Rattle.floor_laws.specs.table.nodes.Holds.{joined_tree_view}
use Rattle.floor_laws.specs.table.nodes.Seats.{TreeSeat}
use Rattle.task_floor.specs.Holding.{IsIdleBeside}
use Rattle.task_floor.specs.Stands.{TreeStand}
use Rattle.floor_crew.specs.inner.Lent.{HasParts, IsMainOn}

-- a stand was joined
pub joined_main : (table : TableId) (before after other : TreeStand) (n m : ℕ) → IsMainOn table before n → n ≡ m + 1 → after.me ≡ (joined_tree_view before.me.0 other.me.0, before.me.1)
    → after.table_id ≡ before.table_id → IsMainOn table after m
joined_main table before after other n m main more is same =
    let count : before.me.0.floor.out ≡ n = main.count in
    let out : after.me.0.floor.out ≡ before.me.0.floor.out - 1 = ap (λ (x : TreeSeat). x.0.floor.out) is in
    record {
      here = same ∙ main.here;
      kind = ap (λ (x : TreeSeat). x.0.floor.kind) is ∙ main.kind;
      given = record {
        turns = λ t. ap (λ (x : TreeSeat). turn_in x.0.floor.turns t) is ∙ main.given.turns t;
        segment = ap (λ (x : TreeSeat). x.0.floor.segment) is ∙ main.given.segment;
      };
      empty = ap (λ (x : TreeSeat). x.1) is ∙ main.empty;
      count = omega (arith, count, out, more);
    }

all_more : (parts : List (List NumberedEntry)) (part : List NumberedEntry) → all_of (parts ++ part ∷ []) ≡ all_of parts ++ part
all_more [] part = append-nil part
all_more (x ∷ parts) part = ap (λ (l : List NumberedEntry). x ++ l) (all_more parts part) ∙ sym (append_assoc x (all_of parts) part)

-- and its entries are kept
pub joined_parts : (before after other : TreeStand) (parts longer : List (List NumberedEntry)) (log : Log) (number : ℕ) → HasParts before parts
    → after.me ≡ (joined_tree_view before.me.0 other.me.0, before.me.1) → IsIdleBeside number other.me log → longer ≡ parts ++ log.entries ∷ [] → HasParts after longer
joined_parts before after other parts longer log number has is idle pushed =
    ap all_of pushed
    ∙ (all_more parts log.entries
    ∙ (ap (λ (l : List NumberedEntry). l ++ log.entries) has
    ∙ (ap (λ (l : List NumberedEntry). before.me.0.floor.part ++ l) idle.floor.entries ∙ sym (ap (λ (x : TreeSeat). x.0.floor.part) is))))
