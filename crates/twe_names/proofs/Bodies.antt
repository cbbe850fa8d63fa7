-- Blocks and arms that are made one part after another.
use Rattle.std.proofs.Common.{◌≡◌, ◌<◌, ◌≤◌, ℕ, ◌+◌, List, [], ◌∷◌, ◌++◌, Option, length, get_or, drop, refl, ap, sym, subst, ◌∙◌, add-one, suc, None, Some}
use Rattle.std.proofs.Math.Seq.{drop-cons}
use Rattle.std.proofs.lemmas.List.{drop_all}
use Rattle.twe_base.specs.declared.place.Place.{Place}
use Rattle.twe_ast.specs.Statement as ast
use Rattle.twe_ast.specs.declared.stmt.Arm as written_arm
use Rattle.twe_ast.specs.inner.StatementView as written
use Rattle.twe_program.specs.Statement.{Statement, Statements, no_more, statement, statements_of, Arms, arm}
use Rattle.twe_program.specs.declared.stmt.Arm.{Arm}
use Rattle.twe_program.specs.inner.StatementView.{arms_of, last_of}
use Rattle.name_check.specs.declared.names.GlobalName.{GlobalName}
use Rattle.name_check.specs.declared.scope.BodyScope.{BodyScope}
use Rattle.name_check.specs.BodyScope.{after, after_all, after_arms, after_block}
use Rattle.name_check.specs.Size.{statements_in, statements_in_all, statements_in_arms}
use Rattle.name_check.specs.inner.Room.{HasRoom}
use Rattle.name_check.proofs.Rooms.{room_before, room_after, room_after_block}
use Rattle.twe_names.specs.BodyMeaning as meaning

-- these statements, and then the others
abbrev pub prepend : List Statement → Statements → Statements
prepend [] others = others
prepend (first ∷ more) others = statement first (prepend more others)

prepend_push : (made : List Statement) (next : Statement) (others : Statements)
    → prepend (made ++ next ∷ []) others ≡ prepend made (statement next others)
prepend_push [] next others = refl
prepend_push (first ∷ more) next others = ap (statement first) (prepend_push more next others)

prepend_none : (made : List Statement) → prepend made no_more ≡ statements_of made
prepend_none [] = refl
prepend_none (first ∷ more) = ap (statement first) (prepend_none more)

-- From the start of a block so many statements are made, and these are left. The room is that for what is left.
pub record Made (globals : List GlobalName) (start : BodyScope) (whole : ast.Statements) (here : BodyScope) (made : List Statement) (left : ast.Statements) : Type 0 where
  pub meant : prepend made (meaning.statements_of globals here left) ≡ meaning.statements_of globals start whole
  pub walked : after_all globals here left ≡ after_all globals start whole
  pub room : HasRoom here (statements_in_all left)

drop-next : {A : Type 0} (xs : List A) (i : ℕ) (x : A) → i < length xs → x ≡ get_or xs i x → drop i xs ≡ x ∷ drop (i + 1) xs
drop-next xs i x there is = rw add-one (drop-cons xs i x there ∙ ap (λ y. y ∷ drop (suc i) xs) (sym is))

-- at the start none is made
pub made-none : (globals : List GlobalName) (start : BodyScope) (whole left : ast.Statements) (made : List Statement) → left ≡ whole → made ≡ []
    → HasRoom start (statements_in_all whole) → Made globals start whole start made left
made-none globals start whole left made left-is none room = record {
  meant = ap (λ xs. prepend xs (meaning.statements_of globals start left)) none ∙ ap (meaning.statements_of globals start) left-is;
  walked = ap (after_all globals start) left-is;
  room = subst (λ s. HasRoom start (statements_in_all s)) (sym left-is) room;
}

left-now : (items : List ast.Statement) (i : ℕ) (first : ast.Statement) (close : Place) → i < length items → first ≡ get_or items i first
    → written.statements_of (drop i items) close ≡ ast.statement first (written.statements_of (drop (i + 1) items) close)
left-now items i first close there is = ap (λ xs. written.statements_of xs close) (drop-next items i first there is)

module _ (globals : List GlobalName) (start : BodyScope) (whole : ast.Statements) (here : BodyScope) (made : List Statement) (items : List ast.Statement) (i : ℕ) (close : Place)
    (so_far : Made globals start whole here made (written.statements_of (drop i items) close)) where
  module _ (first : ast.Statement) (there : i < length items) (is : first ≡ get_or items i first) where
    abbrev rest : ast.Statements
    rest = written.statements_of (drop (i + 1) items) close

    with-first : Made globals start whole here made (ast.statement first (written.statements_of (drop (i + 1) items) close))
    with-first = subst (Made globals start whole here made) (left-now items i first close there is) so_far

    -- there is room for the next statement
    pub made-room : HasRoom here (statements_in first)
    made-room = room_before here here (statements_in first) (statements_in_all (written.statements_of (drop (i + 1) items) close)) with-first.room

    -- the next statement is made
    pub made-next : (next : Statement) (later : BodyScope) (more : List Statement) → next ≡ meaning.statement_of globals here first
        → later ≡ after globals here first → more ≡ made ++ next ∷ []
        → Made globals start whole later more (written.statements_of (drop (i + 1) items) close)
    made-next next later more next-is later-is more-is = record {
      meant =
          ap (λ xs. prepend xs (meaning.statements_of globals later rest)) more-is
          ∙ (prepend_push made next (meaning.statements_of globals later rest)
          ∙ (ap (λ h. prepend made (statement next (meaning.statements_of globals h rest))) later-is
          ∙ (ap (λ s. prepend made (statement s (meaning.statements_of globals (after globals here first) rest))) next-is
          ∙ with-first.meant)));
      walked = ap (λ h. after_all globals h rest) later-is ∙ with-first.walked;
      room = subst (λ h. HasRoom h (statements_in_all rest)) (sym later-is) (room_after globals here first (statements_in_all rest) with-first.room);
    }

  module _ (all : length items ≤ i) where
    with-none : Made globals start whole here made (ast.end_of_block close)
    with-none = subst (λ xs. Made globals start whole here made (written.statements_of xs close)) (drop_all i items all) so_far

    -- all of them are made
    pub made-meant : statements_of made ≡ meaning.statements_of globals start whole
    made-meant = sym (prepend_none made) ∙ with-none.meant

    pub made-walked : here ≡ after_all globals start whole
    made-walked = with-none.walked

-- these arms, and then the others
abbrev pub prepend_arms : List Arm → Arms → Arms
prepend_arms [] others = others
prepend_arms (first ∷ more) others = arm first.condition first.body (prepend_arms more others)

prepend_arms_push : (made : List Arm) (next : Arm) (others : Arms)
    → prepend_arms (made ++ next ∷ []) others ≡ prepend_arms made (arm next.condition next.body others)
prepend_arms_push [] next others = refl
prepend_arms_push (first ∷ more) next others = ap (arm first.condition first.body) (prepend_arms_push more next others)

prepend_arms_last : (made : List Arm) (last : Option Statements) → prepend_arms made (last_of last) ≡ arms_of made last
prepend_arms_last [] last = refl
prepend_arms_last (first ∷ more) last = ap (arm first.condition first.body) (prepend_arms_last more last)

-- From the start of an `if` so many arms are made, and these are left.
pub record MadeArms (globals : List GlobalName) (start : BodyScope) (whole : ast.Arms) (here : BodyScope) (made : List Arm) (left : ast.Arms) : Type 0 where
  pub meant : prepend_arms made (meaning.arms_of globals here left) ≡ meaning.arms_of globals start whole
  pub walked : after_arms globals here left ≡ after_arms globals start whole
  pub room : HasRoom here (statements_in_arms left)

-- at the start none is made
pub made_arms-none : (globals : List GlobalName) (start : BodyScope) (whole left : ast.Arms) (made : List Arm) → left ≡ whole → made ≡ []
    → HasRoom start (statements_in_arms whole) → MadeArms globals start whole start made left
made_arms-none globals start whole left made left-is none room = record {
  meant = ap (λ xs. prepend_arms xs (meaning.arms_of globals start left)) none ∙ ap (meaning.arms_of globals start) left-is;
  walked = ap (after_arms globals start) left-is;
  room = subst (λ s. HasRoom start (statements_in_arms s)) (sym left-is) room;
}

module _ (globals : List GlobalName) (start : BodyScope) (whole : ast.Arms) (here : BodyScope) (made : List Arm) (items : List written_arm.Arm) (i : ℕ) (last : Option ast.Statements)
    (so_far : MadeArms globals start whole here made (written.arms_of (drop i items) last)) where
  module _ (first : written_arm.Arm) (there : i < length items) (is : first ≡ get_or items i first) where
    abbrev left : ast.Arms
    left = written.arms_of (drop (i + 1) items) last

    with-arm : MadeArms globals start whole here made (ast.arm first.condition first.body (written.arms_of (drop (i + 1) items) last))
    with-arm = subst (λ xs. MadeArms globals start whole here made (written.arms_of xs last)) (drop-next items i first there is) so_far

    -- there is room for the block of the next arm
    pub made_arms-room : HasRoom here (statements_in_all first.body)
    made_arms-room = room_before here here (statements_in_all first.body) (statements_in_arms left) with-arm.room

    -- the next arm is made
    pub made_arms-next : (next : Arm) (later : BodyScope) (more : List Arm) → next.condition ≡ meaning.expression_of globals here.locals first.condition
        → next.body ≡ meaning.statements_of globals here first.body → later ≡ after_block globals here first.body → more ≡ made ++ next ∷ []
        → MadeArms globals start whole later more (written.arms_of (drop (i + 1) items) last)
    made_arms-next next later more condition-is body-is later-is more-is = record {
      meant =
          ap (λ xs. prepend_arms xs (meaning.arms_of globals later left)) more-is
          ∙ (prepend_arms_push made next (meaning.arms_of globals later left)
          ∙ (ap (λ h. prepend_arms made (arm next.condition next.body (meaning.arms_of globals h left))) later-is
          ∙ (ap (λ b. prepend_arms made (arm next.condition b (meaning.arms_of globals (after_block globals here first.body) left))) body-is
          ∙ (ap (λ e. prepend_arms made (arm e (meaning.statements_of globals here first.body) (meaning.arms_of globals (after_block globals here first.body) left))) condition-is
          ∙ with-arm.meant))));
      walked = ap (λ h. after_arms globals h left) later-is ∙ with-arm.walked;
      room = subst (λ h. HasRoom h (statements_in_arms left)) (sym later-is) (room_after_block globals here first.body (statements_in_arms left) with-arm.room);
    }

  module _ (all : length items ≤ i) where
    with-last : MadeArms globals start whole here made (written.last_of last)
    with-last = subst (λ xs. MadeArms globals start whole here made (written.arms_of xs last)) (drop_all i items all) so_far

    -- all arms are made, and there is no last `else`
    module _ (none : last ≡ None) where
      no-last : MadeArms globals start whole here made ast.no_else
      no-last = subst (λ o. MadeArms globals start whole here made (written.last_of o)) none with-last

      pub made_arms-meant : arms_of made None ≡ meaning.arms_of globals start whole
      made_arms-meant = sym (prepend_arms_last made None) ∙ no-last.meant

      pub made_arms-walked : here ≡ after_arms globals start whole
      made_arms-walked = no-last.walked

    -- the block of the last `else` is left
    module _ (body : ast.Statements) (some : last ≡ Some body) where
      one-last : MadeArms globals start whole here made (ast.otherwise body)
      one-last = subst (λ o. MadeArms globals start whole here made (written.last_of o)) some with-last

      pub made_arms_last-room : HasRoom here (statements_in_all body)
      made_arms_last-room = one-last.room

      pub made_arms_last-meant : (block : Statements) → block ≡ meaning.statements_of globals here body
          → arms_of made (Some block) ≡ meaning.arms_of globals start whole
      made_arms_last-meant block is = sym (prepend_arms_last made (Some block)) ∙ (ap (λ b. prepend_arms made (last_of (Some b))) is ∙ one-last.meant)

      pub made_arms_last-walked : (later : BodyScope) → later ≡ after_block globals here body → later ≡ after_arms globals start whole
      made_arms_last-walked later is = is ∙ one-last.walked
