-- One edit more is tried.
use Rattle.std.proofs.Common.{List, ℕ, [], ◌∷◌, ◌++◌}
use Rattle.refusal_notes.specs.declared.mends.Mend.{Mend}
use Rattle.refusal_notes.specs.Mends.{AreTried, IsTried}

pub one_tried_more : (mends : List Mend) (mend : Mend) (old between new : List (List ℕ)) → AreTried mends old between
    → IsTried mend between new → AreTried (mends ++ mend ∷ []) old new
one_tried_more mends mend old between new (AreTried.none remarks) tried = AreTried.one mend [] old new new tried (AreTried.none new)
one_tried_more mends mend old between new (AreTried.one first others start middle end now then) tried =
    AreTried.one first (others ++ mend ∷ []) old middle new now (one_tried_more others mend middle between new then tried)
