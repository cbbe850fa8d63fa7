use Rattle.std.proofs.Common.{◌≡◌, List, Some, inl, inr, ap, ◌∙◌, subst}
use Rattle.std.specs.Prelude.{slice_get}
use Rattle.twe_machine.specs.declared.book.NodeTasks.{NodeTasks}
use Rattle.twe_machine.specs.Queues.{IsDecided}
use Rattle.machine_state.proofs.lists.Places.{put_before, put_cases}
use Rattle.twe_machine.proofs.book.reach.Goals as goal

pub reaching-preserved : goal.reaching-preserved
reaching-preserved c =
    let nodes = c.reaching.nodes in
    let more = c.empty_node.result in
    record {
      kept = λ n node at. ap (λ (xs : List NodeTasks). slice_get xs n) c.in_ok-push.ensures.ok ∙ put_before nodes more n node (c.reaching.invariant.kept n node at);
      decided = λ links old n node at.
          elim (put_cases nodes more n node (subst (λ (xs : List NodeTasks). slice_get xs n ≡ Some node) c.in_ok-push.ensures.ok at)) [
            | inl before ↦ c.reaching.invariant.decided links old n node before
            | inr last ↦ subst (λ (x : NodeTasks). IsDecided links x.here.entries × IsDecided links x.below.entries) last.1 (c.empty_node.ensures links)
          ];
    }
