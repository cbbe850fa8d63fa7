-- The node has no children.
use Rattle.std.proofs.Common.{ℕ, List, subst}
use Rattle.region_paths.specs.declared.elements.Elem.{Elem}
use Rattle.prefix_tree.specs.Nodes.{IsParent}
use Rattle.tree_admit.proofs.locking.passes_bare.Goals as goal

pub pass_by-requires-clause-may : goal.pass_by-requires-clause-may
pass_by-requires-clause-may g c =
    c.requires.may (subst (λ (ns : List (List Elem)). (m : ℕ) → ¬ IsParent ns c.args.node m) c.requires.shape (c.has_children.ensures c.if-has_children.false))

pub returns-clause-lowest : goal.returns-clause-lowest
returns-clause-lowest g c passed = subst (λ (ns : List (List Elem)). (m : ℕ) → ¬ IsParent ns c.args.node m) c.requires.shape (c.has_children.ensures c.if-has_children.false)
