-- When a node of the heaviest chain shows what an entry did.
use Rattle.std.specs.Prelude.{◌≡◌, ◌↔◌, ◌⊎◌, ℕ, Bool, true, false, List, Some, IsTrue}
use Rattle.std.specs.List.{Contains}
use Rattle.effect_sets.specs.Access.{PathAccess as PathAccess}
use Rattle.span_profile.specs.heaviest_chain.Nodes.{Node}
use Rattle.span_profile.specs.declared.heaviest_chain.key.Key.{Key}
use Rattle.span_profile.specs.declared.heaviest_chain.key.Key.TheVariants.{Task, Value, Write, Access}
use Rattle.prefix_tree.specs.declared.part.Part.{Part}
use Rattle.span_profile.specs.Strands.{Strand}
use Rattle.span_profile.specs.inner.Numbering.{IsNumber, parts_of}

-- The entry has an access, a write or a read, to the path of this number.
pub record HasAccess (nodes : List (List Part)) (strand : Strand) (write : Bool) (place : ℕ) : Type 0 where
  pub access : PathAccess
  pub has : Contains strand.accesses access
  pub writes : access.write ≡ write
  pub number : IsNumber nodes place (parts_of access.path)

-- the entry asks for the key: it is of the task, takes the value, or accesses the path
abbrev pub AsksKey : List (List Part) → Strand → Key → Type 0
AsksKey nodes strand (Task task) = strand.task ≡ task
AsksKey nodes strand (Value task) = strand.taken ≡ Some task
AsksKey nodes strand (Write place) = HasAccess nodes strand false place
AsksKey nodes strand (Access place) = HasAccess nodes strand true place

-- the entry gives the key: it is of the task or made it, gives the value, or accesses the path
abbrev pub GivesKey : List (List Part) → Strand → Key → Type 0
GivesKey nodes strand (Task task) = (strand.task ≡ task) ⊎ (strand.made ≡ Some task)
GivesKey nodes strand (Value task) = IsTrue strand.done × (strand.task ≡ task)
GivesKey nodes strand (Write place) = HasAccess nodes strand true place
GivesKey nodes strand (Access place) = HasAccess nodes strand true place ⊎ HasAccess nodes strand false place

-- The node asks for the keys that the entry asks for, and gives those that it gives.
pub record Shows (nodes : List (List Part)) (node : Node) (strand : Strand) : Type 0 where
  pub weight : node.weight ≡ strand.weight
  pub asks : (key : Key) → Contains node.asks key ↔ AsksKey nodes strand key
  pub gives : (key : Key) → Contains node.gives key ↔ GivesKey nodes strand key
  pub placed : (access : PathAccess) → Contains strand.accesses access → (place : ℕ) × IsNumber nodes place (parts_of access.path)
