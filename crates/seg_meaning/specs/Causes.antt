-- What leads to a fault within a segment.
use Rattle.twe_base.specs.declared.fault.FaultKind.{FaultKind}
use Rattle.twe_base.specs.declared.fault.FaultKind.TheVariants as kinds
use Rattle.seg_meaning.specs.declared.fault.FaultCause.{FaultCause}
use Rattle.seg_meaning.specs.declared.fault.FaultCause.TheVariants.{DivZero, Index, GridIndex, Fuel, Depth}

-- the kind of fault that a cause leads to
abbrev pub fault_kind : FaultCause → FaultKind
fault_kind DivZero = kinds.DivZero
fault_kind (Index index) = kinds.Index
fault_kind (GridIndex row column) = kinds.Index
fault_kind Fuel = kinds.Fuel
fault_kind Depth = kinds.Depth
