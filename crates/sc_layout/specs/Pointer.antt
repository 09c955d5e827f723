-- The arithmetic of pointers, after the global and spread pointers of the report "Introduction to Split-C"
-- (Culler and others, 1995): a global step stays on its node, and a spread step goes over the nodes in cyclic
-- order. A pointer may stand outside its object, up to the limit on cells, and is not used there.
use Rattle.std.specs.Prelude.{ℕ, ◌+◌, ◌*◌, ◌/◌, ◌%◌, ◌<◌, ℤ, pos, negsuc, ◌+ℤ◌, if◌then◌else◌, nat_lt, nat_le, Result, Ok, Err, length}
use Rattle.sc_base.specs.declared.value.FaultKind.{FaultKind}
use Rattle.sc_base.specs.declared.value.FaultKind.TheVariants.{Index, NullUse, BadNode}
use Rattle.sc_base.specs.declared.value.Place.{Place}
use Rattle.sc_base.specs.declared.value.Value.{Value}
use Rattle.sc_base.specs.declared.value.Value.TheVariants.{Int, Null, Ptr}
use Rattle.sc_base.specs.declared.limits.TheConstants.{LIMITS}
use Rattle.sc_layout.specs.Layout.{Arrangement}
use Rattle.sc_layout.specs.Place.{extent_of}

-- null, or a pointer that names an object and a node of the layout
abbrev pub IsPointer : Arrangement → Value → Type 0
IsPointer layout (Int n) = ⊥
IsPointer layout Null = Unit {0}
IsPointer layout (Ptr object node offset) = (object < length layout.objects) × (node < layout.nodes)

-- the place that a pointer is used at
abbrev pub used_place : Arrangement → Value → Result Place FaultKind
used_place layout (Ptr object node offset) =
    if nat_lt offset (extent_of layout node object) then Ok (record { object = object; node = node; offset = offset })
    else Err Index
used_place layout value = Err NullUse

-- a pointer with this offset, where there may be one
abbrev pub pointer_at : ℕ → ℕ → ℕ → Result Value FaultKind
pointer_at object node offset = if nat_le offset LIMITS.cells then Ok (Ptr object node offset) else Err Index

abbrev pub at_offset : ℕ → ℕ → ℤ → Result Value FaultKind
at_offset object node (pos offset) = pointer_at object node offset
at_offset object node (negsuc _) = Err Index

-- the pointer to the q-th block of one cell, counted over the nodes in cyclic order
abbrev pub at_round : ℕ → ℕ → ℤ → Result Value FaultKind
at_round nodes object (pos q) = pointer_at object (q % nodes) (q / nodes)
at_round nodes object (negsuc _) = Err Index

abbrev pub global_step : Value → ℤ → Result Value FaultKind
global_step (Ptr object node offset) by = at_offset object node (pos offset +ℤ by)
global_step value by = Err NullUse

abbrev pub spread_step : ℕ → Value → ℤ → Result Value FaultKind
spread_step nodes (Ptr object node offset) by = at_round nodes object (pos (offset * nodes + node) +ℤ by)
spread_step nodes value by = Err NullUse

-- the pointer with this node
abbrev pub with_node : ℕ → Value → Value
with_node node (Ptr object _ offset) = Ptr object node offset
with_node node value = value

abbrev pub global_of : ℕ → ℤ → Value → Result Value FaultKind
global_of nodes (pos node) value = if nat_lt node nodes then Ok (with_node node value) else Err BadNode
global_of nodes (negsuc _) value = Err BadNode

abbrev pub node_of : Value → Result ℤ FaultKind
node_of (Ptr object node offset) = Ok (pos node)
node_of value = Err NullUse
