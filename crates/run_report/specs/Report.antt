-- The report of a run: what each node printed and how it ended, by number, and, where it is asked for, what the cells
-- of each object hold, in the order of declaration. The texts are this project's own.
use Rattle.std.specs.Prelude.{ℕ, zero, suc, ◌+◌, ◌==◌, List, [], ◌∷◌, ◌++◌, length, slice_get, codes}
use Rattle.std.specs.Prelude.{Option, Some, None, Bool, false, if◌then◌else◌}
use Rattle.std.specs.Option.{option_and_then, option_map_or}
use Rattle.std.specs.Fmt.{decimal, signed_decimal}
use Rattle.sc_base.specs.declared.value.Value.{Value}
use Rattle.sc_base.specs.declared.value.Value.TheVariants.{Int, Null, Ptr}
use Rattle.sc_base.specs.declared.value.Place.{Place}
use Rattle.sc_base.specs.declared.value.End.{End}
use Rattle.sc_base.specs.declared.value.End.TheVariants.{Ended, Fault, Cut, Waiting}
use Rattle.sc_base.specs.declared.value.FaultKind.{FaultKind}
use Rattle.sc_base.specs.declared.value.FaultKind.TheVariants.{Divide, Overflow, Shift, Index, NullUse, BadNode}
use Rattle.sc_base.specs.declared.value.FaultKind.TheVariants.{PendingUse, BadSize, Depth}
use Rattle.sc_tree.specs.Names.{Text}
use Rattle.sc_layout.specs.Layout.{Arrangement, product}
use Rattle.sc_layout.specs.Place.{place_of}
use Rattle.sc_isa.specs.declared.results.NodeResult.{NodeResult}

abbrev pub line : List ℕ → List ℕ
line text = text ++ 10 ∷ []

abbrev pub fault_name : FaultKind → List ℕ
fault_name Divide = codes "Divide"
fault_name Overflow = codes "Overflow"
fault_name Shift = codes "Shift"
fault_name Index = codes "Index"
fault_name NullUse = codes "NullUse"
fault_name BadNode = codes "BadNode"
fault_name PendingUse = codes "PendingUse"
fault_name BadSize = codes "BadSize"
fault_name Depth = codes "Depth"

abbrev pub end_text : Option End → List ℕ
end_text None = []
end_text (Some Ended) = codes "-- ended --"
end_text (Some (Fault kind at)) = codes "-- fault " ++ fault_name kind ++ codes " line " ++ decimal at ++ codes " --"
end_text (Some Cut) = codes "-- cut --"
end_text (Some Waiting) = codes "-- waiting --"

-- the text, with a newline at its end if it has bytes and none there
abbrev pub whole_lines : List ℕ → List ℕ
whole_lines [] = []
whole_lines (x ∷ []) = if x == 10 then x ∷ [] else x ∷ 10 ∷ []
whole_lines (x ∷ y ∷ rest) = x ∷ whole_lines (y ∷ rest)

-- what a node printed, between its number and its end
abbrev pub node_lines : ℕ → Option End → List ℕ → List ℕ
node_lines node end text =
    line (codes "== node " ++ decimal node ++ codes " ==") ++ whole_lines text ++ line (end_text end)

-- one after another from this number on
abbrev pub each_from : ℕ → ℕ → (ℕ → List ℕ) → List ℕ
each_from first zero text = []
each_from first (suc count) text = text first ++ each_from (first + 1) count text

abbrev pub is_spread : Arrangement → ℕ → Bool
is_spread layout object = option_map_or (λ o. o.shape.spread) (slice_get layout.objects object) false

-- how many cells the object has in array order
abbrev pub count_of : Arrangement → ℕ → ℕ
count_of layout object = option_map_or (λ o. product o.bounds) (slice_get layout.objects object) 0

module _ (names : List Text) (layout : Arrangement) where
  -- the name of the object with this number
  abbrev pub name_of : ℕ → Text
  name_of object =
      let found = option_and_then (λ o. slice_get names o.shape.name) (slice_get layout.objects object) in
      option_map_or (λ name. name) found []

  abbrev pub value_text : Value → List ℕ
  value_text (Int n) = signed_decimal n
  value_text Null = codes "null"
  value_text (Ptr object node offset) = name_of object ++ codes "@" ++ decimal node ++ codes "+" ++ decimal offset

module _ (names : List Text) (layout : Arrangement) (memory : Place → Value) where
  abbrev pub cell_text : Option Place → List ℕ
  cell_text None = []
  cell_text (Some place) = codes " " ++ value_text names layout (memory place)

  -- what so many of the object's first cells hold, in array order, and of an ordinary object those of this node
  abbrev pub first_cells : ℕ → ℕ → ℕ → List ℕ
  first_cells node object count = each_from 0 count (λ index. cell_text (place_of layout node object index))

  unfoldable pub cells_text : ℕ → ℕ → List ℕ
  cells_text node object = first_cells node object (count_of layout object)

  -- the line of a spread object
  abbrev pub spread_line : ℕ → List ℕ
  spread_line object = line (name_of names layout object ++ codes " =" ++ cells_text 0 object)

  -- the line of a node's copy of an ordinary object
  abbrev pub copy_line : ℕ → ℕ → List ℕ
  copy_line object node =
      line (name_of names layout object ++ codes "@" ++ decimal node ++ codes " =" ++ cells_text node object)

  unfoldable pub object_lines : ℕ → List ℕ
  object_lines object =
      if is_spread layout object then spread_line object else each_from 0 layout.nodes (copy_line object)

  abbrev pub memory_lines : List ℕ
  memory_lines = line (codes "== memory ==") ++ each_from 0 (length layout.objects) object_lines

-- what each node of this many printed, by number, from its end and its text
abbrev pub nodes_lines : ℕ → (ℕ → Option End) → (ℕ → List ℕ) → List ℕ
nodes_lines nodes ends texts = each_from 0 nodes (λ node. node_lines node (ends node) (texts node))

-- the nodes' ends and texts by number, the memory, and whether it is shown
abbrev pub report :
    List Text → Arrangement → (ℕ → Option End) → (ℕ → List ℕ) → (Place → Value) →
    Bool → List ℕ
report names layout ends texts memory shows_memory =
    nodes_lines layout.nodes ends texts ++ (if shows_memory then memory_lines names layout memory else [])

-- how the nodes ended, by number
abbrev pub ends_in : List NodeResult → ℕ → Option End
ends_in nodes node = option_map_or (λ n. Some n.end) (slice_get nodes node) None

-- what the nodes printed, by number
abbrev pub texts_in : List NodeResult → ℕ → List ℕ
texts_in nodes node = option_map_or (λ n. n.printed) (slice_get nodes node) []
