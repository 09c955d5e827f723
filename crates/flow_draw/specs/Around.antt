-- What a part of a source is drawn with, as the definitions of the flow see it: where the functions of the source begin
-- and return is found in a list of entries.
use Rattle.std.specs.Prelude.{ℕ, List, [], ◌∷◌, ◌++◌, map, slice_get, Option, Some, None}
use Rattle.std.specs.Option.{option_map_or}
use Rattle.site_graph.specs.declared.flow.Edge.{Edge}
use Rattle.flow_form.specs.declared.scan.Entry.{Entry}
use Rattle.flow_form.specs.Within.{Within, Placed}
use Rattle.flow_form.specs.FlowOf.{edge}
use Rattle.flow_draw.specs.declared.around.Around.{Around}

-- the points at which the function with this number returns
abbrev pub returns_by : List Entry → (function : ℕ) → List ℕ
returns_by entries f = option_map_or (λ e. e.returns) (slice_get entries f) []

-- from a call to the first point of the function
abbrev pub edges_to : List Entry → (from : ℕ) → (callee : Option ℕ) → List Edge
edges_to entries from None = []
edges_to entries from (Some f) = option_map_or (λ e. edge from e.first ∷ []) (slice_get entries f) []

abbrev pub edges_by : List Entry → Placed → List Edge
edges_by entries p = map (λ from. edge from p.at) p.froms ++ edges_to entries p.at p.callee

abbrev pub within_of : Around → Within
within_of a = record {
  nodes = a.nodes;
  returns = returns_by a.entries.now;
  function = a.function;
  params = a.params;
  mines = a.mines.now;
}
