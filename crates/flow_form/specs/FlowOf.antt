-- The flow of a source: the points of its functions in the order of the text, and what follows from them.
use Rattle.std.specs.Prelude.{◌≡◌, ℕ, suc, ◌+◌, ◌<◌, List, [], ◌∷◌, ◌++◌, Option, Some, None, length, map, flat_map, filter_map, slice_get, ltb, if◌then◌else◌}
use Rattle.std.specs.Option.{option_map_or}
use Rattle.sc_base.specs.declared.limits.TheConstants.{LIMITS}
use Rattle.sc_core.specs.Core.{Function, Program}
use Rattle.sc_core.specs.Forms.{exposes_of}
use Rattle.sc_meaning.specs.Points.{size_of, first_point}
use Rattle.site_graph.specs.declared.flow.Edge.{Edge}
use Rattle.site_graph.specs.declared.point.PointKind.TheVariants.{Start}
use Rattle.site_graph.specs.Graph.{Graph}
use Rattle.site_graph.specs.Rising.{rising, edge_before}
use Rattle.flow_form.specs.declared.error.FlowError.{FlowError}
use Rattle.flow_form.specs.declared.error.FlowError.TheVariants.{TooManySites, OutOfMemory}
use Rattle.flow_form.specs.Within.{Within, Placed}
use Rattle.flow_form.specs.Accesses.{accesses_in, accesses_of}
use Rattle.flow_form.specs.Statements.{returns_of, points_of}

-- ---- points

-- the points at which the function with this number returns
abbrev pub returns : List Function → (function : ℕ) → List ℕ
returns functions f = option_map_or (λ g. returns_of g (first_point functions f)) (slice_get functions f) []

-- Start, from which evaluation goes on at the first point of `splitc_main`
abbrev pub start : Program → Placed
start program = record {
  at = 0;
  froms = [];
  callee = Some program.main;
  point = record { kind = Start; function = program.main; takes = []; reads = []; writes = None };
  site = None;
}

-- the function with this number, as its parts see it
abbrev pub within : (nodes : ℕ) → (returns : ℕ → List ℕ) → (number : ℕ) → Function → Within
within nodes returns n f =
    record { nodes = nodes; returns = returns; function = n; params = length f.params; mines = [] }

-- the points of the functions, the first of which has the number n and the first point k, and s sites before it
abbrev pub points_from : (nodes : ℕ) → (returns : ℕ → List ℕ) → (n k s : ℕ) →
    List Function → List Placed
points_from nodes returns n k s [] = []
points_from nodes returns n k s (f ∷ more) =
    points_of (within nodes returns n f) f k s ++
    points_from nodes returns (suc n) (k + size_of f.body + 2) (s + accesses_in f.body) more

abbrev pub all_points : (nodes : ℕ) → Program → List Placed
all_points nodes program = start program ∷ points_from nodes (returns program.functions) 0 1 0 program.functions

-- ---- edges

abbrev pub edge : (from to : ℕ) → Edge
edge from to = record { from = from; to = to }

-- from a call, or from Start, to the first point of the function
abbrev pub edges_called : List Function → (from : ℕ) → (callee : Option ℕ) → List Edge
edges_called functions from None = []
edges_called functions from (Some f) = if ltb f (length functions) then edge from (first_point functions f)
    ∷ [] else []

abbrev pub edges_at : List Function → Placed → List Edge
edges_at functions p = map (λ from. edge from p.at) p.froms ++ edges_called functions p.at p.callee

-- ---- the flow

-- of the source on so many nodes
abbrev pub flow_of : (nodes : ℕ) → Program → Graph
flow_of nodes program =
    let all : List Placed = all_points nodes program in
    record {
      points = map (λ p. p.point) all;
      edges = rising edge_before (flat_map (edges_at program.functions) all);
      sites = filter_map (λ p. p.site) all;
      exposed = rising ltb (exposes_of program);
    }

-- why there is no flow: the source has more accesses than the limit, and this is how many
abbrev pub IsCause : FlowError → Program → Type 0
IsCause (TooManySites count) program = (LIMITS.sites < accesses_of program) × (count ≡ accesses_of program)
IsCause OutOfMemory program = Unit {0}
