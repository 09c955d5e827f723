-- What functions and a whole source add to a flow that is drawn.
use Rattle.std.specs.Prelude.{ℕ, suc, List, [], ◌∷◌, ◌++◌, length, Some}
use Rattle.sc_core.specs.Core.{Function, Program}
use Rattle.site_graph.specs.declared.point.PointKind.TheVariants.{Start, Plain, Return}
use Rattle.flow_form.specs.declared.scan.Entry.{Entry}
use Rattle.flow_form.specs.Within.{Within}
use Rattle.flow_form.specs.FlowOf.{within}
use Rattle.flow_draw.specs.Around.{returns_by, edges_to}
use Rattle.flow_walk.specs.declared.walk.Walk.{Walk}
use Rattle.flow_walk.specs.Walked.{walked}
use Rattle.flow_walk.specs.Steps.{pointed, walk_point, walk_from}

unfoldable pub walk_none : Walk
walk_none = record {
  drawing = record { points = []; edges = []; sites = []; froms = []; takes = []; occurs = [] };
  breaks = [];
  continues = [];
  ends = [];
}

-- ---- functions

-- to a function's first point only calls lead
unfoldable pub walk_fresh : Walk → Walk
walk_fresh x = record (walk_from [] x) { breaks = []; continues = [] }

-- the first point, to which calls lead; the body; and its end
unfoldable pub walk_function : List Entry → Within → Function → Walk → Walk
walk_function entries w f x = walk_point w Return (walked entries w f.body (walk_point w Plain (walk_fresh x)))

-- the functions, the first of which has the number n
unfoldable pub walk_functions : List Entry → (nodes n : ℕ) → List Function → Walk → Walk
walk_functions entries nodes n [] x = x
walk_functions entries nodes n (f ∷ more) x =
    walk_functions entries nodes (suc n) more (walk_function entries (within nodes (returns_by entries) n f) f x)

-- ---- the source

-- Start, from which evaluation goes on at the first point of `splitc_main`
unfoldable pub started : List Entry → Within → Walk → Walk
started entries w x =
    let d = pointed w Start x.drawing in
    record x { drawing = record d { edges = d.edges ++ edges_to entries (length x.drawing.points) (Some w.function) } }

-- where `splitc_main` is drawn with nothing but its number
abbrev pub main_within : List Entry → (nodes main : ℕ) → Within
main_within entries nodes main =
    record { nodes = nodes; returns = returns_by entries; function = main; params = 0; mines = [] }

unfoldable pub walk_source : List Entry → (nodes : ℕ) → Program → Walk
walk_source entries nodes program =
    walk_functions entries nodes 0 program.functions
    (started entries (main_within entries nodes program.main) walk_none)
