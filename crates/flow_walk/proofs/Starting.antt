-- How Start and the functions of a source are drawn, one at a time.
use Rattle.std.proofs.Common.{◌≡◌, refl, ℕ, suc, List, [], ◌∷◌, Some, None, slice_get}
use Rattle.sc_core.specs.Core.{Function}
use Rattle.flow_form.specs.declared.scan.Entry.{Entry}
use Rattle.flow_form.specs.FlowOf.{within, edge}
use Rattle.flow_draw.specs.Around.{returns_by, edges_to}
use Rattle.flow_walk.specs.declared.walk.Walk.{Walk}
use Rattle.flow_walk.specs.Sources.{walk_function, walk_functions}

pub edges-there : (entries : List Entry) (from f : ℕ) (e : Entry) → slice_get entries f ≡ Some e →
    edges_to entries from (Some f) ≡ edge from e.first ∷ []
edges-there entries from f e h = rw h refl

pub edges-none : (entries : List Entry) (from f : ℕ) → slice_get entries f ≡ None → edges_to entries from (Some f) ≡ []
edges-none entries from f h = rw h refl

pub ruleset starts = (edges-there, edges-none)

pub functions-none : (entries : List Entry) (nodes n : ℕ) (x : Walk) → walk_functions entries nodes n [] x ≡ x
unfolding walk_functions
functions-none entries nodes n x = refl

pub functions-on : (entries : List Entry) (nodes n : ℕ) (f : Function) (more : List Function) (x : Walk) →
    walk_functions entries nodes n (f ∷ more) x
    ≡ walk_functions entries nodes (suc n) more (walk_function entries (within nodes (returns_by entries) n f) f x)
unfolding walk_functions
functions-on entries nodes n f more x = refl

pub ruleset functions = (functions-none, functions-on)
