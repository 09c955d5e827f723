-- The flow of a source keeps what every flow keeps.
use Rattle.std.proofs.Common.{◌≡◌, ℕ, zero, suc, ◌+◌, ◌<◌, ◌≤◌, ◌^◌, List, [], ◌∷◌, length, true, false, Option, Some, None, slice_get, refl, sym, ap, subst, arith}
use Rattle.std.specs.Prelude.{ltb, map, flat_map, All, if◌then◌else◌}
use Rattle.std.specs.Option.{option_map_or}
use Rattle.std.proofs.lemmas.Bool.{ltb-true}
use Rattle.std.proofs.lemmas.List.{length-map}
use Rattle.std.proofs.lemmas.List.Elements.{All-from_recursion}
use Rattle.sc_core.specs.Core.{Function, Program}
use Rattle.sc_core.specs.Forms.{exposes_of}
use Rattle.sc_meaning.specs.Points.{size_of, first_from, first_point}
use Rattle.site_graph.specs.declared.flow.Edge.{Edge}
use Rattle.site_graph.specs.declared.point.PointKind.TheVariants.{Start}
use Rattle.site_graph.specs.Graph.{Graph, kind_at, IsAt}
use Rattle.site_graph.specs.Kept.{IsFlow, IsSiteOf}
use Rattle.site_graph.specs.Rising.{edge_before}
use Rattle.flow_form.specs.Within.{Placed}
use Rattle.flow_form.specs.Accesses.{accesses_of}
use Rattle.flow_form.specs.Exits.{returns_in}
use Rattle.flow_form.specs.Statements.{returns_of}
use Rattle.flow_form.specs.FlowOf.{points_from, all_points, edges_called, edges_at, edge, flow_of, returns}
use Rattle.flow_form.specs.Laws.{FlowsAreKept}
use Rattle.flow_form.proofs.Rises.{Each, each_append, each_weaker, each_map, each_flat, each_of, each_at, In, is_rising, each_rising, rises_rising, numbers_follow, edges_follow}
use Rattle.flow_form.proofs.Run.{last_from, last_after, sites_from, total_points, runs_behind, long, at_below, none_starts, numbered, has_point, one_point, sites_are_the_accesses, all_sites}
use Rattle.flow_form.proofs.Good.{Below, climbs_above, climbs_rise, returns_in_below, IsGood, good_from}

-- ---- functions begin and return at points of the flow

pub first_below : (functions : List Function) (k f : ℕ) → f < length functions → first_from k functions f < last_from k functions
first_below [] k f lt = absurd (omega arith)
first_below (g ∷ more) k zero lt = let h = last_after (k + size_of g.body + 2) more in omega arith
first_below (g ∷ more) k (suc f) lt = first_below more (k + size_of g.body + 2) f (omega arith)

returns_below : (n : ℕ) (functions : List Function) (k f : ℕ) → last_from k functions ≤ n
    → Below n (option_map_or (λ g. returns_of g (first_from k functions f)) (slice_get functions f) [])
returns_below n [] k f le = tt
returns_below n (g ∷ more) k zero le =
    let h = last_after (k + size_of g.body + 2) more in
    each_append (λ x. x < n) (returns_in g.body (k + 1)) _ (returns_in_below n g.body (k + 1) (omega arith)) (omega arith, tt)
returns_below n (g ∷ more) k (suc f) le = returns_below n more (k + size_of g.body + 2) f le

module _ (nodes : ℕ) (program : Program) where
  abbrev functions : List Function
  functions = program.functions

  abbrev rest : List Placed
  rest = points_from nodes (returns functions) 0 1 0 functions

  abbrev pub total : ℕ
  total = total_points program

  abbrev pub sites : ℕ
  sites = sites_from 0 functions

  pub few : (f : ℕ) → Below total (returns functions f)
  few f = returns_below total functions 1 f (omega arith)

  pub all_good : Each (IsGood total sites) (all_points nodes program)
  all_good = (
    record { froms = tt; takes = omega arith; reads = tt },
    good_from total sites nodes (returns functions) few 0 1 0 functions (omega arith) (omega arith),
  )

  pub all_below : Each (λ p. p.at < total) (all_points nodes program)
  all_below = (last_after 1 functions, at_below rest 1 0 total sites (runs_behind nodes program))

  abbrev flow : Graph
  flow = flow_of nodes program

  pub points_are : length flow.points ≡ total
  points_are =
      let e = length-map (all_points nodes program) (λ p. p.point) in
      let h = long rest 1 0 total sites (runs_behind nodes program) in
      omega arith

  pub sites_are : length flow.sites ≡ sites
  sites_are = let e = all_sites 0 functions in let h = sites_are_the_accesses nodes program in omega arith

  -- ---- edges

  abbrev IsWithin : Edge → Type 0
  IsWithin e = (e.from < total) × (e.to < total)

  by_test : (b : _) (e : Edge) → (b ≡ true → IsWithin e) → Each IsWithin (if b then e ∷ [] else [])
  by_test true e h = (h refl, tt)
  by_test false e h = tt

  called_within : (from : ℕ) (callee : Option ℕ) → from < total → Each IsWithin (edges_called functions from callee)
  called_within from None lt = tt
  called_within from (Some f) lt =
      by_test (ltb f (length functions)) (edge from (first_point functions f))
      (λ e. (lt, first_below functions 1 f (ltb-true f (length functions) e)))

  edges_within_at : (p : Placed) → In p (all_points nodes program) → Each IsWithin (edges_at functions p)
  edges_within_at p i =
      let lt = each_at (λ q. q.at < total) (all_points nodes program) p all_below i in
      let g = each_at (IsGood total sites) (all_points nodes program) p all_good i in
      each_append IsWithin (map (λ from. edge from p.at) p.froms) _
      (each_map IsWithin (λ from. edge from p.at) p.froms
      (each_weaker (λ x. x < total) (λ x. IsWithin (edge x p.at)) p.froms (λ x h. (h, lt)) g.froms))
      (called_within p.at p.callee lt)

  edges_within : Each IsWithin flow.edges
  edges_within = each_rising edge_before IsWithin _
      (each_flat IsWithin (edges_at functions) (all_points nodes program)
      (each_of (λ p. Each IsWithin (edges_at functions p)) (all_points nodes program) edges_within_at))

  -- ---- kinds

  starts : (t : ℕ) → kind_at flow t ≡ Start → t ≡ 0
  starts zero e = refl
  starts (suc t) e = absurd (none_starts rest 1 0 total sites t (runs_behind nodes program) e)

  number_within : (t number : ℕ) → IsAt flow number t → (0 < number) × (number ≤ sites)
  number_within zero number e = absurd cc
  number_within (suc t) number e = numbered rest 1 0 total sites t number (runs_behind nodes program) e

  a_point : (number : ℕ) → 0 < number → number ≤ sites → (t : ℕ) × IsAt flow number t
  a_point number lt le =
      let r = has_point rest 1 0 total sites number (runs_behind nodes program) lt le in (suc r.0, r.1)

  no_other : (number t u : ℕ) → IsAt flow number t → IsAt flow number u → t ≡ u
  no_other number zero u h k = absurd cc
  no_other number (suc t) zero h k = absurd cc
  no_other number (suc t) (suc u) h k = ap suc (one_point rest 1 0 total sites number t u (runs_behind nodes program) h k)

  -- ---- what the points take and read

  takes_within : (p : Placed) → IsGood total sites p → All (IsSiteOf flow) p.point.takes
  takes_within p g =
      let e = sites_are in
      All-from_recursion (IsSiteOf flow) p.point.takes
      (each_weaker (λ n. (0 < n) × (n ≤ sites)) (IsSiteOf flow) p.point.takes
      (λ n h. let a = h.0 in let b = h.1 in (omega arith, omega arith)) (climbs_above 0 sites p.point.takes g.takes))

  pub kept : length flow.points < 2 ^ 32 → accesses_of program + 1 < 2 ^ 32 → IsFlow flow
  kept few_points few_accesses =
      let n = points_are in
      let m = sites_are in
      let e = sites_are_the_accesses nodes program in
      let all = all_points nodes program in
      record {
        few_points = few_points;
        few_sites = omega arith;
        some_point = omega arith;
        start = λ t lt. (starts t, λ e. subst (λ i. kind_at flow i ≡ Start) (sym e) refl);
        edges_within = All-from_recursion _ flow.edges
            (subst (λ k. Each (λ (d : Edge). (d.from < k) × (d.to < k)) flow.edges) (sym n) edges_within);
        takes_within = All-from_recursion _ flow.points
            (each_map _ (λ p. p.point) all (each_weaker (IsGood total sites) _ all takes_within all_good));
        access_within = λ t number at. let h = number_within t number at in let a = h.0 in let b = h.1 in (omega arith, omega arith);
        has_point = λ number h. let a = h.0 in let b = h.1 in a_point number (omega arith) (omega arith);
        one_point = no_other;
        edges_rise = is_rising edge_before flow.edges (rises_rising edge_before edges_follow (flat_map (edges_at functions) all));
        exposed_rise = is_rising ltb flow.exposed (rises_rising ltb numbers_follow (exposes_of program));
        takes_rise = All-from_recursion _ flow.points
            (each_map _ (λ p. p.point) all (each_weaker (IsGood total sites) _ all
            (λ p g. is_rising ltb p.point.takes (climbs_rise 0 sites p.point.takes g.takes)) all_good));
        reads_rise = All-from_recursion _ flow.points
            (each_map _ (λ p. p.point) all (each_weaker (IsGood total sites) _ all
            (λ p g. is_rising ltb p.point.reads g.reads) all_good));
      }

pub flows_are_kept : FlowsAreKept
flows_are_kept nodes program few_points few_accesses = kept nodes program few_points few_accesses
