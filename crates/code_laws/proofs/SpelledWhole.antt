-- The code of a source is spelled by its pieces, and the points between two runs are empty.
use Rattle.std.proofs.Common.{◌≡◌, ℕ, zero, suc, ◌+◌, ◌<◌, List, [], ◌∷◌, length, map, Option, Some, None, Bool, true, false, slice_get, refl, sym, ap, ◌∙◌, subst, arith}
use Rattle.std.specs.Prelude.{if◌then◌else◌, ltb}
use Rattle.std.specs.List.{All}
use Rattle.std.proofs.lemmas.Bool.{ltb-true}
use Rattle.std.proofs.lemmas.List.{length-map}
use Rattle.std.proofs.lemmas.List.Elements.{All-from_recursion}
use Rattle.std.proofs.lemmas.Option.{slice_get_within}
use Rattle.sc_layout.specs.Layout.{Arrangement}
use Rattle.sc_isa.specs.declared.code.Code.{Code}
use Rattle.sc_isa.specs.declared.op.Instr.{Instr}
use Rattle.sc_isa.specs.declared.op.Op.{Op}
use Rattle.sc_core.specs.Core.{Function, Program}
use Rattle.sc_meaning.specs.Points.{size_of, first_from, first_point}
use Rattle.flow_form.specs.Within.{Placed}
use Rattle.flow_form.specs.Accesses.{accesses_in}
use Rattle.flow_form.specs.Statements.{points_of}
use Rattle.flow_form.specs.FlowOf.{edge, edges_called, flow_of, points_from, returns}
use Rattle.flow_form.proofs.Rises.{Each}
use Rattle.flow_form.proofs.Run.{runs_behind, long, points_stand_in_order}
use Rattle.site_graph.specs.declared.flow.Edge.{Edge}
use Rattle.site_graph.specs.declared.plan.Plan.{Plan}
use Rattle.site_graph.specs.declared.point.Point.{Point}
use Rattle.site_graph.specs.Graph.{Graph}
use Rattle.node_emit.specs.Widths.{width_of}
use Rattle.node_emit.specs.Sources.{IsCodeOf}
use Rattle.node_emit.specs.Spelled.{IsRunFor, IsOutsidePiece, IsSpelled}
use Rattle.emit_laws.proofs.Items.{function_items, functions_are, spells_are}
use Rattle.emit_laws.proofs.FunctionCodes.{sites_before}
use Rattle.code_laws.proofs.Compiled.{source_items, pieces_of, runs_in, function_runs, runs_of, callee_at, between_of}
use Rattle.code_laws.proofs.Bodies.{all, its_point, view, number_from, number_is, body_of}
use Rattle.code_laws.proofs.Between.{has_one}
use Rattle.code_laws.proofs.Firsts.{mapped_at, first_is_first}
use Rattle.code_laws.proofs.Ordered.{functions_long, functions_ordered, functions_outside}
use Rattle.code_laws.proofs.Spelling.{Runs, Pairs, pairs_on, function_pairs}

module _ (layout : Arrangement) (program : Program) (plan : Plan) where
  abbrev graph : Graph
  graph = flow_of layout.nodes program

  abbrev runs : List (List Op)
  runs = runs_of plan program

  rest_pairs : (fs : List Function) (n k s pc : ℕ)
      → ((f : ℕ) (g : Function) (at : ℕ) → slice_get fs f ≡ Some g
      → Pairs layout program plan (points_of (view layout program (number_from n f) g) g (first_from k fs f) (sites_before s fs f))
      ([] ∷ runs_in (function_items plan g (first_from k fs f) (sites_before s fs f) at)))
      → Pairs layout program plan (points_from layout.nodes (returns program.functions) n k s fs) (function_runs plan fs k s pc)
  rest_pairs [] n k s pc h = tt
  rest_pairs (x ∷ more) n k s pc h =
      pairs_on layout program plan (points_of (view layout program n x) x k s) _ ([] ∷ runs_in (function_items plan x k s pc)) _ (h 0 x pc refl)
      (rest_pairs more (suc n) (k + size_of x.body + 2) (s + accesses_in x.body) (pc + width_of plan x k) (λ f g at e. h (suc f) g at e))

  -- each run is that of its point
  all_pairs : Pairs layout program plan (all layout program) runs
  all_pairs = (
    refl,
    rest_pairs program.functions 0 1 0 0
        (λ f g at e. subst (λ m. Pairs layout program plan (points_of (view layout program m g) g (first_point program.functions f) (sites_before 0 program.functions f))
        ([] ∷ runs_in (function_items plan g (first_point program.functions f) (sites_before 0 program.functions f) at)))
        (let n = number_is 0 f in let o : f ≡ number_from 0 f = omega (arith, n) in o) (function_pairs layout program plan f g at e)),
  )

  pairs_at : (ps : List Placed) (rs : List (List Op)) (i : ℕ) (p : Placed) (r : List Op) → Pairs layout program plan ps rs → slice_get ps i ≡ Some p
      → slice_get rs i ≡ Some r → Runs layout program plan p r
  pairs_at [] rs i p r h e f = absurd (cc)
  pairs_at (q ∷ ps) [] i p r h e f = absurd h
  pairs_at (q ∷ ps) (s ∷ rs) zero p r h e f =
      let same : q ≡ p = cc in
      let run : s ≡ r = cc in
      subst (λ o. Runs layout program plan o r) same (subst (λ o. Runs layout program plan q o) run h.0)
  pairs_at (q ∷ ps) (s ∷ rs) (suc i) p r h e f = pairs_at ps rs i p r h.1 e f

  run_is : (t : ℕ) (p : Point) (run : List Op) → slice_get graph.points t ≡ Some p → slice_get runs t ≡ Some run → IsRunFor graph plan t p p.kind run
  run_is t p run e f =
      let q = mapped_at (λ (o : Placed). o.point) (all layout program) t p e in
      let at = points_stand_in_order layout.nodes t program q.0 q.1 in
      subst (λ n. IsRunFor graph plan n p p.kind run) at
      (subst (λ (o : Point). IsRunFor graph plan q.0.at o o.kind run) q.2 (pairs_at (all layout program) runs t q.0 run all_pairs q.1 f))

  as_many : length runs ≡ length graph.points
  as_many =
      let mine = functions_long plan program.functions 1 0 0 in
      let theirs = long (points_from layout.nodes (returns program.functions) 0 1 0 program.functions) 1 0 _ _ (runs_behind layout.nodes program) in
      let mapped = length-map (all layout program) (λ (o : Placed). o.point) in
      omega (arith, mine, theirs, mapped)

  -- the code of the source is spelled by its pieces
  pub is_spelled : (code : Code) → IsCodeOf plan program code → IsSpelled code graph plan (pieces_of plan program) runs
  is_spelled code of = record {
    spells = ap (map (λ (i : Instr). i.op)) (of.instrs ∙ sym (functions_are plan program.functions 1 0 0)) ∙ spells_are plan (source_items plan program);
    others = All-from_recursion IsOutsidePiece (pieces_of plan program) (functions_outside plan program.functions 1 0 0);
    ordered = functions_ordered plan program.functions 1 0 0;
    count = as_many;
    right = run_is;
  }

  first_run : (f : ℕ) → f < length program.functions → slice_get runs (first_point program.functions f) ≡ Some []
  first_run f lt =
      let k = first_point program.functions f in
      let g = has_one program.functions f lt in
      let own = its_point layout program _ (body_of layout program f g.0 g.1).first in
      let within = slice_get_within graph.points k _ own in
      let many = as_many in
      let run = has_one runs k (omega (arith, within, many)) in
      run.1 ∙ ap Some ((run_is k _ run.0 own run.1).first (first_is_first layout program f g.0 g.1))

  called_empty : (from : ℕ) (callee : Option ℕ) → Each (λ t. slice_get runs t ≡ Some []) (map (λ (e : Edge). e.to) (edges_called program.functions from callee))
  called_empty from None = tt
  called_empty from (Some f) = by_test (ltb f (length program.functions)) refl
    where
      by_test : (b : Bool) → ltb f (length program.functions) ≡ b
          → Each (λ t. slice_get runs t ≡ Some []) (map (λ (e : Edge). e.to) (if b then edge from (first_point program.functions f) ∷ [] else []))
      by_test false e = tt
      by_test true e = (first_run f (ltb-true f (length program.functions) e), tt)

  -- what lies between two runs is empty
  pub are_empty : (now next : ℕ) → All (λ t. slice_get runs t ≡ Some []) (between_of layout program now next)
  are_empty now next =
      All-from_recursion (λ t. slice_get runs t ≡ Some []) (between_of layout program now next) (called_empty now (callee_at layout program now))
