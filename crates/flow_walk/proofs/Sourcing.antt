-- The flow that is drawn of a source is that of its definition.
use Rattle.std.proofs.Common.{◌≡◌, refl, sym, ap, ◌∙◌, subst, ℕ, suc, ◌+◌, ◌<◌, ◌≤◌, ◌^◌, List, [], ◌∷◌, ◌++◌, length, Some, arith, append_assoc}
use Rattle.std.specs.Prelude.{map, flat_map, filter_map, ltb}
use Rattle.std.proofs.lemmas.List.{append-nil, map-append}
use Rattle.std.proofs.lemmas.List.Elements.{filter_map-append}
use Rattle.std.proofs.lemmas.Grind.{flat_map-append}
use Rattle.sc_base.specs.declared.limits.TheConstants.{LIMITS}
use Rattle.sc_core.specs.Core.{Function, Program}
use Rattle.sc_core.specs.Forms.{exposes_in, exposes_of}
use Rattle.sc_meaning.specs.Points.{size_of}
use Rattle.site_graph.specs.declared.flow.Edge.{Edge}
use Rattle.site_graph.specs.declared.point.Point.{Point}
use Rattle.site_graph.specs.declared.point.PointKind.TheVariants.{Plain, Return}
use Rattle.site_graph.specs.declared.site.Site.{Site}
use Rattle.site_graph.specs.Graph.{Graph}
use Rattle.site_graph.specs.Kept.{IsFlow}
use Rattle.site_graph.specs.Rising.{rising, edge_before}
use Rattle.flow_form.specs.declared.gather.Wanted.TheVariants.{Exposed}
use Rattle.flow_form.specs.declared.scan.Entry.{Entry}
use Rattle.flow_form.specs.declared.scan.Whole.{Whole}
use Rattle.flow_form.specs.Within.{Within, Placed}
use Rattle.flow_form.specs.Accesses.{accesses_in, accesses_of}
use Rattle.flow_form.specs.Exits.{leaves}
use Rattle.flow_form.specs.Steps.{bare}
use Rattle.flow_form.specs.Statements.{points_in, points_of, end_of}
use Rattle.flow_form.specs.FlowOf.{start, within, points_from, all_points, edges_at, flow_of}
use Rattle.flow_form.specs.Gathers.{gathered_functions}
use Rattle.flow_form.specs.Scans.{whole_of}
use Rattle.flow_form.proofs.Run.{Runs, runs_of}
use Rattle.flow_form.proofs.Kept.{points_are, flows_are_kept}
use Rattle.flow_form.proofs.Scanned.{points_total}
use Rattle.flow_form.proofs.Gathering.{exposed_in}
use Rattle.flow_draw.specs.declared.drawing.Drawing.{Drawing}
use Rattle.flow_draw.specs.Around.{returns_by, edges_to, edges_by}
use Rattle.flow_draw.specs.Drawings.{fresh, passed}
use Rattle.flow_draw.proofs.Entries.{returns-same, edges-same}
use Rattle.flow_walk.specs.declared.walk.Walk.{Walk}
use Rattle.flow_walk.specs.Walked.{gaining, walked}
use Rattle.flow_walk.specs.Steps.{restored, pointed, walk_point, walk_from}
use Rattle.flow_walk.specs.Sources.{walk_none, walk_fresh, walk_function, walk_functions, started, main_within, walk_source}
use Rattle.flow_walk.proofs.Walking.{gaining_on, gaining_points, gaining_sites, walked_points, walked_at, walked_is, bare_at, point_is, point_points, point_sites}

-- ---- what was drawn

-- the second drawing has these points more
abbrev Gains : List Entry → List Placed → Drawing → Drawing → Type 0
Gains entries ps d e =
    (e.points ≡ d.points ++ map (λ p. p.point) ps) × (e.edges ≡ d.edges ++ flat_map (edges_by entries) ps)
    × (e.sites ≡ d.sites ++ filter_map (λ p. p.site) ps)

module _ (entries : List Entry) where
  gains_none : (d : Drawing) → Gains entries [] d d
  gains_none d = (sym (append-nil d.points), sym (append-nil d.edges), sym (append-nil d.sites))

  gains_on : (ps qs : List Placed) (d e f : Drawing) → Gains entries ps d e → Gains entries qs e f → Gains entries (ps ++ qs) d f
  gains_on ps qs d e f h k = (
    k.0 ∙ ap (λ xs. xs ++ map (λ p. p.point) qs) h.0 ∙ append_assoc d.points (map (λ p. p.point) ps) (map (λ p. p.point) qs)
        ∙ ap (λ xs. d.points ++ xs) (sym (map-append (λ (p : Placed). p.point) ps qs)),
    k.1 ∙ ap (λ xs. xs ++ flat_map (edges_by entries) qs) h.1
        ∙ append_assoc d.edges (flat_map (edges_by entries) ps) (flat_map (edges_by entries) qs)
        ∙ ap (λ xs. d.edges ++ xs) (sym (flat_map-append (edges_by entries) ps qs)),
    k.2 ∙ ap (λ xs. xs ++ filter_map (λ p. p.site) qs) h.2
        ∙ append_assoc d.sites (filter_map (λ p. p.site) ps) (filter_map (λ p. p.site) qs)
        ∙ ap (λ xs. d.sites ++ xs) (sym (filter_map-append (λ (p : Placed). p.site) ps qs)),
  )

  gains_of : (ps : List Placed) (froms : List ℕ) (d : Drawing) → Gains entries ps d (gaining entries ps froms d)
  unfolding gaining
  gains_of ps froms d = (refl, refl, refl)

  -- ---- functions

  fresh_points : (x : Walk) → length (walk_fresh x).drawing.points ≡ length x.drawing.points
  unfolding walk_fresh walk_from
  fresh_points x = refl

  fresh_sites : (x : Walk) → length (walk_fresh x).drawing.sites ≡ length x.drawing.sites
  unfolding walk_fresh walk_from
  fresh_sites x = refl

  function_at : (w : Within) (f : Function) (k s : ℕ) (x : Walk) →
      (bare_at entries w Return (end_of f k) (walked_at entries w f.body (k + 1) s (bare_at entries w Plain k (walk_fresh x)))).drawing
      ≡ gaining entries (points_of w f k s) (end_of f k ∷ []) x.drawing
  unfolding walk_fresh walk_from gaining
  function_at w f k s x =
      let d = x.drawing in
      let m = end_of f k in
      let falls = (leaves w.returns f.body (k + 1) (k ∷ [])).falls in
      let first = bare w Plain k [] [] [] in
      let bodies = points_in w f.body (k + 1) s (k ∷ []) in
      let last = bare w Return m falls [] [] in
      sym (gaining_on entries (first ∷ bodies) (last ∷ []) falls (m ∷ []) d
      ∙ ap (gaining entries (last ∷ []) (m ∷ [])) (gaining_on entries (first ∷ []) bodies (k ∷ []) falls d))

  function_is : (w : Within) (f : Function) (k s : ℕ) (x : Walk) → length x.drawing.points ≡ k → length x.drawing.sites ≡ s →
      (walk_function entries w f x).drawing ≡ gaining entries (points_of w f k s) (end_of f k ∷ []) x.drawing
  unfolding walk_function
  function_is w f k s x a b =
      let x1 = walk_fresh x in
      let x2 = walk_point w Plain x1 in
      let x3 = walked entries w f.body x2 in
      let p1 = fresh_points x in
      let s1 = fresh_sites x in
      let p2 = point_points entries w Plain x1 in
      let s2 = point_sites entries w Plain x1 in
      let p3 = walked_points entries w f.body x2 in
      let drawing : Walk → Drawing = λ y. y.drawing in
      ap drawing (sym (point_is entries w Return (end_of f k) x3 (omega arith))
      ∙ ap (bare_at entries w Return (end_of f k))
      (sym (walked_is entries w f.body (k + 1) s x2 (omega arith) (omega arith))
      ∙ ap (walked_at entries w f.body (k + 1) s) (sym (point_is entries w Plain k x1 (omega arith)))))
      ∙ function_at w f k s x

  functions_gain : (nodes n k s : ℕ) (functions : List Function) (x : Walk) → length x.drawing.points ≡ k → length x.drawing.sites ≡ s →
      Gains entries (points_from nodes (returns_by entries) n k s functions) x.drawing (walk_functions entries nodes n functions x).drawing
  unfolding walk_functions
  functions_gain nodes n k s [] x a b = gains_none x.drawing
  functions_gain nodes n k s (f ∷ more) x a b =
      let w = within nodes (returns_by entries) n f in
      let y = walk_function entries w f x in
      let l = k + size_of f.body + 2 in
      let t = s + accesses_in f.body in
      let ps = points_of w f k s in
      let e = function_is w f k s x a b in
      let h : Runs ps (length x.drawing.points) (length x.drawing.sites) l t =
      subst (λ i. Runs ps i (length x.drawing.sites) l t) (sym a) (subst (λ i. Runs ps k i l t) (sym b) (runs_of w f k s)) in
      let p : length y.drawing.points ≡ l =
      ap (λ (d : Drawing). length d.points) e ∙ gaining_points entries ps (end_of f k ∷ []) x.drawing l t h in
      let q : length y.drawing.sites ≡ t =
      ap (λ (d : Drawing). length d.sites) e ∙ gaining_sites entries ps (end_of f k ∷ []) x.drawing l t h in
      gains_on ps (points_from nodes (returns_by entries) (suc n) l t more) x.drawing y.drawing
      (walk_functions entries nodes (suc n) more y).drawing
      (subst (λ d. Gains entries ps x.drawing d) (sym e) (gains_of ps (end_of f k ∷ []) x.drawing))
      (functions_gain nodes (suc n) l t more y p q)

  -- ---- the source

  -- Start, seen with these entries
  start_gains : (nodes : ℕ) (program : Program) →
      Gains entries (start program ∷ []) walk_none.drawing (started entries (main_within entries nodes program.main) walk_none).drawing
  unfolding started pointed restored passed fresh walk_none
  start_gains nodes program =
      (refl, sym (append-nil (edges_to entries 0 (Some program.main))), refl)

  start_points : (nodes : ℕ) (program : Program) →
      length (started entries (main_within entries nodes program.main) walk_none).drawing.points ≡ 1
  unfolding started pointed restored passed fresh walk_none
  start_points nodes program = refl

  start_sites : (nodes : ℕ) (program : Program) →
      length (started entries (main_within entries nodes program.main) walk_none).drawing.sites ≡ 0
  unfolding started pointed restored passed fresh walk_none
  start_sites nodes program = refl

  abbrev drawn_points : (nodes : ℕ) → Program → List Placed
  drawn_points nodes program = start program ∷ points_from nodes (returns_by entries) 0 1 0 program.functions

  source_gains : (nodes : ℕ) (program : Program) →
      Gains entries (drawn_points nodes program) walk_none.drawing (walk_source entries nodes program).drawing
  unfolding walk_source
  source_gains nodes program =
      let x = started entries (main_within entries nodes program.main) walk_none in
      gains_on (start program ∷ []) (points_from nodes (returns_by entries) 0 1 0 program.functions) walk_none.drawing x.drawing
      (walk_source entries nodes program).drawing
      (start_gains nodes program)
      (functions_gain nodes 0 1 0 program.functions x (start_points nodes program) (start_sites nodes program))

-- ---- with the entries of its functions

module _ (nodes : ℕ) (program : Program) where
  abbrev functions : List Function
  functions = program.functions

  abbrev own : List Entry
  own = (whole_of functions).entries

  abbrev drawing : Drawing
  drawing = (walk_source own nodes program).drawing

  points_are_all : drawn_points own nodes program ≡ all_points nodes program
  points_are_all = ap (λ r. start program ∷ points_from nodes r 0 1 0 functions) (returns-same functions)

  none_points : (xs : List Point) → walk_none.drawing.points ++ xs ≡ xs
  unfolding walk_none
  none_points xs = refl

  none_edges : (xs : List Edge) → walk_none.drawing.edges ++ xs ≡ xs
  unfolding walk_none
  none_edges xs = refl

  none_sites : (xs : List Site) → walk_none.drawing.sites ++ xs ≡ xs
  unfolding walk_none
  none_sites xs = refl

  pub drawn_is : record {
    points = drawing.points;
    edges = rising edge_before drawing.edges;
    sites = drawing.sites;
    exposed = rising ltb (exposes_of program);
  } ≡ flow_of nodes program
  drawn_is =
      let h = source_gains own nodes program in
      let ps = drawn_points own nodes program in
      let all = all_points nodes program in
      let p : drawing.points ≡ map (λ q. q.point) all =
      h.0 ∙ none_points (map (λ q. q.point) ps) ∙ ap (map (λ (q : Placed). q.point)) points_are_all in
      let e : drawing.edges ≡ flat_map (edges_at functions) all =
      h.1 ∙ none_edges (flat_map (edges_by own) ps) ∙ ap (λ r. flat_map r ps) (edges-same functions)
      ∙ ap (flat_map (edges_at functions)) points_are_all in
      let s : drawing.sites ≡ filter_map (λ q. q.site) all =
      h.2 ∙ none_sites (filter_map (λ q. q.site) ps) ∙ ap (filter_map (λ (q : Placed). q.site)) points_are_all in
      let made : List Point → List Edge → List Site → Graph = λ a b c. record {
        points = a;
        edges = rising edge_before b;
        sites = c;
        exposed = rising ltb (exposes_of program);
      } in
      ap (λ a. made a drawing.edges drawing.sites) p ∙ ap (λ b. made (map (λ q. q.point) all) b drawing.sites) e
      ∙ ap (made (map (λ q. q.point) all) (flat_map (edges_at functions) all)) s

  -- the lists of what was drawn with the entries of a scan
  pub lists_are : (whole : Whole) (x : Walk) (edges : List Edge) (exposed : List ℕ) → whole ≡ whole_of functions →
      x ≡ walk_source whole.entries nodes program → edges ≡ rising edge_before x.drawing.edges → exposed ≡ rising ltb (exposes_of program) →
      record { points = x.drawing.points; edges = edges; sites = x.drawing.sites; exposed = exposed } ≡ flow_of nodes program
  lists_are whole x edges exposed hw hx he ho =
      let made : Walk → List Edge → List ℕ → Graph = λ y es os. record { points = y.drawing.points; edges = es; sites = y.drawing.sites; exposed = os } in
      let own_x : x ≡ walk_source own nodes program = hx ∙ ap (λ (w : Whole). walk_source w.entries nodes program) hw in
      ap (λ es. made x es exposed) he ∙ ap (λ os. made x (rising edge_before x.drawing.edges) os) ho
      ∙ ap (λ y. made y (rising edge_before y.drawing.edges) (rising ltb (exposes_of program))) own_x ∙ drawn_is

  pub is_kept : (whole : Whole) (graph : Graph) → whole ≡ whole_of functions → whole.count.points < 2 ^ 32 → accesses_of program ≤ LIMITS.sites
      → graph ≡ flow_of nodes program → IsFlow graph
  is_kept whole graph hw few_points few_sites is =
      let a = points_are nodes program in
      let b = points_total program in
      let d : whole.count.points ≡ (whole_of functions).count.points = ap (λ (w : Whole). w.count.points) hw in
      subst IsFlow (sym is) (flows_are_kept nodes program (omega arith) (omega arith))

pub exposing-is : (functions : List Function) →
    gathered_functions Exposed functions [] ≡ flat_map (λ f. exposes_in f.body) functions
exposing-is functions = exposed_in functions []

pub ruleset exposing = (exposing-is)
