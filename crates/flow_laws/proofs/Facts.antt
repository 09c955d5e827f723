-- What is known of a flow where one of its points is.
use Rattle.std.proofs.Common.{◌≡◌, inl, ⊎_elim, ℕ, suc, ◌+◌, ◌<◌, List, [], ◌∷◌, length, Bool, true, Option, Some, None, slice_get, refl, sym, ap, ◌∙◌, subst, arith}
use Rattle.std.specs.Prelude.{ltb, map, flat_map, if◌then◌else◌}
use Rattle.std.specs.List.{cons_option}
use Rattle.std.specs.Option.{option_map, option_map_or}
use Rattle.std.proofs.lemmas.Bool.{lt-ltb}
use Rattle.std.proofs.lemmas.Option.{slice_get-map}
use Rattle.sc_core.specs.Core.{Program}
use Rattle.sc_meaning.specs.Points.{first_point}
use Rattle.site_graph.specs.declared.flow.Edge.{Edge}
use Rattle.site_graph.specs.declared.point.Point.{Point}
use Rattle.site_graph.specs.declared.point.PointKind.{PointKind}
use Rattle.site_graph.specs.declared.point.PointKind.TheVariants.{Plain, Access}
use Rattle.site_graph.specs.declared.site.Site.{Site}
use Rattle.site_graph.specs.Graph.{Graph, kind_at, site_at}
use Rattle.site_graph.specs.Rising.{edge_before}
use Rattle.site_graph.specs.Ways.{Goes}
use Rattle.flow_form.specs.Within.{Placed}
use Rattle.flow_form.specs.FlowOf.{points_from, all_points, edges_called, edges_at, edge, flow_of, start, returns}
use Rattle.flow_form.proofs.Rises.{In, in_left, in_right, in_map, in_flat, in_rising, contains_of, edges_same}
use Rattle.flow_form.proofs.Run.{Runs, IsCounted, one_site, sites_in, runs_behind, points_stand_in_order}

-- ---- the site of a point, and its place among the sites

abbrev AtPlace : (s number : ℕ) → List Site → Site → Type 0
AtPlace s number xs x = (j : ℕ) × (number ≡ suc (s + j)) × (slice_get xs j ≡ Some x)

own_place : (s number : ℕ) (o : Option Site) (kind : PointKind) (x : Site) (more : List Site) → IsCounted s o kind → kind ≡ Access number
    → o ≡ Some x → AtPlace s number (cons_option o more) x
own_place s number None kind x more h e same = absurd cc
own_place s number (Some y) kind x more h e same =
    let n : number ≡ suc s = cc in
    let y_is : y ≡ x = cc in
    (0, omega arith, ap Some y_is)

later_place : (s number : ℕ) (o : Option Site) (x : Site) (more : List Site) → AtPlace (s + one_site o) number more x
    → AtPlace s number (cons_option o more) x
later_place s number None x more h = let e = h.1 in (h.0, omega arith, h.2)
later_place s number (Some y) x more h = let e = h.1 in (suc h.0, omega arith, h.2)

site_stands : (ps : List Placed) (k s l t number : ℕ) (p : Placed) (x : Site) → Runs ps k s l t → In p ps → p.point.kind ≡ Access number
    → p.site ≡ Some x → AtPlace s number (sites_in ps) x
site_stands [] k s l t number p x h i e same = absurd i
site_stands (q ∷ ps) k s l t number p x h i e same =
    ⊎_elim
    (λ is. own_place s number q.site q.point.kind x (sites_in ps) h.1
    (ap (λ (r : Placed). r.point.kind) is ∙ e) (ap (λ (r : Placed). r.site) is ∙ same))
    (λ j. later_place s number q.site x (sites_in ps) (site_stands ps (k + 1) (s + one_site q.site) l t number p x h.2 j e same)) i

-- ---- the place of a point

pub place_of : (ps : List Placed) (p : Placed) → In p ps → (i : ℕ) × (slice_get ps i ≡ Some p)
place_of [] p h = absurd h
place_of (q ∷ ps) p h = ⊎_elim (λ e. (0, ap Some e)) (λ j. let r = place_of ps p j in (suc r.0, r.1)) h

module _ (nodes : ℕ) (program : Program) where
  abbrev graph : Graph
  graph = flow_of nodes program

  abbrev all : List Placed
  all = all_points nodes program

  pub record Facts (p : Placed) : Type 0 where
    pub enters : (from : ℕ) → In from p.froms → Goes graph from p.at
    pub calls : (f : ℕ) → p.callee ≡ Some f → f < length program.functions → Goes graph p.at (first_point program.functions f)
    pub kind : kind_at graph p.at ≡ p.point.kind
    pub site : (number : ℕ) (x : Site) → p.point.kind ≡ Access number → p.site ≡ Some x → site_at graph number ≡ Some x

  an_edge : (e : Edge) (p : Placed) → In p all → In e (edges_at program.functions p) → Goes graph e.from e.to
  an_edge e p i j =
      contains_of e graph.edges (in_rising edge_before edges_same e (flat_map (edges_at program.functions) all)
      (in_flat (edges_at program.functions) p e all i j))

  called : (from f : ℕ) (b : Bool) → b ≡ true → In (edge from (first_point program.functions f))
      (if b then edge from (first_point program.functions f) ∷ [] else [])
  called from f b e = subst (λ c. In (edge from (first_point program.functions f)) (if c then edge from (first_point program.functions f) ∷ [] else [])) (sym e) (inl refl)

  kind_of_place : (i : ℕ) (p : Placed) → slice_get all i ≡ Some p → kind_at graph i ≡ p.point.kind
  kind_of_place i p e =
      ap (λ (o : Option Point). option_map_or (λ (q : Point). q.kind) o Plain)
      (slice_get-map (λ (q : Placed). q.point) all i ∙ ap (option_map (λ (q : Placed). q.point)) e)

  site_of_number : (number : ℕ) (x : Site) → AtPlace 0 number graph.sites x → site_at graph number ≡ Some x
  site_of_number number x h =
      let e : suc h.0 ≡ number = let n = h.1 in omega arith in
      subst (λ n. site_at graph n ≡ Some x) e h.2

  pub facts : (p : Placed) → In p all → Facts p
  facts p i =
      let place = place_of all p i in
      let at = points_stand_in_order nodes place.0 program p place.1 in
      record {
        enters = λ from j. an_edge (edge from p.at) p i
            (in_left (edge from p.at) (map (λ from. edge from p.at) p.froms) (edges_called program.functions p.at p.callee)
            (in_map (λ from. edge from p.at) from p.froms j));
        calls = λ f e lt. an_edge (edge p.at (first_point program.functions f)) p i
            (in_right (edge p.at (first_point program.functions f)) (map (λ from. edge from p.at) p.froms) (edges_called program.functions p.at p.callee)
            (subst (λ o. In (edge p.at (first_point program.functions f)) (edges_called program.functions p.at o)) (sym e)
            (called p.at f (ltb f (length program.functions)) (lt-ltb f (length program.functions) lt))));
        kind = ap (kind_at graph) at ∙ kind_of_place place.0 p place.1;
        site = λ number x e same. ⊎_elim
            (λ is. absurd (none_starts is e))
            (λ j. site_of_number number x (site_stands (points_from nodes (returns program.functions) 0 1 0 program.functions) 1 0 _ _ number p x
            (runs_behind nodes program) j e same)) i;
      }
    where
      none_starts : {q : Placed} {number : ℕ} → start program ≡ q → q.point.kind ≡ Access number → ⊥
      none_starts {q} {number} is e =
          let s : (start program).point.kind ≡ Access number = ap (λ (r : Placed). r.point.kind) is ∙ e in cc
