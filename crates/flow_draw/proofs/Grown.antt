-- Points that are added to a drawing in parts, and what expressions and steps add to such a drawing.
use Rattle.std.proofs.Common.{◌≡◌, refl, sym, ap, ◌∙◌, ℕ, suc, ◌+◌, List, [], ◌∷◌, ◌++◌, length, Option, Some, None, arith, append_assoc}
use Rattle.std.specs.Prelude.{map, flat_map, filter_map, ltb, option_to_list}
use Rattle.std.proofs.lemmas.List.{append-nil, length-map, length-append, map-append}
use Rattle.std.proofs.lemmas.List.Elements.{filter_map-append}
use Rattle.std.proofs.lemmas.Grind.{flat_map-append}
use Rattle.sc_core.specs.declared.operation.Constant.{Constant}
use Rattle.sc_core.specs.declared.operation.Operation.{Operation}
use Rattle.sc_core.specs.Core.{Core, constant, Arguments, none, argument}
use Rattle.sc_meaning.specs.Points.{size}
use Rattle.site_graph.specs.declared.flow.Edge.{Edge}
use Rattle.site_graph.specs.declared.point.Point.{Point}
use Rattle.site_graph.specs.declared.site.Site.{Site}
use Rattle.site_graph.specs.Rising.{rising}
use Rattle.flow_form.specs.declared.scan.Entry.{Entry}
use Rattle.flow_form.specs.Within.{Within, Placed}
use Rattle.flow_form.specs.Written.{set_by}
use Rattle.flow_form.specs.Accesses.{accesses}
use Rattle.flow_form.specs.Occurring.{occurring, occurring_all, occurring_by, occurring_constant}
use Rattle.flow_form.specs.Exits.{fetched, fetched_all, fetched_by, behind, exits, exits_all}
use Rattle.flow_form.specs.Steps.{kind_of, callee_of, site_of, step_at}
use Rattle.flow_form.specs.Expressions.{points, points_all}
use Rattle.flow_form.specs.FlowOf.{edge}
use Rattle.flow_form.proofs.Run.{Runs, long, sites_long, runs}
use Rattle.flow_draw.specs.declared.drawing.Drawing.{Drawing}
use Rattle.flow_draw.specs.Noted.{noted}
use Rattle.flow_draw.specs.Around.{edges_to, edges_by}
use Rattle.flow_draw.specs.Drawn.{with_points, drawn, drawn_all}
use Rattle.flow_draw.specs.Drawings.{fresh, outer_of, beside, noting, taking, sited, passed, called, stepped}
use Rattle.flow_draw.proofs.Noting.{noted-append, noted-anew}

abbrev pub Drawing_at : List Point → List Edge → List Site → (froms takes occurs : List ℕ) → Drawing
Drawing_at a b c f t o = record { points = a; edges = b; sites = c; froms = f; takes = t; occurs = o }

pub drawing_same : (a a' : List Point) (b b' : List Edge) (c c' : List Site) (f f' t t' o o' : List ℕ) → a ≡ a' → b ≡ b' → c ≡ c'
    → f ≡ f' → t ≡ t' → o ≡ o' → Drawing_at a b c f t o ≡ Drawing_at a' b' c' f' t' o'
drawing_same a a' b b' c c' f f' t t' o o' ea eb ec ef et eo =
    ap (λ x. Drawing_at x b c f t o) ea ∙ ap (λ x. Drawing_at a' x c f t o) eb ∙ ap (λ x. Drawing_at a' b' x f t o) ec
    ∙ ap (λ x. Drawing_at a' b' c' x t o) ef ∙ ap (λ x. Drawing_at a' b' c' f' x o) et ∙ ap (λ x. Drawing_at a' b' c' f' t' x) eo

two : {A : Type 0} (x y z : List A) → x ++ (y ++ z) ≡ (x ++ y) ++ z
two x y z = sym (append_assoc x y z)

one_site_more : (site : Option Site) → filter_map (λ (o : Option Site). o) (site ∷ []) ≡ option_to_list site
one_site_more None = refl
one_site_more (Some site) = refl

module _ (entries : List Entry) where
  -- ---- points in parts

  -- in two parts
  pub grown-joined : (ps qs : List Placed) (froms middle takes more occurs others : List ℕ) (d : Drawing) →
      with_points entries (ps ++ qs) froms (takes ++ more) (occurs ++ others) d
      ≡ with_points entries qs froms more others (with_points entries ps middle takes occurs d)
  unfolding with_points
  grown-joined ps qs froms middle takes more occurs others d =
      drawing_same _ _ _ _ _ _ froms froms _ _ _ _
      (ap (λ xs. d.points ++ xs) (map-append (λ (p : Placed). p.point) ps qs) ∙ two d.points (map (λ p. p.point) ps) (map (λ p. p.point) qs))
      (ap (λ xs. d.edges ++ xs) (flat_map-append (edges_by entries) ps qs)
      ∙ two d.edges (flat_map (edges_by entries) ps) (flat_map (edges_by entries) qs))
      (ap (λ xs. d.sites ++ xs) (filter_map-append (λ (p : Placed). p.site) ps qs)
      ∙ two d.sites (filter_map (λ p. p.site) ps) (filter_map (λ p. p.site) qs))
      refl (two d.takes takes more) (noted-append occurs others d.occurs)

  pub grown-none : (d : Drawing) → with_points entries [] d.froms [] [] d ≡ d
  unfolding with_points noted
  grown-none d =
      drawing_same _ _ _ _ _ _ d.froms d.froms _ _ d.occurs d.occurs (append-nil d.points) (append-nil d.edges) (append-nil d.sites)
      refl (append-nil d.takes) refl

  -- the order of parts
  pub grown-same : (ps qs : List Placed) (froms takes occurs : List ℕ) (d : Drawing) → ps ≡ qs
      → with_points entries ps froms takes occurs d ≡ with_points entries qs froms takes occurs d
  grown-same ps qs froms takes occurs d e = ap (λ rs. with_points entries rs froms takes occurs d) e

  -- how many points and sites there are behind a part
  pub points_behind : (ps : List Placed) (f tk oc : List ℕ) (d : Drawing) (l t : ℕ) → Runs ps (length d.points) (length d.sites) l t
      → length (with_points entries ps f tk oc d).points ≡ l
  unfolding with_points
  points_behind ps f tk oc d l t h =
      let e = long ps (length d.points) (length d.sites) l t h in
      let a = length-append d.points (map (λ p. p.point) ps) in
      let b = length-map ps (λ p. p.point) in
      omega arith

  pub sites_behind : (ps : List Placed) (f tk oc : List ℕ) (d : Drawing) (l t : ℕ) → Runs ps (length d.points) (length d.sites) l t
      → length (with_points entries ps f tk oc d).sites ≡ t
  unfolding with_points
  sites_behind ps f tk oc d l t h =
      let e = sites_long ps (length d.points) (length d.sites) l t h in
      let a = length-append d.sites (filter_map (λ p. p.site) ps) in
      omega arith

  -- ---- expressions

  drawn-at : (w : Within) (e : Core) (d : Drawing) (k s : ℕ) → length d.points ≡ k → length d.sites ≡ s →
      drawn entries w e d
      ≡ with_points entries (points w e k s d.froms) (exits w.returns e k d.froms) (fetched e s) (occurring w.params e) d
  unfolding drawn
  drawn-at w e d k s a b =
      let made : ℕ → ℕ → Drawing = λ i j. with_points entries (points w e i j d.froms) (exits w.returns e i d.froms) (fetched e j)
      (occurring w.params e) d in
      ap (λ i. made i (length d.sites)) a ∙ ap (made k) b

  all-at : (w : Within) (all : Arguments) (d : Drawing) (k s : ℕ) → length d.points ≡ k → length d.sites ≡ s →
      drawn_all entries w all d
      ≡ with_points entries (points_all w all k s d.froms) (exits_all w.returns all k d.froms) (fetched_all all s)
      (occurring_all w.params all) d
  unfolding drawn_all
  all-at w all d k s a b =
      let made : ℕ → ℕ → Drawing = λ i j. with_points entries (points_all w all i j d.froms) (exits_all w.returns all i d.froms)
      (fetched_all all j) (occurring_all w.params all) d in
      ap (λ i. made i (length d.sites)) a ∙ ap (made k) b

  pub then-drawn : (w : Within) (e : Core) (ps : List Placed) (f tk oc : List ℕ) (d : Drawing) (l t : ℕ)
      → Runs ps (length d.points) (length d.sites) l t →
      drawn entries w e (with_points entries ps f tk oc d)
      ≡ with_points entries (ps ++ points w e l t f) (exits w.returns e l f) (tk ++ fetched e t) (oc ++ occurring w.params e) d
  unfolding with_points
  then-drawn w e ps f tk oc d l t h =
      drawn-at w e (with_points entries ps f tk oc d) l t (points_behind ps f tk oc d l t h) (sites_behind ps f tk oc d l t h)
      ∙ sym (grown-joined ps (points w e l t f) (exits w.returns e l f) f tk (fetched e t) oc (occurring w.params e) d)

  then-all : (w : Within) (all : Arguments) (ps : List Placed) (f tk oc : List ℕ) (d : Drawing) (l t : ℕ)
      → Runs ps (length d.points) (length d.sites) l t →
      drawn_all entries w all (with_points entries ps f tk oc d)
      ≡ with_points entries (ps ++ points_all w all l t f) (exits_all w.returns all l f) (tk ++ fetched_all all t)
      (oc ++ occurring_all w.params all) d
  unfolding with_points
  then-all w all ps f tk oc d l t h =
      all-at w all (with_points entries ps f tk oc d) l t (points_behind ps f tk oc d l t h) (sites_behind ps f tk oc d l t h)
      ∙ sym (grown-joined ps (points_all w all l t f) (exits_all w.returns all l f) f tk (fetched_all all t) oc (occurring_all w.params all) d)

  pub all-none : (w : Within) (d : Drawing) → drawn_all entries w none d ≡ d
  unfolding drawn_all
  all-none w d = grown-none d

  pub all-on : (w : Within) (e : Core) (more : Arguments) (d : Drawing) →
      drawn_all entries w (argument e more) d ≡ drawn_all entries w more (drawn entries w e d)
  unfolding drawn_all drawn
  all-on w e more d =
      let k = length d.points in
      let s = length d.sites in
      sym (then-all w more (points w e k s d.froms) (exits w.returns e k d.froms) (fetched e s) (occurring w.params e) d
      (k + size e) (s + accesses e) (runs w e k s d.froms))

  pub drawn-constant : (w : Within) (c : Constant) (d : Drawing) → drawn entries w (constant c) d ≡ noting (occurring_constant c) d
  unfolding drawn with_points noting
  drawn-constant w c d =
      drawing_same _ _ _ _ _ _ d.froms d.froms _ _ _ _ (append-nil d.points) (append-nil d.edges) (append-nil d.sites)
      refl (append-nil d.takes) refl

  -- an expression that begins a step's arguments
  pub drawn-beside : (w : Within) (e : Core) (d : Drawing) → drawn entries w e d ≡ beside (outer_of d) (drawn entries w e (fresh d))
  unfolding drawn with_points beside outer_of fresh
  drawn-beside w e d = ap (λ xs. record (drawn entries w e d) { occurs = xs }) (sym (noted-anew (occurring w.params e) d.occurs))

  -- ---- steps

  called-is : (w : Within) (t : ℕ) (callee : Option ℕ) (d : Drawing) → d.froms ≡ t ∷ [] → called entries w t callee d
      ≡ record d { edges = d.edges ++ edges_to entries t callee; froms = behind w.returns callee t }
  unfolding called
  called-is w t None d e =
      drawing_same _ _ _ _ _ _ _ _ _ _ _ _ refl (sym (append-nil d.edges)) refl e refl refl
  called-is w t (Some f) d e = refl

  abbrev step_made : Within → Operation → Option Site → Drawing → (k s : ℕ) → Drawing
  step_made w operation site d k s = record {
    points = d.points ++ record {
      kind = kind_of operation (suc s);
      function = w.function;
      takes = d.takes;
      reads = noted (occurring_by w.params operation) d.occurs;
      writes = set_by operation;
    } ∷ [];
    edges = (d.edges ++ map (λ from. edge from k) d.froms) ++ edges_to entries k (callee_of operation);
    sites = d.sites ++ option_to_list site;
    froms = behind w.returns (callee_of operation) k;
    takes = fetched_by operation s;
    occurs = noted (occurring_by w.params operation) d.occurs;
  }

  stepped-at : (w : Within) (operation : Operation) (site : Option Site) (d : Drawing) (k s : ℕ) → length d.points ≡ k
      → length d.sites ≡ s → stepped entries w operation site d ≡ step_made w operation site d k s
  unfolding stepped taking sited passed noting
  stepped-at w operation site d k s a b =
      called-is w (length d.points) (callee_of operation) _ refl
      ∙ ap (λ i. step_made w operation site d i (length d.sites)) a ∙ ap (step_made w operation site d k) b

  -- behind its arguments, which were drawn afresh
  pub then-stepped : (w : Within) (operation : Operation) (arguments : Arguments) (line : ℕ) (ps : List Placed) (f tk oc : List ℕ)
      (d : Drawing) (l t : ℕ) (reads : List ℕ) → Runs ps (length d.points) (length d.sites) l t
      → rising ltb reads ≡ noted (occurring_by w.params operation) (noted oc []) →
      stepped entries w operation (site_of w operation arguments line) (with_points entries ps f tk oc (fresh d))
      ≡ with_points entries (ps ++ step_at w operation arguments line l t f tk reads ∷ []) (behind w.returns (callee_of operation) l)
      (fetched_by operation t) (oc ++ occurring_by w.params operation) (fresh d)
  unfolding with_points fresh
  then-stepped w operation arguments line ps f tk oc d l t reads h e =
      let own : Placed = step_at w operation arguments line l t f tk reads in
      stepped-at w operation (site_of w operation arguments line) (with_points entries ps f tk oc (fresh d)) l t
      (points_behind ps f tk oc (fresh d) l t h) (sites_behind ps f tk oc (fresh d) l t h)
      ∙ drawing_same _ _ _ _ _ _ _ _ _ _ _ _
      (ap (λ rs. (d.points ++ map (λ p. p.point) ps) ++ record own.point { reads = rs } ∷ []) (sym e)
      ∙ append_assoc d.points (map (λ p. p.point) ps) (own.point ∷ [])
      ∙ ap (λ xs. d.points ++ xs) (sym (map-append (λ (p : Placed). p.point) ps (own ∷ []))))
      (append_assoc (d.edges ++ flat_map (edges_by entries) ps) (map (λ from. edge from l) f) (edges_to entries l (callee_of operation))
      ∙ append_assoc d.edges (flat_map (edges_by entries) ps) (edges_by entries own)
      ∙ ap (λ xs. d.edges ++ (flat_map (edges_by entries) ps ++ xs)) (sym (append-nil (edges_by entries own)))
      ∙ ap (λ xs. d.edges ++ xs) (sym (flat_map-append (edges_by entries) ps (own ∷ []))))
      (append_assoc d.sites (filter_map (λ p. p.site) ps) (option_to_list own.site)
      ∙ ap (λ xs. d.sites ++ (filter_map (λ p. p.site) ps ++ xs)) (sym (one_site_more own.site))
      ∙ ap (λ xs. d.sites ++ xs) (sym (filter_map-append (λ (p : Placed). p.site) ps (own ∷ []))))
      refl refl (sym (noted-append oc (occurring_by w.params operation) []))

  pub then-noting : (ps : List Placed) (f tk oc more : List ℕ) (d : Drawing) →
      noting more (with_points entries ps f tk oc d) ≡ with_points entries ps f tk (oc ++ more) d
  unfolding noting with_points
  then-noting ps f tk oc more d =
      ap (λ xs. record (with_points entries ps f tk oc d) { occurs = xs }) (sym (noted-append oc more d.occurs))
