-- What each form of statement adds to a flow that is drawn, one at a time.
use Rattle.std.proofs.Common.{◌≡◌, refl, sym, ap, ◌∙◌, ℕ, suc, ◌+◌, List, [], ◌∷◌, ◌++◌, length, Option, Some, None, arith, append_assoc}
use Rattle.std.specs.List.{cons_option}
use Rattle.std.specs.Prelude.{map, flat_map, filter_map, option_to_list, ltb}
use Rattle.std.proofs.lemmas.List.{append-nil, length-map, length-append, map-append}
use Rattle.std.proofs.lemmas.List.Elements.{filter_map-append}
use Rattle.std.proofs.lemmas.Grind.{flat_map-append}
use Rattle.sc_core.specs.declared.operation.Action.{Action}
use Rattle.sc_core.specs.Core.{Core, Arguments, Does, nothing, break, continue, then_, act, choose, loop, return}
use Rattle.sc_core.specs.ViewStatements.{Armed, block_of, chosen}
use Rattle.sc_meaning.specs.Points.{size, sizes, size_of}
use Rattle.site_graph.specs.declared.flow.Edge.{Edge}
use Rattle.site_graph.specs.declared.point.Point.{Point}
use Rattle.site_graph.specs.declared.point.PointKind.{PointKind}
use Rattle.site_graph.specs.declared.point.PointKind.TheVariants.{Plain, Return}
use Rattle.site_graph.specs.declared.site.Site.{Site}
use Rattle.site_graph.specs.Rising.{rising}
use Rattle.flow_form.specs.declared.scan.Entry.{Entry}
use Rattle.flow_form.specs.Within.{Within, Placed}
use Rattle.flow_form.specs.Accesses.{accesses, accesses_all, accesses_in}
use Rattle.flow_form.specs.Occurring.{occurring, occurring_all}
use Rattle.flow_form.specs.Exits.{exits, exits_all, fetched, fetched_all, leaves}
use Rattle.flow_form.specs.Written.{set_by_action}
use Rattle.flow_form.specs.Steps.{bare, action_at, fetched_into, kind_of_action, site_of_action}
use Rattle.flow_form.specs.Expressions.{points, points_all, test_at}
use Rattle.flow_form.specs.Statements.{points_in, in_loop}
use Rattle.flow_form.specs.FlowOf.{edge}
use Rattle.flow_form.proofs.Run.{Runs, long, sites_long, runs, runs_all, runs_in}
use Rattle.flow_draw.specs.declared.drawing.Drawing.{Drawing}
use Rattle.flow_draw.specs.Around.{edges_by}
use Rattle.flow_draw.specs.Noted.{noted}
use Rattle.flow_draw.specs.Drawn.{with_points, drawn, drawn_all}
use Rattle.flow_draw.specs.Drawings.{fresh, passed, sited, noting}
use Rattle.flow_draw.proofs.Noting.{noted-append, noted-rising}
use Rattle.flow_exits.specs.Leaving.{nowhere, again_from}
use Rattle.flow_exits.proofs.Leaves.{leaves_alike}
use Rattle.flow_walk.specs.declared.walk.Walk.{Walk}
use Rattle.flow_walk.specs.Walked.{gaining, walked}
use Rattle.flow_walk.specs.Steps.{restored, pointed, valued, acted_at, acted, walk_point, walk_value, walk_act, walk_from, walk_break, walk_continue, walk_block, walk_opened, walk_end, walk_arm, walk_arms, walk_joined, count_of, walk_enter, walk_turn, walk_again, walk_closed}

-- ---- equal drawings and walks

abbrev Drawing_at : Drawing → List Point → List Edge → List Site → (froms : List ℕ) → Drawing
Drawing_at d a b c f = record { points = a; edges = b; sites = c; froms = f; takes = d.takes; occurs = d.occurs }

drawing_same : (d : Drawing) (a a' : List Point) (b b' : List Edge) (c c' : List Site) (f f' : List ℕ) → a ≡ a' → b ≡ b' → c ≡ c' → f ≡ f'
    → Drawing_at d a b c f ≡ Drawing_at d a' b' c' f'
drawing_same d a a' b b' c c' f f' ea eb ec ef =
    ap (λ x. Drawing_at d x b c f) ea ∙ ap (λ x. Drawing_at d a' x c f) eb ∙ ap (λ x. Drawing_at d a' b' x f) ec
    ∙ ap (λ x. Drawing_at d a' b' c' x) ef

abbrev Walk_at : Drawing → (breaks continues ends : List ℕ) → Walk
Walk_at d b c e = record { drawing = d; breaks = b; continues = c; ends = e }

walk_same : (d d' : Drawing) (b b' c c' e e' : List ℕ) → d ≡ d' → b ≡ b' → c ≡ c' → e ≡ e' → Walk_at d b c e ≡ Walk_at d' b' c' e'
walk_same d d' b b' c c' e e' ed eb ec ee =
    ap (λ x. Walk_at x b c e) ed ∙ ap (λ x. Walk_at d' x c e) eb ∙ ap (λ x. Walk_at d' b' x e) ec ∙ ap (Walk_at d' b' c') ee

module _ (entries : List Entry) where
  -- ---- points in two parts

  gaining_none : (d : Drawing) → gaining entries [] d.froms d ≡ d
  unfolding gaining
  gaining_none d =
      drawing_same d _ d.points _ d.edges _ d.sites d.froms d.froms (append-nil d.points) (append-nil d.edges) (append-nil d.sites) refl

  gaining_nowhere : (froms : List ℕ) (d : Drawing) → gaining entries [] froms d ≡ record d { froms = froms }
  unfolding gaining
  gaining_nowhere froms d =
      drawing_same d _ d.points _ d.edges _ d.sites froms froms (append-nil d.points) (append-nil d.edges) (append-nil d.sites) refl

  pub gaining_on : (ps qs : List Placed) (middle froms : List ℕ) (d : Drawing) →
      gaining entries (ps ++ qs) froms d ≡ gaining entries qs froms (gaining entries ps middle d)
  unfolding gaining
  gaining_on ps qs middle froms d =
      drawing_same d _ _ _ _ _ _ froms froms
      (ap (λ xs. d.points ++ xs) (map-append (λ (p : Placed). p.point) ps qs)
      ∙ sym (append_assoc d.points (map (λ p. p.point) ps) (map (λ p. p.point) qs)))
      (ap (λ xs. d.edges ++ xs) (flat_map-append (edges_by entries) ps qs)
      ∙ sym (append_assoc d.edges (flat_map (edges_by entries) ps) (flat_map (edges_by entries) qs)))
      (ap (λ xs. d.sites ++ xs) (filter_map-append (λ (p : Placed). p.site) ps qs)
      ∙ sym (append_assoc d.sites (filter_map (λ p. p.site) ps) (filter_map (λ p. p.site) qs)))
      refl

  -- how many points and sites there are behind them
  points_long : (ps : List Placed) (d : Drawing) (l t : ℕ) → Runs ps (length d.points) (length d.sites) l t
      → length (d.points ++ map (λ p. p.point) ps) ≡ l
  points_long ps d l t h =
      let e = long ps (length d.points) (length d.sites) l t h in
      let a = length-append d.points (map (λ p. p.point) ps) in
      let b = length-map ps (λ p. p.point) in
      omega arith

  sites_are_long : (ps : List Placed) (d : Drawing) (l t : ℕ) → Runs ps (length d.points) (length d.sites) l t
      → length (d.sites ++ filter_map (λ p. p.site) ps) ≡ t
  sites_are_long ps d l t h =
      let e = sites_long ps (length d.points) (length d.sites) l t h in
      let a = length-append d.sites (filter_map (λ p. p.site) ps) in
      omega arith

  pub gaining_points : (ps : List Placed) (froms : List ℕ) (d : Drawing) (l t : ℕ) → Runs ps (length d.points) (length d.sites) l t
      → length (gaining entries ps froms d).points ≡ l
  unfolding gaining
  gaining_points ps froms d l t h = points_long ps d l t h

  pub gaining_sites : (ps : List Placed) (froms : List ℕ) (d : Drawing) (l t : ℕ) → Runs ps (length d.points) (length d.sites) l t
      → length (gaining entries ps froms d).sites ≡ t
  unfolding gaining
  gaining_sites ps froms d l t h = sites_are_long ps d l t h

  pub walked_points : (w : Within) (d : Does) (x : Walk) → length (walked entries w d x).drawing.points ≡ length x.drawing.points + size_of d
  unfolding walked
  walked_points w d x =
      gaining_points (points_in w d (length x.drawing.points) (length x.drawing.sites) x.drawing.froms) _ x.drawing _ _
      (runs_in w d (length x.drawing.points) (length x.drawing.sites) x.drawing.froms)

  pub walked_sites : (w : Within) (d : Does) (x : Walk) → length (walked entries w d x).drawing.sites ≡ length x.drawing.sites + accesses_in d
  unfolding walked
  walked_sites w d x =
      gaining_sites (points_in w d (length x.drawing.points) (length x.drawing.sites) x.drawing.froms) _ x.drawing _ _
      (runs_in w d (length x.drawing.points) (length x.drawing.sites) x.drawing.froms)

  -- a statement whose first point is k, with s sites before it
  abbrev pub walked_at : Within → Does → (k s : ℕ) → Walk → Walk
  walked_at w d k s x =
      let l = leaves w.returns d k x.drawing.froms in
      record {
        drawing = gaining entries (points_in w d k s x.drawing.froms) l.falls x.drawing;
        breaks = x.breaks ++ l.breaks;
        continues = x.continues ++ l.continues;
        ends = x.ends;
      }

  pub walked_is : (w : Within) (d : Does) (k s : ℕ) (x : Walk) → length x.drawing.points ≡ k → length x.drawing.sites ≡ s
      → walked_at w d k s x ≡ walked entries w d x
  unfolding walked
  walked_is w d k s x a b = ap (λ i. walked_at w d i s x) (sym a) ∙ ap (λ i. walked_at w d (length x.drawing.points) i x) (sym b)

  -- ---- forms without points

  pub walked-nothing : (w : Within) (x : Walk) → walked entries w nothing x ≡ x
  unfolding walked
  walked-nothing w x = walk_same _ x.drawing _ x.breaks _ x.continues x.ends x.ends (gaining_none x.drawing) (append-nil x.breaks) (append-nil x.continues) refl

  pub walked-break : (w : Within) (x : Walk) → walked entries w break x ≡ walk_break x
  unfolding walked walk_break walk_from
  walked-break w x =
      walk_same _ (record x.drawing { froms = [] }) (x.breaks ++ x.drawing.froms) _ _ x.continues x.ends x.ends
      (gaining_nowhere [] x.drawing) refl (append-nil x.continues) refl

  pub walked-continue : (w : Within) (x : Walk) → walked entries w continue x ≡ walk_continue x
  unfolding walked walk_continue walk_from
  walked-continue w x =
      walk_same _ (record x.drawing { froms = [] }) _ x.breaks (x.continues ++ x.drawing.froms) _ x.ends x.ends
      (gaining_nowhere [] x.drawing) (append-nil x.breaks) refl refl

  -- ---- blocks

  then_at : (w : Within) (first second : Does) (k s : ℕ) (x : Walk) →
      walked_at w (then_ first second) k s x
      ≡ walked_at w second (k + size_of first) (s + accesses_in first) (walked_at w first k s x)
  unfolding gaining
  then_at w first second k s x =
      let a = leaves w.returns first k x.drawing.froms in
      let b = leaves w.returns second (k + size_of first) a.falls in
      walk_same _ _ (x.breaks ++ (a.breaks ++ b.breaks)) _ (x.continues ++ (a.continues ++ b.continues)) _ x.ends x.ends
      (gaining_on (points_in w first k s x.drawing.froms) (points_in w second (k + size_of first) (s + accesses_in first) a.falls)
      a.falls b.falls x.drawing)
      (sym (append_assoc x.breaks a.breaks b.breaks)) (sym (append_assoc x.continues a.continues b.continues)) refl

  pub walked-then : (w : Within) (first second : Does) (x : Walk) →
      walked entries w (then_ first second) x ≡ walked entries w second (walked entries w first x)
  walked-then w first second x =
      let k = length x.drawing.points in
      let s = length x.drawing.sites in
      sym (walked_is w (then_ first second) k s x refl refl) ∙ then_at w first second k s x
      ∙ ap (walked_at w second (k + size_of first) (s + accesses_in first)) (walked_is w first k s x refl refl)
      ∙ walked_is w second _ _ (walked entries w first x) (walked_points w first x) (walked_sites w first x)

  pub block-none : (w : Within) (x : Walk) → walk_block entries w [] x ≡ x
  unfolding walk_block
  block-none w x = refl

  pub block-on : (w : Within) (d : Does) (more : List Does) (x : Walk) →
      walk_block entries w (d ∷ more) x ≡ walk_block entries w more (walked entries w d x)
  unfolding walk_block
  block-on w d more x = refl

  pub walked-block : (w : Within) (all : List Does) (x : Walk) → walked entries w (block_of all) x ≡ walk_block entries w all x
  unfolding walk_block
  walked-block w [] x = walked-nothing w x
  walked-block w (d ∷ more) x = walked-then w d (block_of more) x ∙ walked-block w more (walked entries w d x)

  -- ---- single points

  one_site : (o : Option Site) → option_to_list o ≡ cons_option o []
  one_site None = refl
  one_site (Some site) = refl

  -- a point t that calls nothing, behind these
  behind_points : (ps : List Placed) (t : ℕ) (froms : List ℕ) (point : Point) (site : Option Site) (d : Drawing) →
      Drawing_at d ((d.points ++ map (λ p. p.point) ps) ++ point ∷ [])
      ((d.edges ++ flat_map (edges_by entries) ps) ++ map (λ from. edge from t) froms)
      ((d.sites ++ filter_map (λ p. p.site) ps) ++ option_to_list site) (t ∷ [])
      ≡ gaining entries (ps ++ record { at = t; froms = froms; callee = None; point = point; site = site } ∷ []) (t ∷ []) d
  unfolding gaining
  behind_points ps t froms point site d =
      let own : Placed = record { at = t; froms = froms; callee = None; point = point; site = site } in
      let es : List Edge = map (λ from. edge from t) froms in
      drawing_same d _ _ ((d.edges ++ flat_map (edges_by entries) ps) ++ es) _ _ _ (t ∷ []) (t ∷ []) refl
      (ap (λ xs. (d.edges ++ flat_map (edges_by entries) ps) ++ xs) (sym (append-nil (es ++ []) ∙ append-nil es)))
      (ap (λ xs. (d.sites ++ filter_map (λ p. p.site) ps) ++ xs) (one_site site)) refl
      ∙ sym (gaining_on ps (own ∷ []) froms (t ∷ []) d)

  pub pointed_at : (w : Within) (kind : PointKind) (t : ℕ) (d : Drawing) → length d.points ≡ t
      → pointed w kind d ≡ gaining entries (bare w kind t d.froms [] [] ∷ []) (t ∷ []) d
  unfolding pointed restored passed fresh gaining
  pointed_at w kind t d e =
      let es : List Edge = map (λ from. edge from t) d.froms in
      ap (λ (i : ℕ). Drawing_at d (d.points ++ record { kind = kind; function = w.function; takes = []; reads = []; writes = None } ∷ [])
      (d.edges ++ map (λ from. edge from i) d.froms) d.sites (i ∷ [])) e
      ∙ drawing_same d _ _ (d.edges ++ es) _ d.sites _ (t ∷ []) (t ∷ []) refl
      (ap (λ xs. d.edges ++ xs) (sym (append-nil (es ++ []) ∙ append-nil es))) (sym (append-nil d.sites)) refl

  valued_is : (w : Within) (kind : PointKind) (e : Core) (d : Drawing) →
      valued entries w kind e d
      ≡ gaining entries (points w e (length d.points) (length d.sites) d.froms ++
      bare w kind (length d.points + size e) (exits w.returns e (length d.points) d.froms) (fetched e (length d.sites)) (occurring w.params e) ∷ [])
      ((length d.points + size e) ∷ []) d
  unfolding valued restored passed drawn with_points fresh
  valued_is w kind e d =
      let k = length d.points in
      let s = length d.sites in
      let ps = points w e k s d.froms in
      let f = exits w.returns e k d.froms in
      let own : List ℕ → Point = λ reads. record { kind = kind; function = w.function; takes = fetched e s; reads = reads; writes = None } in
      let made : ℕ → List ℕ → Drawing = λ t reads. Drawing_at d ((d.points ++ map (λ p. p.point) ps) ++ own reads ∷ [])
      ((d.edges ++ flat_map (edges_by entries) ps) ++ map (λ from. edge from t) f) (d.sites ++ filter_map (λ p. p.site) ps) (t ∷ []) in
      let long_is : length (d.points ++ map (λ p. p.point) ps) ≡ k + size e = points_long ps d (k + size e) (s + accesses e) (runs w e k s d.froms) in
      ap (λ t. made t (noted (occurring w.params e) [])) long_is
      ∙ ap (made (k + size e)) (noted-rising (occurring w.params e))
      ∙ drawing_same d _ _ _ _ (d.sites ++ filter_map (λ p. p.site) ps) _ _ _ refl refl (sym (append-nil (d.sites ++ filter_map (λ p. p.site) ps))) refl
      ∙ behind_points ps (k + size e) f (own (rising ltb (occurring w.params e))) None d

  acted_is : (w : Within) (action : Action) (arguments : Arguments) (line : ℕ) (d : Drawing) →
      acted entries w action arguments line d
      ≡ gaining entries (points_all w arguments (length d.points) (length d.sites) d.froms ++
      action_at w action arguments line (length d.points + sizes arguments) (length d.sites + accesses_all arguments)
      (exits_all w.returns arguments (length d.points) d.froms) (fetched_all arguments (length d.sites)) (occurring_all w.params arguments) ∷ [])
      ((length d.points + sizes arguments) ∷ []) d
  unfolding acted acted_at restored sited passed noting drawn_all with_points fresh
  acted_is w action arguments line d =
      let k = length d.points in
      let s = length d.sites in
      let t = k + sizes arguments in
      let u = s + accesses_all arguments in
      let ps = points_all w arguments k s d.froms in
      let f = exits_all w.returns arguments k d.froms in
      let occurs = occurring_all w.params arguments in
      let site = site_of_action w action arguments line in
      let own : ℕ → List ℕ → Point = λ n reads. record {
        kind = kind_of_action action (suc n);
        function = w.function;
        takes = fetched_all arguments s;
        reads = reads;
        writes = set_by_action action;
      } in
      let made : ℕ → ℕ → List ℕ → Drawing = λ i n reads. Drawing_at d ((d.points ++ map (λ p. p.point) ps) ++ own n reads ∷ [])
      ((d.edges ++ flat_map (edges_by entries) ps) ++ map (λ from. edge from i) f)
      ((d.sites ++ filter_map (λ p. p.site) ps) ++ option_to_list site) (i ∷ []) in
      let noting_is : noted (fetched_into action) (noted occurs []) ≡ rising ltb (occurs ++ fetched_into action) =
      sym (noted-append occurs (fetched_into action) []) ∙ noted-rising (occurs ++ fetched_into action) in
      let h = runs_all w arguments k s d.froms in
      let long_is : length (d.points ++ map (λ p. p.point) ps) ≡ t = points_long ps d t u h in
      let sites_is : length (d.sites ++ filter_map (λ p. p.site) ps) ≡ u = sites_are_long ps d t u h in
      ap (λ i. made i (length (d.sites ++ filter_map (λ p. p.site) ps)) (noted (fetched_into action) (noted occurs []))) long_is
      ∙ ap (λ n. made t n (noted (fetched_into action) (noted occurs []))) sites_is
      ∙ ap (made t u) noting_is
      ∙ behind_points ps t f (own u (rising ltb (occurs ++ fetched_into action))) site d

  -- ---- statements of one point

  pub walked-act : (w : Within) (action : Action) (arguments : Arguments) (line : ℕ) (x : Walk) →
      walked entries w (act action arguments line) x ≡ walk_act entries w action arguments line x
  unfolding walked walk_act
  walked-act w action arguments line x =
      walk_same _ (acted entries w action arguments line x.drawing) _ x.breaks _ x.continues x.ends x.ends
      (sym (acted_is w action arguments line x.drawing)) (append-nil x.breaks) (append-nil x.continues) refl

  left_nowhere : (ps : List Placed) (f : List ℕ) (d : Drawing) → gaining entries ps [] d ≡ record (gaining entries ps f d) { froms = [] }
  unfolding gaining
  left_nowhere ps f d = refl

  pub walked-return : (w : Within) (e : Core) (line : ℕ) (x : Walk) →
      walked entries w (return e line) x ≡ walk_from [] (walk_value entries w Return e x)
  unfolding walked walk_value walk_from
  walked-return w e line x =
      let d = x.drawing in
      let ps = points w e (length d.points) (length d.sites) d.froms ++
      bare w Return (length d.points + size e) (exits w.returns e (length d.points) d.froms) (fetched e (length d.sites)) (occurring w.params e) ∷ [] in
      walk_same _ (record (valued entries w Return e d) { froms = [] }) _ x.breaks _ x.continues x.ends x.ends
      (left_nowhere ps ((length d.points + size e) ∷ []) d ∙ ap (λ (y : Drawing). record y { froms = [] }) (sym (valued_is w Return e d)))
      (append-nil x.breaks) (append-nil x.continues) refl

  -- ---- how many points and sites there are behind a test, and behind a turn

  value_points : (w : Within) (kind : PointKind) (e : Core) (x : Walk) →
      length (walk_value entries w kind e x).drawing.points ≡ length x.drawing.points + size e + 1
  unfolding walk_value valued restored passed drawn with_points fresh
  value_points w kind e x =
      let d = x.drawing in
      let k = length d.points in
      let s = length d.sites in
      let ps = points w e k s d.froms in
      let own : Point = record { kind = kind; function = w.function; takes = fetched e s; reads = noted (occurring w.params e) []; writes = None } in
      let h = points_long ps d (k + size e) (s + accesses e) (runs w e k s d.froms) in
      let a = length-append (d.points ++ map (λ p. p.point) ps) (own ∷ []) in
      omega arith

  value_sites : (w : Within) (kind : PointKind) (e : Core) (x : Walk) →
      length (walk_value entries w kind e x).drawing.sites ≡ length x.drawing.sites + accesses e
  unfolding walk_value valued restored passed drawn with_points fresh
  value_sites w kind e x =
      let d = x.drawing in
      sites_are_long (points w e (length d.points) (length d.sites) d.froms) d _ _ (runs w e (length d.points) (length d.sites) d.froms)

  pub point_points : (w : Within) (kind : PointKind) (x : Walk) →
      length (walk_point w kind x).drawing.points ≡ length x.drawing.points + 1
  unfolding walk_point pointed restored passed fresh
  point_points w kind x =
      let own : Point = record { kind = kind; function = w.function; takes = []; reads = []; writes = None } in
      let a = length-append x.drawing.points (own ∷ []) in
      omega arith

  pub point_sites : (w : Within) (kind : PointKind) (x : Walk) → length (walk_point w kind x).drawing.sites ≡ length x.drawing.sites
  unfolding walk_point pointed restored passed fresh
  point_sites w kind x = refl

  -- ---- an `if`

  pub arms-none : (w : Within) (x : Walk) → walk_arms entries w [] x ≡ x
  unfolding walk_arms
  arms-none w x = refl

  pub arms-on : (w : Within) (a : Armed) (more : List Armed) (x : Walk) →
      walk_arms entries w (a ∷ more) x ≡ walk_arms entries w more (walk_arm entries w a x)
  unfolding walk_arms
  arms-on w a more x = refl

  arm_points : (w : Within) (a : Armed) (x : Walk) →
      length (walk_arm entries w a x).drawing.points ≡ length x.drawing.points + size a.test + 1 + size_of a.body
  unfolding walk_arm walk_end walk_from
  arm_points w a x =
      let h = value_points w Plain a.test x in
      let e = walked_points w a.body (walk_value entries w Plain a.test x) in
      omega arith

  arm_sites : (w : Within) (a : Armed) (x : Walk) →
      length (walk_arm entries w a x).drawing.sites ≡ length x.drawing.sites + accesses a.test + accesses_in a.body
  unfolding walk_arm walk_end walk_from
  arm_sites w a x =
      let h = value_sites w Plain a.test x in
      let e = walked_sites w a.body (walk_value entries w Plain a.test x) in
      omega arith

  -- behind the test of an `if` whose first point is k
  abbrev test_walk : Within → Core → (k s : ℕ) → Walk → Walk
  test_walk w test k s x = record x {
    drawing = gaining entries (points w test k s x.drawing.froms ++ test_at w test k s x.drawing.froms ∷ []) ((k + size test) ∷ []) x.drawing;
  }

  test_is : (w : Within) (test : Core) (x : Walk) →
      walk_value entries w Plain test x ≡ test_walk w test (length x.drawing.points) (length x.drawing.sites) x
  unfolding walk_value
  test_is w test x = ap (λ d. record x { drawing = d }) (valued_is w Plain test x.drawing)

  -- and behind an arm
  abbrev arm_walk : Within → Armed → (k s : ℕ) → Walk → Walk
  arm_walk w a k s x =
      walk_end ((k + size a.test) ∷ []) (walked_at w a.body (k + size a.test + 1) (s + accesses a.test) (test_walk w a.test k s x))

  value_froms : (w : Within) (test : Core) (x : Walk) →
      (walk_value entries w Plain test x).drawing.froms ≡ (length x.drawing.points + size test) ∷ []
  unfolding gaining
  value_froms w test x = ap (λ (y : Walk). y.drawing.froms) (test_is w test x)

  arm_is : (w : Within) (a : Armed) (x : Walk) →
      walk_arm entries w a x ≡ arm_walk w a (length x.drawing.points) (length x.drawing.sites) x
  unfolding walk_arm
  arm_is w a x =
      let k = length x.drawing.points in
      let s = length x.drawing.sites in
      let t = walk_value entries w Plain a.test x in
      ap (λ f. walk_end f (walked entries w a.body t)) (value_froms w a.test x)
      ∙ ap (walk_end ((k + size a.test) ∷ []))
      (sym (walked_is w a.body (k + size a.test + 1) (s + accesses a.test) t (value_points w Plain a.test x) (value_sites w Plain a.test x))
      ∙ ap (walked_at w a.body (k + size a.test + 1) (s + accesses a.test)) (test_is w a.test x))

  -- behind an `if` whose arms so far, at whose end evaluation was before, are those before x
  abbrev ended : (outer : List ℕ) → (x y : Walk) → Walk
  ended outer x y = record (walk_from (x.ends ++ y.drawing.froms) y) { ends = outer }

  choose_at : (w : Within) (a : Armed) (d : Does) (outer : List ℕ) (k s : ℕ) (x : Walk) →
      ended outer (arm_walk w a k s x)
      (walked_at w d (k + size a.test + 1 + size_of a.body) (s + accesses a.test + accesses_in a.body) (arm_walk w a k s x))
      ≡ ended outer x (walked_at w (choose a.of_pointer a.test a.body d) k s x)
  unfolding walk_end walk_from gaining
  choose_at w a d outer k s x =
      let t = k + size a.test in
      let u = s + accesses a.test in
      let l = leaves w.returns a.body (t + 1) (t ∷ []) in
      let m = leaves w.returns d (t + 1 + size_of a.body) (t ∷ []) in
      let ps = points w a.test k s x.drawing.froms in
      let test = test_at w a.test k s x.drawing.froms in
      let ons = points_in w a.body (t + 1) u (t ∷ []) in
      let offs = points_in w d (t + 1 + size_of a.body) (u + accesses_in a.body) (t ∷ []) in
      let f = x.ends ++ (l.falls ++ m.falls) in
      walk_same _ _ ((x.breaks ++ l.breaks) ++ m.breaks) (x.breaks ++ (l.breaks ++ m.breaks))
      ((x.continues ++ l.continues) ++ m.continues) (x.continues ++ (l.continues ++ m.continues)) outer outer
      (ap (λ g. gaining entries offs g (gaining entries ons (t ∷ []) (gaining entries (ps ++ test ∷ []) (t ∷ []) x.drawing)))
      (append_assoc x.ends l.falls m.falls)
      ∙ ap (gaining entries offs f) (sym (gaining_on (ps ++ test ∷ []) ons (t ∷ []) (t ∷ []) x.drawing)
      ∙ ap (λ qs. gaining entries qs (t ∷ []) x.drawing) (append_assoc ps (test ∷ []) ons))
      ∙ sym (gaining_on (ps ++ (test ∷ ons)) offs (t ∷ []) f x.drawing))
      (append_assoc x.breaks l.breaks m.breaks) (append_assoc x.continues l.continues m.continues) refl

  choose_on : (w : Within) (a : Armed) (d : Does) (outer : List ℕ) (x : Walk) →
      ended outer (walk_arm entries w a x) (walked entries w d (walk_arm entries w a x))
      ≡ ended outer x (walked entries w (choose a.of_pointer a.test a.body d) x)
  choose_on w a d outer x =
      let k = length x.drawing.points in
      let s = length x.drawing.sites in
      let u = k + size a.test + 1 + size_of a.body in
      let v = s + accesses a.test + accesses_in a.body in
      let y = walk_arm entries w a x in
      ap (ended outer y) (sym (walked_is w d u v y (arm_points w a x) (arm_sites w a x)))
      ∙ ap (λ z. ended outer z (walked_at w d u v z)) (arm_is w a x)
      ∙ choose_at w a d outer k s x
      ∙ ap (ended outer x) (walked_is w (choose a.of_pointer a.test a.body d) k s x refl refl)

  walked_ends : (w : Within) (d : Does) (x : Walk) → (walked entries w d x).ends ≡ x.ends
  unfolding walked
  walked_ends w d x = refl

  chosen_on : (w : Within) (arms : List Armed) (rest : Does) (outer : List ℕ) (x : Walk) →
      walk_joined outer (walked entries w rest (walk_arms entries w arms x)) ≡ ended outer x (walked entries w (chosen arms rest) x)
  unfolding walk_joined walk_arms
  chosen_on w [] rest outer x =
      let y = walked entries w rest x in
      ap (λ e. record (walk_from (e ++ y.drawing.froms) y) { ends = outer }) (walked_ends w rest x)
  chosen_on w (a ∷ more) rest outer x =
      chosen_on w more rest outer (walk_arm entries w a x) ∙ choose_on w a (chosen more rest) outer x

  pub walked-chosen : (w : Within) (arms : List Armed) (rest : Does) (x : Walk) →
      walked entries w (chosen arms rest) x
      ≡ walk_joined x.ends (walked entries w rest (walk_arms entries w arms (walk_opened x)))
  unfolding walked walk_opened walk_from gaining
  walked-chosen w arms rest x = sym (chosen_on w arms rest x.ends (walk_opened x))

  -- ---- a loop

  -- behind the point t
  abbrev pub bare_at : Within → PointKind → (t : ℕ) → Walk → Walk
  bare_at w kind t x = record x { drawing = gaining entries (bare w kind t x.drawing.froms [] [] ∷ []) (t ∷ []) x.drawing }

  pub point_is : (w : Within) (kind : PointKind) (t : ℕ) (x : Walk) → length x.drawing.points ≡ t → bare_at w kind t x ≡ walk_point w kind x
  unfolding walk_point
  point_is w kind t x e = ap (λ d. record x { drawing = d }) (sym (pointed_at w kind t x.drawing e))

  loop_at : (w : Within) (mine : Option ℕ) (before body after : Does) (k s : ℕ) (x : Walk) →
      let t = k + size_of before in
      let u = t + 1 + size_of body in
      let from_body = leaves w.returns body (t + 1) (t ∷ []) in
      let again = (leaves w.returns after u (from_body.falls ++ from_body.continues)).falls in
      let y = walked_at w before k s (walk_enter again x) in
      walked_at w (loop mine before body after) k s x
      ≡ walk_closed x.breaks x.continues y.continues (walked_at w after u (s + accesses_in before + accesses_in body)
      (walk_again (walked_at (in_loop w mine before body) body (t + 1) (s + accesses_in before) (bare_at w Plain t (walk_turn y)))))
  unfolding walk_closed walk_again walk_turn walk_enter walk_from gaining
  loop_at w mine before body after k s x =
      let t = k + size_of before in
      let u = t + 1 + size_of body in
      let b = leaves w.returns body (t + 1) (t ∷ []) in
      let i = b.falls ++ b.continues in
      let c = leaves w.returns after u i in
      let j = x.drawing.froms ++ c.falls in
      let a = leaves w.returns before k j in
      let befores = points_in w before k s j in
      let turning = bare w Plain t a.falls [] [] in
      let bodies = points_in (in_loop w mine before body) body (t + 1) (s + accesses_in before) (t ∷ []) in
      let afters = points_in w after u (s + accesses_in before + accesses_in body) i in
      let f = a.breaks ++ b.breaks ++ c.breaks in
      walk_same (gaining entries ((befores ++ (turning ∷ bodies)) ++ afters) f x.drawing) _ (x.breaks ++ []) x.breaks
      (x.continues ++ (a.continues ++ c.continues)) _ x.ends x.ends
      (gaining_on (befores ++ (turning ∷ bodies)) afters i f x.drawing
      ∙ ap (gaining entries afters f) (ap (λ qs. gaining entries qs i x.drawing) (sym (append_assoc befores (turning ∷ []) bodies))
      ∙ gaining_on (befores ++ (turning ∷ [])) bodies (t ∷ []) i x.drawing
      ∙ ap (gaining entries bodies i) (gaining_on befores (turning ∷ []) a.falls (t ∷ []) x.drawing)))
      (append-nil x.breaks) refl refl

  again_is : (w : Within) (before body after : Does) (x : Walk) →
      let t = length x.drawing.points + size_of before in
      let b = leaves w.returns body (t + 1) (t ∷ []) in
      (leaves w.returns after (t + 1 + size_of body) (b.falls ++ b.continues)).falls ≡ again_from before body after (count_of x)
  unfolding again_from count_of
  again_is w before body after x =
      let t = length x.drawing.points + size_of before in
      let u = t + 1 + size_of body in
      let b = leaves w.returns body (t + 1) (t ∷ []) in
      let b' = leaves nowhere body (t + 1) (t ∷ []) in
      let h = leaves_alike w.returns nowhere body (t + 1) (t ∷ []) in
      ap (λ f. (leaves w.returns after u (f ++ b.continues)).falls) h.0
      ∙ ap (λ f. (leaves w.returns after u (b'.falls ++ f)).falls) h.2
      ∙ (leaves_alike w.returns nowhere after u (b'.falls ++ b'.continues)).0

  entered_points : (again : List ℕ) (x : Walk) → length (walk_enter again x).drawing.points ≡ length x.drawing.points
  unfolding walk_enter walk_from
  entered_points again x = refl

  entered_sites : (again : List ℕ) (x : Walk) → length (walk_enter again x).drawing.sites ≡ length x.drawing.sites
  unfolding walk_enter walk_from
  entered_sites again x = refl

  turn_points : (x : Walk) → length (walk_turn x).drawing.points ≡ length x.drawing.points
  unfolding walk_turn
  turn_points x = refl

  turn_sites : (x : Walk) → length (walk_turn x).drawing.sites ≡ length x.drawing.sites
  unfolding walk_turn
  turn_sites x = refl

  again_points : (x : Walk) → length (walk_again x).drawing.points ≡ length x.drawing.points
  unfolding walk_again walk_from
  again_points x = refl

  again_sites : (x : Walk) → length (walk_again x).drawing.sites ≡ length x.drawing.sites
  unfolding walk_again walk_from
  again_sites x = refl

  pub walked-loop : (w : Within) (mine : Option ℕ) (before body after : Does) (x : Walk) →
      walked entries w (loop mine before body after) x
      ≡ walk_closed x.breaks x.continues (walked entries w before (walk_enter (again_from before body after (count_of x)) x)).continues
      (walked entries w after (walk_again (walked entries (in_loop w mine before body) body (walk_point w Plain
      (walk_turn (walked entries w before (walk_enter (again_from before body after (count_of x)) x)))))))
  walked-loop w mine before body after x =
      let k = length x.drawing.points in
      let s = length x.drawing.sites in
      let t = k + size_of before in
      let u = t + 1 + size_of body in
      let sb = s + accesses_in before in
      let sa = sb + accesses_in body in
      let v = in_loop w mine before body in
      let again = again_from before body after (count_of x) in
      let x1 = walk_enter again x in
      let x2 = walked entries w before x1 in
      let x3 = walk_point w Plain (walk_turn x2) in
      let x4 = walked entries v body x3 in
      let made : Walk → Walk = λ y. walk_closed x.breaks x.continues y.continues (walked_at w after u sa
      (walk_again (walked_at v body (t + 1) sb (bare_at w Plain t (walk_turn y))))) in
      let p1 = entered_points again x in
      let s1 = entered_sites again x in
      let p2 = walked_points w before x1 in
      let s2 = walked_sites w before x1 in
      let p2' = turn_points x2 in
      let s2' = turn_sites x2 in
      let p3 = point_points w Plain (walk_turn x2) in
      let s3 = point_sites w Plain (walk_turn x2) in
      let p4 = walked_points v body x3 in
      let s4 = walked_sites v body x3 in
      let p5 = again_points x4 in
      let s5 = again_sites x4 in
      sym (walked_is w (loop mine before body after) k s x refl refl)
      ∙ loop_at w mine before body after k s x
      ∙ ap (λ f. made (walked_at w before k s (walk_enter f x))) (again_is w before body after x)
      ∙ ap made (walked_is w before k s x1 p1 s1)
      ∙ ap (λ z. walk_closed x.breaks x.continues x2.continues (walked_at w after u sa (walk_again (walked_at v body (t + 1) sb z))))
      (point_is w Plain t (walk_turn x2) (omega arith))
      ∙ ap (λ z. walk_closed x.breaks x.continues x2.continues (walked_at w after u sa (walk_again z)))
      (walked_is v body (t + 1) sb x3 (omega arith) (omega arith))
      ∙ ap (walk_closed x.breaks x.continues x2.continues) (walked_is w after u sa (walk_again x4) (omega arith) (omega arith))

pub ruleset forms = (walked-nothing, walked-break, walked-continue, walked-act, walked-return, walked-block, walked-chosen, walked-loop)

pub ruleset chains = (block-none, block-on, arms-none, arms-on)
