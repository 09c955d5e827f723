-- Common cells of two forms from one node and from two, and the node on which alone a form can allow a given cell.
use Rattle.std.proofs.Common.{◌≡◌, ℕ, ◌<◌, Option, Some, None, IfSome, refl, sym, ◌∙◌, subst, true, false, slice_get}
use Rattle.std.specs.Prelude.{◌≢◌}
use Rattle.sc_base.specs.declared.value.Place.{Place}
use Rattle.sc_layout.specs.Layout.{Arrangement, LaidObject, IsLayout}
use Rattle.sc_layout.specs.Place.{place_of}
use Rattle.site_graph.specs.declared.site.Form.{Form}
use Rattle.site_graph.specs.declared.site.Form.TheVariants.{Element, Own, OwnExposed, Exposed}
use Rattle.site_graph.specs.declared.site.IndexForm.{IndexForm}
use Rattle.site_graph.specs.declared.site.Site.{Site}
use Rattle.site_graph.specs.Graph.{Graph}
use Rattle.alias_conflicts.specs.declared.region.Region.{Region}
use Rattle.alias_conflicts.specs.declared.region.Indices.TheVariants.{One}
use Rattle.alias_conflicts.specs.May.{Allows}
use Rattle.alias_conflicts.specs.Pairs.{ShareOwn, ShareAcross}
use Rattle.alias_conflicts.specs.Regions.{FormsShare, IsRegionOf, IsIn, HasIndex, HasObject, Agrees}
use Rattle.alias_conflicts.specs.Across.{FormsOwn, FormsFrom, FormsAcross, object_named, AreSameWhereSome, MayMeet, IsAlike, AreIndicesAlike, IsOnlyNode, IsOnlyIndexNode, AreOnNode}
use Rattle.alias_conflicts.proofs.Cells.{one_index, cell_from, spread_any, ordinary_from}
use Rattle.alias_conflicts.proofs.SharedCells.{by_both, by_first, by_second, share_cases}

module _ (layout : Arrangement) (graph : Graph) where
  -- ---- sites and their forms

  pub own_by_both : (a b : Site) → FormsOwn layout graph a.writes b.writes → ShareOwn layout graph a b
  own_by_both a b w = (w.0, w.1, by_both layout graph a b w.0 w.0 w.2)

  pub own_by_first : (a b : Site) → FormsOwn layout graph a.writes b.reads → ShareOwn layout graph a b
  own_by_first a b w = (w.0, w.1, by_first layout graph a b w.0 w.0 w.2)

  pub own_by_second : (a b : Site) → FormsOwn layout graph a.reads b.writes → ShareOwn layout graph a b
  own_by_second a b w = (w.0, w.1, by_second layout graph a b w.0 w.0 w.2)

  pub own_cases : (a b : Site) (P : Type 0) → (FormsOwn layout graph a.writes b.writes → P) → (FormsOwn layout graph a.writes b.reads → P)
      → (FormsOwn layout graph a.reads b.writes → P) → ShareOwn layout graph a b → P
  own_cases a b P both first second w =
      share_cases layout graph a b w.0 w.0 P (λ s. both (w.0, w.1, s)) (λ s. first (w.0, w.1, s)) (λ s. second (w.0, w.1, s)) w.2

  pub across_by_both : (a b : Site) → FormsAcross layout graph a.writes b.writes → ShareAcross layout graph a b
  across_by_both a b w = let v = w.2 in (w.0, w.1, (v.0, v.1, v.2, by_both layout graph a b w.0 v.0 v.3))

  pub across_by_first : (a b : Site) → FormsAcross layout graph a.writes b.reads → ShareAcross layout graph a b
  across_by_first a b w = let v = w.2 in (w.0, w.1, (v.0, v.1, v.2, by_first layout graph a b w.0 v.0 v.3))

  pub across_by_second : (a b : Site) → FormsAcross layout graph a.reads b.writes → ShareAcross layout graph a b
  across_by_second a b w = let v = w.2 in (w.0, w.1, (v.0, v.1, v.2, by_second layout graph a b w.0 v.0 v.3))

  pub across_cases : (a b : Site) (P : Type 0) → (FormsAcross layout graph a.writes b.writes → P) → (FormsAcross layout graph a.writes b.reads → P)
      → (FormsAcross layout graph a.reads b.writes → P) → ShareAcross layout graph a b → P
  across_cases a b P both first second w =
      let v = w.2 in
      share_cases layout graph a b w.0 v.0 P (λ s. both (w.0, w.1, (v.0, v.1, v.2, s))) (λ s. first (w.0, w.1, (v.0, v.1, v.2, s)))
      (λ s. second (w.0, w.1, (v.0, v.1, v.2, s))) v.3

  pub turned : (a b : Option Form) → FormsAcross layout graph a b → FormsAcross layout graph b a
  turned a b w = let v = w.2 in let s = v.3 in (v.0, v.1, (w.0, w.1, (λ e. v.2 (sym e)), (s.0, s.2, s.1)))

  -- ---- objects

  has_named : (form : Form) (o node : ℕ) (cell : Place) → IsLayout layout → node < layout.nodes → object_named form ≡ Some o → Allows layout graph form node cell → cell.object ≡ o
  has_named (Element object index) o node cell h low e w = (cell_from layout node object w.0 cell h low w.2).object_is ∙ some_same e
    where
      some_same : {x y : ℕ} → Some x ≡ Some y → x ≡ y
      some_same e = cc
  has_named (Own object) o node cell h low e w = w.1 ∙ some_same e
    where
      some_same : {x y : ℕ} → Some x ≡ Some y → x ≡ y
      some_same e = cc
  has_named OwnExposed o node cell h low e w = cc
  has_named Exposed o node cell h low e w = cc

  pub not_apart : (a b : Form) (p q : ℕ) → IsLayout layout → p < layout.nodes → q < layout.nodes → (MayMeet a b → ⊥) → FormsShare layout graph (Some a) p (Some b) q → ⊥
  not_apart a b p q h low_p low_q apart s = by (object_named a) (object_named b) refl refl apart
    where
      by : (x y : Option ℕ) → object_named a ≡ x → object_named b ≡ y → (AreSameWhereSome x y → ⊥) → ⊥
      by None y e f apart = apart tt
      by (Some o) None e f apart = apart tt
      by (Some o) (Some r) e f apart = apart (sym (has_named a o p s.0 h low_p e s.1) ∙ has_named b r q s.0 h low_q f s.2)

  pub none_own : (a b : Form) → IsLayout layout → (MayMeet a b → ⊥) → FormsOwn layout graph (Some a) (Some b) → ⊥
  none_own a b h apart w = not_apart a b w.0 w.0 h w.1 w.1 apart w.2

  pub none_across : (a b : Form) → IsLayout layout → (MayMeet a b → ⊥) → FormsAcross layout graph (Some a) (Some b) → ⊥
  none_across a b h apart w = let v = w.2 in not_apart a b w.0 v.0 h w.1 v.1 apart v.3

  -- ---- the node

  pub on_any_other : (a b : Form) (p other : ℕ) → IsAlike layout b → other < layout.nodes → p ≢ other → FormsFrom layout graph (Some a) p (Some b)
      → (other < layout.nodes) × (p ≢ other) × FormsShare layout graph (Some a) p (Some b) other
  on_any_other a b p other alike low apart w = let s = w.3 in (low, apart, (s.0, s.1, alike graph w.0 other s.0 s.2))

  pub on_the_only : (a b : Form) (p only : ℕ) → IsOnlyNode layout graph a p b only → FormsFrom layout graph (Some a) p (Some b)
      → (only < layout.nodes) × (p ≢ only) × FormsShare layout graph (Some a) p (Some b) only
  on_the_only a b p only is w =
      subst (λ n. (n < layout.nodes) × (p ≢ n) × FormsShare layout graph (Some a) p (Some b) n) (is w.0 w.1 w.3) (w.1, w.2, w.3)

  pub only_none : (a b : Form) (p only : ℕ) → IsRegionOf layout graph a p None → IsOnlyNode layout graph a p b only
  only_none a b p only none q low s = absurd ((none s.0).0 s.1)

  -- where the form allows but cells of the executing node
  pub only_near : (a b : Form) (p only : ℕ) (region : Region) → IsRegionOf layout graph a p (Some region) → AreOnNode layout graph region only
      → ((q : ℕ) (cell : Place) → Allows layout graph b q cell → cell.node ≡ q) → IsOnlyNode layout graph a p b only
  only_near a b p only region at on near q low s =
      let v = (at s.0).0 s.1 in sym (near q s.0 s.2) ∙ on s.0 v.0 v.1

  pub near_own : (object q : ℕ) (cell : Place) → Allows layout graph (Own object) q cell → cell.node ≡ q
  near_own object q cell w = w.2

  pub near_exposed : (q : ℕ) (cell : Place) → Allows layout graph OwnExposed q cell → cell.node ≡ q
  near_exposed q cell w = w.2

  pub near_element : (object : ℕ) (index : IndexForm) (o : LaidObject) → slice_get layout.objects object ≡ Some o → o.shape.spread ≡ false
      → (q : ℕ) (cell : Place) → Allows layout graph (Element object index) q cell → cell.node ≡ q
  near_element object index o found s q cell w = (ordinary_from layout q object w.0 cell o found s w.2).node_is

  -- where it allows an index on one node alone
  pub only_by_index : (a : Form) (object : ℕ) (index : IndexForm) (p only : ℕ) (region : Region) → IsLayout layout → IsRegionOf layout graph a p (Some region)
      → IsOnlyIndexNode layout.nodes region.indices index only → IsOnlyNode layout graph a p (Element object index) only
  only_by_index a object index p only region h at is q low s =
      let v = (at s.0).0 s.1 in
      let w = s.2 in
      let c = cell_from layout q object w.0 s.0 h low w.2 in
      let here : place_of layout s.0.node object v.0 ≡ Some s.0 = subst (λ o. place_of layout s.0.node o v.0 ≡ Some s.0) c.object_is v.1.at in
      let same : v.0 ≡ w.0 = one_index layout s.0 object v.0 w.0 h here c.at in
      is q w.0 low (subst (HasIndex layout.nodes region.indices) same v.1.index) w.1

  -- ---- alike

  pub alike_element : (object : ℕ) (index : IndexForm) (o : LaidObject) → slice_get layout.objects object ≡ Some o → o.shape.spread ≡ true → AreIndicesAlike index
      → IsAlike layout (Element object index)
  alike_element object index o found s alike other q r cell w =
      (w.0, alike layout.nodes q r w.0 w.1, spread_any layout q r object w.0 cell o found s w.2)

  -- ---- the node of a region

  pub region_node : (region : Region) (node : ℕ) → region.node ≡ Some node → AreOnNode layout graph region node
  region_node region node e cell index is = subst (λ given. Agrees given cell.node) e is.node

  pub region_cell : (region : Region) (object i : ℕ) (o : LaidObject) → IsLayout layout → region.object ≡ Some object → region.indices ≡ One i → slice_get layout.objects object ≡ Some o
      → o.shape.spread ≡ true → (cell : Place) (index : ℕ) → IsIn layout graph.exposed region cell index → place_of layout 0 object i ≡ Some cell
  region_cell region object i o h e f found s cell index is =
      let same_object : cell.object ≡ object = subst (λ given. HasObject graph.exposed given cell.object) e is.object in
      let same_index : index ≡ i = subst (λ k. HasIndex layout.nodes k index) f is.index in
      let at : place_of layout cell.node object i ≡ Some cell =
      subst (λ k. place_of layout cell.node object k ≡ Some cell) same_index (subst (λ k. place_of layout cell.node k index ≡ Some cell) same_object is.at) in
      spread_any layout cell.node 0 object i cell o found s at

  -- ---- where the parts of a form may tell of no node

  pub only_of_index : (a b : Form) (object : ℕ) (index : IndexForm) (p nodes : ℕ) (region : Region) (x : Option ℕ) → IsLayout layout → nodes ≡ layout.nodes → b ≡ Element object index
      → IsRegionOf layout graph a p (Some region) → IfSome x (IsOnlyIndexNode nodes region.indices index) → IfSome x (IsOnlyNode layout graph a p b)
  only_of_index a b object index p nodes region None h n e at is = tt
  only_of_index a b object index p nodes region (Some only) h n e at is =
      subst (λ f. IsOnlyNode layout graph a p f only) (sym e)
      (only_by_index a object index p only region h at (subst (λ m. IsOnlyIndexNode m region.indices index only) n is))

  pub only_of_node : (a b : Form) (p only : ℕ) (region : Region) → IsRegionOf layout graph a p (Some region)
      → ((q : ℕ) (cell : Place) → Allows layout graph b q cell → cell.node ≡ q) → AreOnNode layout graph region only → IsOnlyNode layout graph a p b only
  only_of_node a b p only region at near on = only_near a b p only region at on near

pub for_all : (x : Option ℕ) (P : Graph → ℕ → Type 0) → ((graph : Graph) → IfSome x (P graph)) → IfSome x (λ n. (graph : Graph) → P graph n)
for_all None P h = tt
for_all (Some n) P h = h

pub for_each : (x : Option ℕ) (P Q : Graph → ℕ → Type 0) → ((graph : Graph) (n : ℕ) → P graph n → Q graph n) → IfSome x (λ n. (graph : Graph) → P graph n)
    → IfSome x (λ n. (graph : Graph) → Q graph n)
for_each None P Q f h = tt
for_each (Some n) P Q f h = λ graph. f graph n (h graph)
