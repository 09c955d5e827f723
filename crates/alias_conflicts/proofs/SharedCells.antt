-- Two sites share a cell exactly where two of their forms do, one of which is written.
use Rattle.std.proofs.Common.{◌≡◌, ◌↔◌, ℕ, ◌+◌, ◌<◌, ◌≤◌, Option, Some, None, List, inl, inr, ⊎_elim, refl, sym, subst, arith}
use Rattle.std.specs.Prelude.{IsSomeAnd, Contains}
use Rattle.std.proofs.lemmas.Bool.{cases_lt}
use Rattle.sc_base.specs.declared.value.Place.{Place}
use Rattle.sc_layout.specs.Layout.{Arrangement, IsLayout}
use Rattle.sc_layout.specs.Place.{place_of}
use Rattle.site_graph.specs.declared.site.Form.{Form}
use Rattle.site_graph.specs.declared.site.Site.{Site}
use Rattle.site_graph.specs.Graph.{Graph}
use Rattle.alias_conflicts.specs.declared.region.Region.{Region}
use Rattle.alias_conflicts.specs.May.{Allows, Share}
use Rattle.alias_conflicts.specs.Regions.{Agrees, FormsShare, IsRegionAt, IsIn, HasObject, Overlap, Meets}
use Rattle.alias_conflicts.proofs.Cells.{one_index, cell_from}

-- ---- forms and sites

form_of : (x : Option Form) (P : Form → Type 0) → IsSomeAnd x P → (f : Form) × (x ≡ Some f) × P f
form_of None P h = absurd h
form_of (Some f) P h = (f, refl, h)

of_form : (x : Option Form) (P : Form → Type 0) (f : Form) → x ≡ Some f → P f → IsSomeAnd x P
of_form x P f e h = rw e h

pub by_both : (layout : Arrangement) (graph : Graph) (a b : Site) (p q : ℕ) → FormsShare layout graph a.writes p b.writes q → Share layout graph a b p q
by_both layout graph a b p q h =
    record { cell = h.0; one_writes = inl (form_of a.writes (λ f. Allows layout graph f p h.0) h.1, inr (form_of b.writes (λ f. Allows layout graph f q h.0) h.2)) }

pub by_first : (layout : Arrangement) (graph : Graph) (a b : Site) (p q : ℕ) → FormsShare layout graph a.writes p b.reads q → Share layout graph a b p q
by_first layout graph a b p q h =
    record { cell = h.0; one_writes = inl (form_of a.writes (λ f. Allows layout graph f p h.0) h.1, inl (form_of b.reads (λ f. Allows layout graph f q h.0) h.2)) }

pub by_second : (layout : Arrangement) (graph : Graph) (a b : Site) (p q : ℕ) → FormsShare layout graph a.reads p b.writes q → Share layout graph a b p q
by_second layout graph a b p q h =
    record { cell = h.0; one_writes = inr (inl (form_of a.reads (λ f. Allows layout graph f p h.0) h.1), form_of b.writes (λ f. Allows layout graph f q h.0) h.2) }

pub share_cases : (layout : Arrangement) (graph : Graph) (a b : Site) (p q : ℕ) (P : Type 0) → (FormsShare layout graph a.writes p b.writes q → P) → (FormsShare layout graph a.writes p b.reads q → P) → (FormsShare layout graph a.reads p b.writes q → P) → Share layout graph a b p q → P
share_cases layout graph a b p q P both first second s =
    ⊎_elim
    (λ w. (let x = w.0 in
    ⊎_elim
    (λ y. first (s.cell, of_form a.writes (λ f. Allows layout graph f p s.cell) x.0 x.1 x.2, of_form b.reads (λ f. Allows layout graph f q s.cell) y.0 y.1 y.2))
    (λ y. both (s.cell, of_form a.writes (λ f. Allows layout graph f p s.cell) x.0 x.1 x.2, of_form b.writes (λ f. Allows layout graph f q s.cell) y.0 y.1 y.2))
    w.1))
    (λ w. (let y = w.1 in
    ⊎_elim
    (λ x. second (s.cell, of_form a.reads (λ f. Allows layout graph f p s.cell) x.0 x.1 x.2, of_form b.writes (λ f. Allows layout graph f q s.cell) y.0 y.1 y.2))
    (λ x. both (s.cell, of_form a.writes (λ f. Allows layout graph f p s.cell) x.0 x.1 x.2, of_form b.writes (λ f. Allows layout graph f q s.cell) y.0 y.1 y.2))
    w.0))
    s.one_writes

-- ---- forms and regions

pub forms_overlap : (layout : Arrangement) (graph : Graph) (a b : Option Form) (p q : ℕ) (x y : Region) → IsLayout layout → IsRegionAt layout graph a p (Some x) → IsRegionAt layout graph b q (Some y) → Overlap layout graph.exposed x y ↔ FormsShare layout graph a p b q
forms_overlap layout graph a b p q x y h at_a at_b = (
  λ o. (o.0, (at_a o.0).1 (o.1, o.2), (at_b o.0).1 (o.1, o.3)),
  λ s. (let v = (at_a s.0).0 s.1 in
      let w = (at_b s.0).0 s.2 in
      let vin = v.1 in
      let win = w.1 in
      let same : w.0 ≡ v.0 = one_index layout s.0 s.0.object w.0 v.0 h win.at vin.at in
      (s.0, v.0, v.1, subst (IsIn layout graph.exposed y s.0) same w.1)),
)

pub none_first : (layout : Arrangement) (graph : Graph) (a b : Option Form) (p q : ℕ) → IsRegionAt layout graph a p None → FormsShare layout graph a p b q → ⊥
none_first layout graph a b p q at s = (at s.0).0 s.1

pub none_second : (layout : Arrangement) (graph : Graph) (a b : Option Form) (p q : ℕ) → IsRegionAt layout graph b q None → FormsShare layout graph a p b q → ⊥
none_second layout graph a b p q at s = (at s.0).0 s.2

-- ---- regions and objects

same_object : (exposed : List ℕ) (given : Option ℕ) (o r : ℕ) → r ≡ o → HasObject exposed given o → HasObject exposed given r
same_object exposed given o r e h = subst (HasObject exposed given) (sym e) h

pub meets_overlap : (layout : Arrangement) (exposed : List ℕ) (object : ℕ) (a b : Region) → IsLayout layout → HasObject exposed a.object object → HasObject exposed b.object object → Meets layout object a b → Overlap layout exposed a b
meets_overlap layout exposed object a b h has_a has_b m =
    let place = m.place in
    let w = cell_from layout m.cell.node object m.index m.cell h place.node m.at in
    let at : place_of layout m.cell.node m.cell.object m.index ≡ Some m.cell = subst (λ o. place_of layout m.cell.node o m.index ≡ Some m.cell) (sym w.object_is) m.at in (
      m.cell,
      m.index,
      record { place = m.place; at = at; object = same_object exposed a.object object m.cell.object w.object_is has_a; node = m.first_node; index = m.first_index },
      record { place = m.place; at = at; object = same_object exposed b.object object m.cell.object w.object_is has_b; node = m.second_node; index = m.second_index },
    )

pub overlap_meets : (layout : Arrangement) (exposed : List ℕ) (a b : Region) → Overlap layout exposed a b → (o : ℕ) × HasObject exposed a.object o × HasObject exposed b.object o × Meets layout o a b
overlap_meets layout exposed a b w =
    let x = w.2 in
    let y = w.3 in
    let cell : Place = w.0 in
    (cell.object, x.object, y.object, record { cell = cell; index = w.1; place = x.place; at = x.at; first_node = x.node; second_node = y.node; first_index = x.index; second_index = y.index })

-- where the first region has one object
pub one_object : (layout : Arrangement) (exposed : List ℕ) (object : ℕ) (a b : Region) → IsLayout layout → a.object ≡ Some object → (HasObject exposed b.object object × Meets layout object a b) ↔ Overlap layout exposed a b
one_object layout exposed object a b h only = (
  λ m. meets_overlap layout exposed object a b h (subst (λ given. HasObject exposed given object) (sym only) refl) m.0 m.1,
  λ w. (let m = overlap_meets layout exposed a b w in
      let same : m.0 ≡ object = subst (λ given. HasObject exposed given m.0) only m.1 in
      (subst (HasObject exposed b.object) same m.2, subst (λ o. Meets layout o a b) same m.3)),
)

-- where it has the exposed ones
pub exposed_objects : (layout : Arrangement) (exposed : List ℕ) (a b : Region) → IsLayout layout → a.object ≡ None → ((o : ℕ) × Contains exposed o × HasObject exposed b.object o × Meets layout o a b) ↔ Overlap layout exposed a b
exposed_objects layout exposed a b h only = (
  λ m. meets_overlap layout exposed m.0 a b h (subst (λ given. HasObject exposed given m.0) (sym only) m.1) m.2 m.3,
  λ w. (let m = overlap_meets layout exposed a b w in (m.0, subst (λ given. HasObject exposed given m.0) only m.1, m.2, m.3)),
)

-- ---- nodes one after another

pub none_at : (P : ℕ → Type 0) (i : ℕ) → (P i → ⊥) → ((k : ℕ) → k < i → P k → ⊥) → (k : ℕ) → k < i + 1 → P k → ⊥
none_at P i here before k low p =
    elim (cases_lt k i) [ inl h ↦ before k h p | inr h ↦ (let same : k ≡ i = omega arith in here (subst P same p)) ]

pub found_at : (P : ℕ → Type 0) (n k : ℕ) → k < n → P k → (j : ℕ) × (j < n) × P j
found_at P n k low p = (k, low, p)

pub found_nowhere : (P : ℕ → Type 0) (n i : ℕ) → n ≤ i → ((k : ℕ) → k < i → P k → ⊥) → (j : ℕ) × (j < n) × P j → ⊥
found_nowhere P n i le none w = (let low = w.1 in none w.0 (omega arith) w.2)

-- regions on two nodes
pub nodes_agree : (layout : Arrangement) (object node : ℕ) (a b : Region) → a.node ≡ Some node → Meets layout object a b → Agrees b.node node
nodes_agree layout object node a b only m =
    let is : m.cell.node ≡ node = subst (λ given. Agrees given m.cell.node) only m.first_node in
    subst (Agrees b.node) is m.second_node
