-- Which cells an access may reach on a node, by the forms that its text has; and from that which sites conflict, after
-- Shasha and Snir, "Efficient and correct execution of parallel programs that share memory" (1988).
use Rattle.std.specs.Prelude.{◌≡◌, ◌≢◌, ◌⊎◌, ℕ, ◌<◌, ℤ, pos, ◌+ℤ◌, ◌*ℤ◌, Some, Contains}
use Rattle.sc_base.specs.declared.value.Place.{Place}
use Rattle.sc_layout.specs.Layout.{Arrangement}
use Rattle.sc_layout.specs.Place.{IsPlace, place_of}
use Rattle.site_graph.specs.declared.site.Form.{Form}
use Rattle.site_graph.specs.declared.site.Form.TheVariants.{Element, Own, OwnExposed, Exposed}
use Rattle.site_graph.specs.declared.site.IndexForm.{IndexForm}
use Rattle.site_graph.specs.declared.site.IndexForm.TheVariants.{Linear, Wrapped, Mine, Any}
use Rattle.site_graph.specs.declared.site.Site.{Site}
use Rattle.site_graph.specs.Graph.{Graph, site_at}

-- `k * MYPROC + c`
abbrev pub linear : (k c : ℤ) → (node : ℕ) → ℤ
linear k c node = (k *ℤ pos node) +ℤ c

-- the numbers leave the same remainder when they are divided by the number of nodes
abbrev pub SameRemainder : (nodes : ℕ) → ℤ → ℤ → Type 0
SameRemainder nodes a b = (q : ℤ) × (a ≡ b +ℤ (pos nodes *ℤ q))

-- the flat index is one that the form allows on the node
abbrev pub AllowsIndex : IndexForm → (nodes node index : ℕ) → Type 0
AllowsIndex (Linear k c) nodes node index = pos index ≡ linear k c node
AllowsIndex (Wrapped k c) nodes node index = (index < nodes) × SameRemainder nodes (pos index) (linear k c node)
AllowsIndex (Mine c) nodes node index = SameRemainder nodes (pos index) (pos node +ℤ c)
AllowsIndex Any nodes node index = Unit {0}

-- the cell is one that the form allows on the node
abbrev pub Allows : Arrangement → Graph → Form → (node : ℕ) → Place → Type 0
Allows layout graph (Element object form) node cell =
    (index : ℕ) × AllowsIndex form layout.nodes node index × (place_of layout node object index ≡ Some cell)
Allows layout graph (Own object) node cell = IsPlace layout cell × (cell.object ≡ object) × (cell.node ≡ node)
Allows layout graph OwnExposed node cell = IsPlace layout cell × Contains graph.exposed cell.object
    × (cell.node ≡ node)
Allows layout graph Exposed node cell = IsPlace layout cell × Contains graph.exposed cell.object

-- what the site may do to cells on a node: read them, or write them
abbrev pub MayRead : Arrangement → Graph → Site → (node : ℕ) → Place → Type 0
MayRead layout graph site node cell = (form : Form) × (site.reads ≡ Some form) × Allows layout graph form node cell

abbrev pub MayWrite : Arrangement → Graph → Site → (node : ℕ) → Place → Type 0
MayWrite layout graph site node cell = (form : Form) × (site.writes ≡ Some form)
    × Allows layout graph form node cell

abbrev pub MayReach : Arrangement → Graph → Site → (node : ℕ) → Place → Type 0
MayReach layout graph site node cell = MayRead layout graph site node cell ⊎ MayWrite layout graph site node cell

-- the first from a node and the second from another or the same may reach one cell, at least one of them by writing it
pub record Share (layout : Arrangement) (graph : Graph) (a b : Site) (p q : ℕ) : Type 0 where
  pub cell : Place
  pub one_writes :
      (MayWrite layout graph a p cell × MayReach layout graph b q cell)
      ⊎ (MayReach layout graph a p cell × MayWrite layout graph b q cell)

-- ---- conflicts of sites, by their numbers

-- of one node
abbrev pub OwnConflict : Arrangement → Graph → (a b : ℕ) → Type 0
OwnConflict layout graph a b =
    (s t : Site) × (site_at graph a ≡ Some s) × (site_at graph b ≡ Some t) × (p : ℕ) × (p < layout.nodes)
    × Share layout graph s t p p

-- of two nodes
abbrev pub Across : Arrangement → Graph → (a b : ℕ) → Type 0
Across layout graph a b =
    (s t : Site) × (site_at graph a ≡ Some s) × (site_at graph b ≡ Some t) × (p q : ℕ) × (p < layout.nodes)
    × (q < layout.nodes)
    × (p ≢ q) × Share layout graph s t p q
