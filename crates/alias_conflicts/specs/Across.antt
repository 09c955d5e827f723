-- Which forms allow common cells, from one node or from two, and what is known of the nodes.
use Rattle.std.specs.Prelude.{◌≡◌, ◌≢◌, ℕ, ◌<◌, Option, Some, None}
use Rattle.sc_base.specs.declared.value.Place.{Place}
use Rattle.sc_layout.specs.Layout.{Arrangement}
use Rattle.site_graph.specs.declared.site.Form.{Form}
use Rattle.site_graph.specs.declared.site.Form.TheVariants.{Element, Own}
use Rattle.site_graph.specs.declared.site.IndexForm.{IndexForm}
use Rattle.site_graph.specs.Graph.{Graph}
use Rattle.alias_conflicts.specs.declared.region.Region.{Region}
use Rattle.alias_conflicts.specs.declared.region.Indices.{Indices}
use Rattle.alias_conflicts.specs.May.{AllowsIndex, Allows}
use Rattle.alias_conflicts.specs.Regions.{Agrees, FormsShare, HasIndex, IsIn}

-- on one node
abbrev pub FormsOwn : Arrangement → Graph → (a b : Option Form) → Type 0
FormsOwn layout graph a b = (p : ℕ) × (p < layout.nodes) × FormsShare layout graph a p b p

-- the first on this node, and the second on another
abbrev pub FormsFrom : Arrangement → Graph → Option Form → (p : ℕ) → Option Form → Type 0
FormsFrom layout graph a p b = (q : ℕ) × (q < layout.nodes) × (p ≢ q) × FormsShare layout graph a p b q

-- on two nodes
abbrev pub FormsAcross : Arrangement → Graph → (a b : Option Form) → Type 0
FormsAcross layout graph a b = (p : ℕ) × (p < layout.nodes) × FormsFrom layout graph a p b

-- the forms do not name different objects
abbrev pub object_named : Form → Option ℕ
object_named (Element o index) = Some o
object_named (Own o) = Some o
object_named _ = None

abbrev pub AreSameWhereSome : Option ℕ → Option ℕ → Type 0
AreSameWhereSome None given = Unit {0}
AreSameWhereSome (Some o) given = Agrees given o

abbrev pub MayMeet : (a b : Form) → Type 0
MayMeet a b = AreSameWhereSome (object_named a) (object_named b)

-- the form allows the same cells on all nodes
abbrev pub IsAlike : Arrangement → Form → Type 0
IsAlike layout form =
    (graph : Graph) (q r : ℕ) (cell : Place) → Allows layout graph form q cell → Allows layout graph form r cell

abbrev pub AreIndicesAlike : IndexForm → Type 0
AreIndicesAlike form = (nodes q r index : ℕ) → AllowsIndex form nodes q index → AllowsIndex form nodes r index

-- the second form allows a cell on no node but this that the first allows on the node p
abbrev pub IsOnlyNode : Arrangement → Graph → Form → (p : ℕ) → Form → (only : ℕ) → Type 0
IsOnlyNode layout graph a p b only =
    (q : ℕ) → q < layout.nodes → FormsShare layout graph (Some a) p (Some b) q → q ≡ only

-- the form allows one of the indices on no node but this
abbrev pub IsOnlyIndexNode : (nodes : ℕ) → Indices → IndexForm → (only : ℕ) → Type 0
IsOnlyIndexNode nodes indices form only =
    (q index : ℕ) → q < nodes → HasIndex nodes indices index → AllowsIndex form nodes q index → q ≡ only

-- all cells of the region are on this node
abbrev pub AreOnNode : Arrangement → Graph → Region → (node : ℕ) → Type 0
AreOnNode layout graph region node =
    (cell : Place) (index : ℕ) → IsIn layout graph.exposed region cell index → cell.node ≡ node
