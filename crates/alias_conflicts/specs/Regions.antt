-- Sets of cells of one object or of the exposed ones, on one node or on all, by their flat indices: what an access
-- reaches on a node is such a set.
use Rattle.std.specs.Prelude.{◌≡◌, ◌↔◌, ℕ, ◌<◌, ◌%◌, ◌^◌, ℤ, pos, List, Option, Some, None, IsSomeAnd, IfSome, Contains, length}
use Rattle.sc_base.specs.declared.value.Place.{Place}
use Rattle.sc_layout.specs.Layout.{Arrangement}
use Rattle.sc_layout.specs.Place.{IsPlace, place_of}
use Rattle.site_graph.specs.declared.site.Form.{Form}
use Rattle.site_graph.specs.declared.site.IndexForm.{IndexForm}
use Rattle.site_graph.specs.Graph.{Graph}
use Rattle.alias_conflicts.specs.declared.region.Region.{Region}
use Rattle.alias_conflicts.specs.declared.region.Indices.{Indices}
use Rattle.alias_conflicts.specs.declared.region.Indices.TheVariants.{Any, One, Remainder}
use Rattle.alias_conflicts.specs.May.{AllowsIndex, Allows}

-- the number is the one that is given, where one is
abbrev pub Agrees : Option ℕ → ℕ → Type 0
Agrees None n = Unit {0}
Agrees (Some m) n = n ≡ m

-- the object is the one that is given, or else is exposed
abbrev pub HasObject : List ℕ → Option ℕ → ℕ → Type 0
HasObject exposed None object = Contains exposed object
HasObject exposed (Some o) object = object ≡ o

abbrev pub HasIndex : (nodes : ℕ) → Indices → ℕ → Type 0
HasIndex nodes Any index = Unit {0}
HasIndex nodes (One i) index = index ≡ i
HasIndex nodes (Remainder r) index = index % nodes ≡ r

-- the cell has the flat index i and is one of the region's
pub record IsIn (layout : Arrangement) (exposed : List ℕ) (region : Region) (cell : Place) (i : ℕ) : Type 0 where
  pub place : IsPlace layout cell
  pub at : place_of layout cell.node cell.object i ≡ Some cell
  pub object : HasObject exposed region.object cell.object
  pub node : Agrees region.node cell.node
  pub index : HasIndex layout.nodes region.indices i

abbrev pub IsBelow : ℕ → Indices → Type 0
IsBelow nodes Any = Unit {0}
IsBelow nodes (One i) = Unit {0}
IsBelow nodes (Remainder r) = r < nodes

-- what a region names is of the layout
pub record IsRegion (layout : Arrangement) (region : Region) : Type 0 where
  pub object : IfSome region.object (λ o. o < length layout.objects)
  pub node : IfSome region.node (λ n. n < layout.nodes)
  pub indices : IsBelow layout.nodes region.indices

-- the indices are those that the form allows, as far as 64 bits go
abbrev pub AreIndices : (nodes node : ℕ) → IndexForm → Option Indices → Type 0
AreIndices nodes node form indices =
    (index : ℕ) → index < 2 ^ 64 → AllowsIndex form nodes node index
    ↔ IsSomeAnd indices (λ i. HasIndex nodes i index)

-- the region's cells are those that the form allows on the node
abbrev pub IsRegionOf : Arrangement → Graph → Form → ℕ → Option Region → Type 0
IsRegionOf layout graph form node region =
    (cell : Place) →
    Allows layout graph form node cell
    ↔ IsSomeAnd region (λ r. (index : ℕ) × IsIn layout graph.exposed r cell index)

-- the index is the value, where 64 bits have it
abbrev pub IsOnly : ℤ → Option Indices → Type 0
IsOnly value indices =
    (nodes index : ℕ) → index < 2 ^ 64 → (pos index ≡ value)
    ↔ IsSomeAnd indices (λ i. HasIndex nodes i index)

-- the same, where there may be no form
abbrev pub IsRegionAt : Arrangement → Graph → Option Form → ℕ → Option Region → Type 0
IsRegionAt layout graph form node region =
    (cell : Place) →
    IsSomeAnd form (λ f. Allows layout graph f node cell)
    ↔ IsSomeAnd region (λ r. (index : ℕ) × IsIn layout graph.exposed r cell index)

-- the indices are those that both have
abbrev pub AreCommon : ℕ → Indices → Indices → Option Indices → Type 0
AreCommon nodes a b both =
    (index : ℕ) → (HasIndex nodes a index × HasIndex nodes b index)
    ↔ IsSomeAnd both (λ i. HasIndex nodes i index)

-- some cell of the object is on the node, where one is given, and has one of the indices
abbrev pub HasCell : Arrangement → (object : ℕ) → Option ℕ → Indices → Type 0
HasCell layout object node indices =
    (cell : Place) × (index : ℕ) × IsPlace layout cell × (place_of layout cell.node object index ≡ Some cell)
    × Agrees node cell.node × HasIndex layout.nodes indices index

-- some cell of the object is in both regions, as far as their nodes and indices go
pub record Meets (layout : Arrangement) (object : ℕ) (a b : Region) : Type 0 where
  pub cell : Place
  pub index : ℕ
  pub place : IsPlace layout cell
  pub at : place_of layout cell.node object index ≡ Some cell
  pub first_node : Agrees a.node cell.node
  pub second_node : Agrees b.node cell.node
  pub first_index : HasIndex layout.nodes a.indices index
  pub second_index : HasIndex layout.nodes b.indices index

-- some cell is in both regions
abbrev pub Overlap : Arrangement → List ℕ → (a b : Region) → Type 0
Overlap layout exposed a b =
    (cell : Place) × (index : ℕ) × IsIn layout exposed a cell index × IsIn layout exposed b cell index

-- some cell is one that both forms allow, the first on one node and the second on another or the same
abbrev pub FormsShare : Arrangement → Graph → Option Form → ℕ → Option Form → ℕ → Type 0
FormsShare layout graph a p b q =
    (cell : Place) × IsSomeAnd a (λ f. Allows layout graph f p cell)
    × IsSomeAnd b (λ f. Allows layout graph f q cell)
