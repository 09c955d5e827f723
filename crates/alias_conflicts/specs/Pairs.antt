-- Which pairs of sites conflict, and the tables of them as they grow, site by site.
use Rattle.std.specs.Prelude.{◌≡◌, ◌↔◌, ◌⊎◌, ◌≢◌, ℕ, ◌+◌, ◌<◌, Bool, true, List, Some, length, slice_get}
use Rattle.sc_layout.specs.Layout.{Arrangement}
use Rattle.site_graph.specs.declared.site.Site.{Site}
use Rattle.site_graph.specs.Bits.{Bits, IsSet}
use Rattle.site_graph.specs.Graph.{Graph}
use Rattle.alias_conflicts.specs.May.{Share}

abbrev pub ShareOwn : Arrangement → Graph → (s t : Site) → Type 0
ShareOwn layout graph s t = (p : ℕ) × (p < layout.nodes) × Share layout graph s t p p

abbrev pub ShareFrom : Arrangement → Graph → Site → (p : ℕ) → Site → Type 0
ShareFrom layout graph s p t = (q : ℕ) × (q < layout.nodes) × (p ≢ q) × Share layout graph s t p q

abbrev pub ShareAcross : Arrangement → Graph → (s t : Site) → Type 0
ShareAcross layout graph s t = (p : ℕ) × (p < layout.nodes) × ShareFrom layout graph s p t

-- the second is the first with this pair, if that holds
pub record IsMarked (row column : ℕ) (holds : Bool) (old new : Bits) : Type 0 where
  pub same_rows : new.rows ≡ old.rows
  pub same_columns : new.columns ≡ old.columns
  pub pairs : (r c : ℕ) → IsSet new r c ↔ (IsSet old r c ⊎ ((holds ≡ true) × (r ≡ row) × (c ≡ column)))

-- one row has grown by the conflicts of its site with the first sites, as many as `end`
abbrev pub IsRowSet : (row end : ℕ) → List Site → (ℕ → Site → Type 0) → (old new : Bits) → Type 0
IsRowSet row end sites R old new =
    (r c : ℕ) → IsSet new r c
    ↔ (IsSet old r c ⊎ ((r ≡ row) × ((before : ℕ) × (before < end) × (c ≡ before + 1)
    × ((t : Site) × (slice_get sites before ≡ Some t) × R c t))))

pub record AreRowsUpTo
    (layout : Arrangement) (graph : Graph) (meets : Bits) (row : ℕ) (site : Site) (end : ℕ)
    (old_cross old_own new_cross new_own : Bits) : Type 0 where
  pub cross_rows : new_cross.rows ≡ old_cross.rows
  pub cross_columns : new_cross.columns ≡ old_cross.columns
  pub own_rows : new_own.rows ≡ old_own.rows
  pub own_columns : new_own.columns ≡ old_own.columns
  pub cross_is : IsRowSet row end graph.sites (λ c t. ShareAcross layout graph site t × IsSet meets row c)
      old_cross new_cross
  pub own_is : IsRowSet row end graph.sites (λ c t. ShareOwn layout graph site t) old_own new_own

-- the tables of the first sites, as many as `end`
abbrev pub IsTable : (sites : List Site) (end : ℕ) → (ℕ → ℕ → Site → Site → Type 0) → Bits → Type 0
IsTable sites end R bits =
    (r c : ℕ) → IsSet bits r c
    ↔ ((row before : ℕ) × (row < end) × (r ≡ row + 1) × (before < length sites) × (c ≡ before + 1)
    × ((s t : Site) × (slice_get sites row ≡ Some s) × (slice_get sites before ≡ Some t) × R r c s t))

pub record AreTables (layout : Arrangement) (graph : Graph) (meets : Bits) (end : ℕ) (cross own : Bits) : Type 0 where
  pub cross_rows : cross.rows ≡ length graph.sites + 1
  pub cross_columns : cross.columns ≡ length graph.sites + 1
  pub own_rows : own.rows ≡ length graph.sites + 1
  pub own_columns : own.columns ≡ length graph.sites + 1
  pub cross_is : IsTable graph.sites end (λ r c s t. ShareAcross layout graph s t × IsSet meets r c) cross
  pub own_is : IsTable graph.sites end (λ r c s t. ShareOwn layout graph s t) own
