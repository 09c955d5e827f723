-- The flow of a source: a control-flow graph as in Allen, "Control flow analysis" (1970), whose points are the single
-- steps of evaluation. Some of them access cells; those are the sites.
use Rattle.std.specs.Prelude.{◌≡◌, ℕ, zero, suc, List, Bool, true, false, Option, None, slice_get}
use Rattle.std.specs.Option.{option_map_or}
use Rattle.sc_base.specs.declared.value.CopyMode.TheVariants.{Blocking, Split}
use Rattle.site_graph.specs.declared.flow.Edge.{Edge}
use Rattle.site_graph.specs.declared.point.Point.{Point}
use Rattle.site_graph.specs.declared.point.PointKind.{PointKind}
use Rattle.site_graph.specs.declared.point.PointKind.TheVariants.{Plain, Access, Barrier, StoreSync}
use Rattle.site_graph.specs.declared.site.Site.{Site}
use Rattle.site_graph.specs.declared.site.SiteKind.{SiteKind}
use Rattle.site_graph.specs.declared.site.SiteKind.TheVariants.{Read, Write, Get, Put, Copy}

-- Points are numbered from 0, and sites from 1.
pub record Graph : Type 0 where
  pub points : List Point
  pub edges : List Edge
  pub sites : List Site
  pub exposed : List ℕ  -- the objects that pointers may reach

-- what the point with this number does
abbrev pub kind_at : Graph → ℕ → PointKind
kind_at graph t = option_map_or (λ p. p.kind) (slice_get graph.points t) Plain

-- the site with this number, if there is one
abbrev pub site_at : Graph → ℕ → Option Site
site_at graph zero = None
site_at graph (suc before) = slice_get graph.sites before

-- the point is the access of the site with this number
abbrev pub IsAt : Graph → (number point : ℕ) → Type 0
IsAt graph number t = kind_at graph t ≡ Access number

-- ---- kinds of points and sites

-- the nodes wait there for each other
abbrev pub is_barrier : PointKind → Bool
is_barrier Barrier = true
is_barrier StoreSync = true
is_barrier _ = false

-- the access is over, in the source, before the node's next step
abbrev pub is_blocking : SiteKind → Bool
is_blocking Read = true
is_blocking Write = true
is_blocking (Copy Blocking) = true
is_blocking _ = false

-- the access is over, in the source, at the node's next sync
abbrev pub is_split : SiteKind → Bool
is_split Get = true
is_split Put = true
is_split (Copy Split) = true
is_split _ = false
