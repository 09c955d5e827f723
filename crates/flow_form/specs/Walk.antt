-- What a node does goes through a flow: the points that it passes are a walk along the edges from Start, and each
-- request is one that the last point passed makes. This holds whatever the node is answered.
use Rattle.std.specs.Prelude.{◌≡◌, ℕ, Some}
use Rattle.resumption.specs.Resumption.{Asks, Makes, Says, Stops}
use Rattle.sc_meaning.specs.declared.request.Request.{Request}
use Rattle.sc_meaning.specs.declared.request.Request.TheVariants as request
use Rattle.sc_meaning.specs.Asking.{Requested, Came, Answer, PointedDoing}
use Rattle.site_graph.specs.declared.point.PointKind.TheVariants.{Sync, Barrier, StoreSync}
use Rattle.site_graph.specs.declared.site.Site.{Site}
use Rattle.site_graph.specs.declared.site.SiteKind.{SiteKind}
use Rattle.site_graph.specs.declared.site.SiteKind.TheVariants.{Read, Write, Get, Put, Store, Copy}
use Rattle.site_graph.specs.Graph.{Graph, kind_at, site_at, IsAt}
use Rattle.site_graph.specs.Ways.{Goes}

-- ---- the walk

-- each point that is passed from now on is one to which an edge leads from the point passed before it
abbrev pub GoesOn : Graph → (last : ℕ) → PointedDoing → Type 0
GoesOn graph last (Asks (Requested request) fits go) = (answer : Answer) → GoesOn graph last (go answer)
GoesOn graph last (Asks (Came point) fits go) =
    Goes graph last point × ((answer : Answer) → GoesOn graph point (go answer))
GoesOn graph last (Makes (Requested request) rest) = GoesOn graph last rest
GoesOn graph last (Makes (Came point) rest) = Goes graph last point × GoesOn graph point rest
GoesOn graph last (Says text rest) = GoesOn graph last rest
GoesOn graph last (Stops halt) = Unit {0}

-- Start is passed first
abbrev pub IsWalk : Graph → PointedDoing → Type 0
IsWalk graph (Makes (Came point) rest) = (point ≡ 0) × GoesOn graph point rest
IsWalk graph _ = ⊥

-- ---- requests

-- the point is the access of a site of this kind and line
pub record IsAccess (graph : Graph) (point : ℕ) (kind : SiteKind) (line : ℕ) : Type 0 where
  pub number : ℕ
  pub is_at : IsAt graph number point
  pub site : Site
  pub is_site : site_at graph number ≡ Some site
  pub same_kind : site.kind ≡ kind
  pub same_line : site.line ≡ line

-- the request is one that the point makes
abbrev pub IsMadeAt : Graph → (point : ℕ) → Request → Type 0
IsMadeAt graph t (request.Read place line) = IsAccess graph t Read line
IsMadeAt graph t (request.Write place value line) = IsAccess graph t Write line
IsMadeAt graph t (request.Get place line) = IsAccess graph t Get line
IsMadeAt graph t (request.Put place value line) = IsAccess graph t Put line
IsMadeAt graph t (request.Store place value line) = IsAccess graph t Store line
IsMadeAt graph t (request.Copy from to cells mode line) = IsAccess graph t (Copy mode) line
IsMadeAt graph t (request.Sync line) = kind_at graph t ≡ Sync
IsMadeAt graph t (request.Barrier line) = kind_at graph t ≡ Barrier
IsMadeAt graph t (request.AllStoreSync line) = kind_at graph t ≡ StoreSync

-- each request from now on is made by the point passed before it
abbrev pub Requests : Graph → (last : ℕ) → PointedDoing → Type 0
Requests graph last (Asks (Requested request) fits go) =
    IsMadeAt graph last request × ((answer : Answer) → Requests graph last (go answer))
Requests graph last (Asks (Came point) fits go) = (answer : Answer) → Requests graph point (go answer)
Requests graph last (Makes (Requested request) rest) = IsMadeAt graph last request × Requests graph last rest
Requests graph last (Makes (Came point) rest) = Requests graph point rest
Requests graph last (Says text rest) = Requests graph last rest
Requests graph last (Stops halt) = Unit {0}
