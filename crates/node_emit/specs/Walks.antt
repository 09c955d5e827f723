-- Code walks along the edges of a flow and does the waits of a plan: at each point first its waits, and then at most
-- one ask of its own. After Krishnamurthy and Yelick (1995), who place the waits.
use Rattle.std.specs.Prelude.{◌≡◌, ◌⊎◌, ℕ, List, [], ◌∷◌, Some, Bool, true, false}
use Rattle.resumption.specs.Resumption.{Asks, Makes, Says, Stops}
use Rattle.sc_base.specs.declared.value.CopyMode.TheVariants.{Blocking, Split, OneWay}
use Rattle.sc_isa.specs.declared.access.Access.{Access}
use Rattle.sc_isa.specs.declared.access.Access.TheVariants as access
use Rattle.sc_isa.specs.declared.access.Track.TheVariants.{Counter, Store, Covered}
use Rattle.sc_isa.specs.Run.{Issue, Wait, Arrive, Pass}
use Rattle.site_graph.specs.declared.plan.Plan.{Plan}
use Rattle.site_graph.specs.declared.point.PointKind.{PointKind}
use Rattle.site_graph.specs.declared.point.PointKind.TheVariants as point
use Rattle.site_graph.specs.declared.site.Site.{Site}
use Rattle.site_graph.specs.declared.site.SiteKind.{SiteKind}
use Rattle.site_graph.specs.declared.site.SiteKind.TheVariants as site
use Rattle.site_graph.specs.Graph.{Graph, kind_at, site_at, IsAt, is_barrier}
use Rattle.site_graph.specs.Ways.{Goes}
use Rattle.site_graph.specs.Plans.{waits_at}
use Rattle.node_emit.specs.Runs.{goes_one_way}
use Rattle.node_emit.specs.Pointed.{Asked, Came, PointedAsking}

abbrev pub barrier_kind : (stores : Bool) → PointKind
barrier_kind true = point.StoreSync
barrier_kind false = point.Barrier

-- the access is one of a site of this kind with this number, on the track that the site and the plan say
abbrev pub AccessFor : Plan → (number : ℕ) → SiteKind → Access → Type 0
AccessFor plan number site.Read (access.Read place track) = track ≡ Counter number
AccessFor plan number site.Write (access.Write place value track) =
    ((track ≡ Covered) × (goes_one_way plan number ≡ true))
    ⊎ ((track ≡ Counter number) × (goes_one_way plan number ≡ false))
AccessFor plan number site.Get (access.Read place track) = track ≡ Counter 0
AccessFor plan number site.Put (access.Write place value track) = track ≡ Counter 0
AccessFor plan number site.Store (access.Write place value track) = track ≡ Store
AccessFor plan number (site.Copy Blocking) (access.Copy from to cells track) = track ≡ Counter number
AccessFor plan number (site.Copy Split) (access.Copy from to cells track) = track ≡ Counter 0
AccessFor plan number (site.Copy OneWay) (access.Copy from to cells track) = track ≡ Store
AccessFor plan number kind a = ⊥

-- the access is that of the site at the point
pub record AccessAt (graph : Graph) (plan : Plan) (t : ℕ) (a : Access) : Type 0 where
  pub number : ℕ
  pub is_at : IsAt graph number t
  pub what : Site
  pub is_site : site_at graph number ≡ Some what
  pub tracked : AccessFor plan number what.kind a

-- a wait is the next one of the point, or the point's own, of a sync
abbrev pub MayWait : Graph → (t : ℕ) → (left : List ℕ) → (own : Bool) → (counter : ℕ) → Type 0
MayWait graph t [] own counter = (own ≡ true) × (counter ≡ 0) × (kind_at graph t ≡ point.Sync)
MayWait graph t (c ∷ cs) own counter = counter ≡ c

abbrev pub others : List ℕ → List ℕ
others [] = []
others (c ∷ cs) = cs

abbrev pub own_after : List ℕ → Bool → Bool
own_after [] own = false
own_after (c ∷ cs) own = own

-- At the point t the node does the waits that are left, then what is its own, if that may still come, and then goes
-- along an edge. A barrier is not left without an arrival. All of this for any answers that fit.
unfoldable pub Walks : Graph → Plan → (t : ℕ) → (left : List ℕ) → (own : Bool) → PointedAsking → Type 0
Walks graph plan t left own (Makes (Came u) rest) =
    (left ≡ []) × Goes graph t u × (is_barrier (kind_at graph t) ≡ true → own ≡ false)
    × Walks graph plan u (waits_at plan u) true rest
Walks graph plan t left own (Asks (Asked (Wait counter)) fits go) =
    MayWait graph t left own counter
    × ((answer : _) → fits answer ≡ true → Walks graph plan t (others left) (own_after left own) (go answer))
Walks graph plan t left own (Makes (Asked (Issue access)) rest) =
    (left ≡ []) × (own ≡ true) × AccessAt graph plan t access × Walks graph plan t [] false rest
Walks graph plan t left own (Makes (Asked (Arrive stores)) rest) =
    (left ≡ []) × (own ≡ true) × (kind_at graph t ≡ barrier_kind stores) × Walks graph plan t [] false rest
Walks graph plan t left own (Asks (Asked Pass) fits go) =
    (answer : _) → fits answer ≡ true → Walks graph plan t left own (go answer)
Walks graph plan t left own (Says text rest) = Walks graph plan t left own rest
Walks graph plan t left own (Stops halt) = Unit {0}
Walks graph plan t left own _ = ⊥

-- from Start
abbrev pub WalksFromStart : Graph → Plan → PointedAsking → Type 0
WalksFromStart graph plan asking = Walks graph plan 0 (waits_at plan 0) true asking
