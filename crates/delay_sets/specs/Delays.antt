-- Delays: which accesses of one node must not overlap, after Shasha and Snir (1988) and Krishnamurthy and Yelick
-- (1995). Conflicts are rows of bits over sites.
use Rattle.std.specs.Prelude.{◌≡◌, ◌⊎◌, ◌↔◌, ℕ, ◌+◌, List, [], ◌∷◌, length, Some, false}
use Rattle.effect_order.specs.Flow.{Delay}
use Rattle.site_graph.specs.declared.site.Site.{Site}
use Rattle.site_graph.specs.Bits.{Bits, IsSet, IsOf}
use Rattle.site_graph.specs.Graph.{Graph, site_at, IsAt, is_blocking}
use Rattle.site_graph.specs.Kept.{IsFlow}
use Rattle.site_graph.specs.Order.{order_flow}
use Rattle.site_graph.specs.Plans.{Blocks}
use Rattle.site_graph.specs.Ways.{Precedes}

abbrev pub IsExplicit : Graph → (site : ℕ) → Type 0
IsExplicit graph a = (s : Site) × (site_at graph a ≡ Some s) × (is_blocking s.kind ≡ false)

module _ (graph : Graph) (cross own : Bits) where
  -- a conflict whose order only the run decides: of two nodes, or of one where an access is explicit
  abbrev pub Link : (a b : ℕ) → Type 0
  Link a b = IsSet cross a b ⊎ (IsSet own a b × (IsExplicit graph a ⊎ IsExplicit graph b))

  -- from the site c to the site a, through the members of the list: links or precedence, the last step a link
  abbrev pub Back : ℕ → List ℕ → ℕ → Type 0
  Back c [] a = Link c a
  Back c (d ∷ ds) a = (Link c d ⊎ Precedes graph c d) × Back d ds a

  -- a back-path from b to a: at least two steps, the first and the last of them links
  abbrev pub BackPath : (b a : ℕ) → Type 0
  BackPath b a = (c : ℕ) × (ds : List ℕ) × Link b c × Back c ds a

  -- the access of a has to be over before that of b begins
  abbrev pub MustDelay : (a b : ℕ) → Type 0
  MustDelay a b = Blocks graph a × Precedes graph a b × (IsSet own a b ⊎ BackPath b a)

  abbrev pub AreDelays : Bits → Type 0
  AreDelays delays = IsOf (length graph.sites + 1) (length graph.sites + 1) MustDelay delays

  -- the conflicts of the points at which sites are
  abbrev pub AtSites : (ℕ → ℕ → Type 0) → (t u : ℕ) → Type 0
  AtSites R t u = (a b : ℕ) × IsAt graph a t × IsAt graph b u × R a b

  -- the points of two sites that do not meet are left out
  abbrev pub MeetAt : Bits → (t u : ℕ) → Type 0
  MeetAt meets t u = (a b : ℕ) → IsAt graph a t → IsAt graph b u → IsSet meets a b

  -- the delays are those of the laws of the order, where the conflicts of two nodes are those of them whose sites meet
  abbrev pub DelaysAreOfOrder : (Across : ℕ → ℕ → Type 0) → (meets : Bits) → Type 0
  DelaysAreOfOrder Across meets =
      IsFlow graph → ((a b : ℕ) → IsSet cross a b ↔ (Across a b × IsSet meets a b))
      → (a b t u : ℕ) → IsAt graph a t → IsAt graph b u
      → MustDelay a b ↔ Delay (order_flow graph (AtSites (IsSet own)) (AtSites Across) (MeetAt meets)) t u
