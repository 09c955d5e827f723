-- The edges at the own items of a node, at its effects and at releases, between the places of the items in the list.
use Rattle.std.specs.Prelude.{◌≡◌, ℕ, suc, zero, ◌+◌, List, [], ◌++◌, length, min, Option, Some, None, ◌==◌, nat_lt, if◌then◌else◌}
use Rattle.std.specs.Prelude.{slice_index_or}
use Rattle.sc_meaning.specs.declared.event.SourceEvent.{SourceEvent}
use Rattle.sc_isa.specs.declared.access.Track.{Track}
use Rattle.sc_isa.specs.declared.access.Track.TheVariants.{Counter, Store, Covered}
use Rattle.least_order.specs.declared.edge.Edge.{Edge}
use Rattle.journal_order.specs.Ordering.{item_at}
use Rattle.order_edges.specs.declared.line.Kind.{Kind}
use Rattle.order_edges.specs.declared.line.Kind.TheVariants.{Own, Issues, Syncs, Arrivals, Effects, Releases}
use Rattle.order_edges.specs.declared.line.Line.{Line}
use Rattle.order_edges.specs.declared.steps.Step.{Step}
use Rattle.order_edges.specs.Lines.{number_in, link, edges_if, edges_upto}
use Rattle.order_edges.specs.Steps.{a_step}

-- where the releases stand, by number, and for each number the first one from it on that waits for stores
pub record ReleasesAt : Type 0 where
  pub last : ℕ
  pub items : ℕ → Option ℕ
  pub stores : ℕ → Option ℕ

-- the requests of a node, and where its own items stand, by number, its issues, and for each number the next sync
pub record NodeAt : Type 0 where
  pub node : ℕ
  pub last : ℕ
  pub steps : List Step
  pub own : ℕ → Option ℕ
  pub issues : ℕ → Option ℕ
  pub syncs : ℕ → Option ℕ

abbrev pub line_of : NodeAt → Kind → Line
line_of n kind = record { kind = kind; node = n.node; last = n.last }

abbrev pub step_at : NodeAt → ℕ → Step
step_at n k = slice_index_or n.steps k (a_step None 0)

module _ (r : ReleasesAt) where
  abbrev pub release_line : Line
  release_line = record { kind = Releases; node = 0; last = r.last }

  -- the release after so many
  abbrev pub next_release : ℕ → Option ℕ
  next_release passed = if nat_lt passed r.last then r.items (passed + 1) else None

  -- the first one after so many that waits for stores
  abbrev pub next_stores : ℕ → Option ℕ
  next_stores passed = if nat_lt passed r.last then r.stores (passed + 1) else None

  -- from a release to the next one
  abbrev pub release_edge : ℕ → SourceEvent → List Edge
  release_edge i item = edges_if (number_in release_line item) (λ m. link (Some i) (next_release m))

  abbrev pub release_edges : List SourceEvent → ℕ → List Edge
  release_edges items = edges_upto (λ i. release_edge i (item_at items i))

  module _ (n : NodeAt) where
    -- from an own item to the next one, and to it from the last release that its node has passed
    abbrev pub own_edges : (i k : ℕ) → List Edge
    own_edges i k = link (Some i) (n.own (k + 1)) ++ link (r.items (min (step_at n k).arrivals r.last)) (Some i)

    -- from an arrival to its release
    abbrev pub arrival_edges : (i k : ℕ) → List Edge
    arrival_edges i k = link (Some i) (next_release (step_at n k).arrivals)

    -- what an effect on the track has to come before
    abbrev pub waits : Option Track → (arrivals k : ℕ) → Option ℕ
    waits None arrivals k = None
    waits (Some Store) arrivals k = next_stores arrivals
    waits (Some Covered) arrivals k = n.own (k + 1)
    waits (Some (Counter c)) arrivals k = if c == 0 then n.syncs (k + 1) else n.own (k + 1)

    -- from an effect's issue to it, and from it to what waits for it
    abbrev pub effect_edges : (i k : ℕ) → List Edge
    effect_edges i k = link (n.issues k) (Some i) ++ link (Some i) (waits (step_at n k).track (step_at n k).arrivals k)

    abbrev pub item_edges : ℕ → SourceEvent → List Edge
    item_edges i item =
        edges_if (number_in (line_of n Own) item) (own_edges i)
        ++ (edges_if (number_in (line_of n Arrivals) item) (arrival_edges i)
        ++ edges_if (number_in (line_of n Effects) item) (effect_edges i))

    abbrev pub node_edges : List SourceEvent → ℕ → List Edge
    node_edges items = edges_upto (λ i. item_edges i (item_at items i))
