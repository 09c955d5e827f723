-- Items that are numbered, tables of what stands under a number, and edges one after another.
use Rattle.std.specs.Prelude.{◌≡◌, ℕ, zero, suc, ◌-◌, List, [], ◌∷◌, ◌++◌, length, slice_index_or, Option, Some, None, Bool, true, false}
use Rattle.std.specs.Prelude.{◌==◌, ◌&&◌, nat_le, if◌then◌else◌}
use Rattle.std.specs.Option.{option_map_or}
use Rattle.sc_meaning.specs.declared.event.SourceEvent.{SourceEvent}
use Rattle.sc_meaning.specs.declared.event.SourceEvent.TheVariants.{Do, Issue, Effect, Sync, Arrive, Release, End as Over}
use Rattle.least_order.specs.declared.edge.Edge.{Edge}
use Rattle.journal_order.specs.Ordering.{item_at}
use Rattle.order_edges.specs.declared.line.Kind.{Kind}
use Rattle.order_edges.specs.declared.line.Kind.TheVariants.{Own, Issues, Syncs, Arrivals, Effects, Releases}
use Rattle.order_edges.specs.declared.line.Line.{Line}

-- the item is of the kind; own items are those that come one after another, a blocking read or write among them
abbrev pub belongs : Kind → SourceEvent → Bool
belongs Own (Do node k wrote place value) = true
belongs Own (Issue node k) = true
belongs Own (Sync node k) = true
belongs Own (Arrive node k stores) = true
belongs Own (Over node end) = true
belongs Issues (Issue node k) = true
belongs Syncs (Sync node k) = true
belongs Arrivals (Arrive node k stores) = true
belongs Effects (Effect node k cell wrote place value) = true
belongs Releases (Release m) = true
belongs _ _ = false

abbrev pub node_of : SourceEvent → ℕ
node_of (Do node k wrote place value) = node
node_of (Issue node k) = node
node_of (Effect node k cell wrote place value) = node
node_of (Sync node k) = node
node_of (Arrive node k stores) = node
node_of (Release m) = 0
node_of (Over node end) = node

-- an end has the number after those of all requests
abbrev pub number_of : (last : ℕ) → SourceEvent → ℕ
number_of last (Do node k wrote place value) = k
number_of last (Issue node k) = k
number_of last (Effect node k cell wrote place value) = k
number_of last (Sync node k) = k
number_of last (Arrive node k stores) = k
number_of last (Release m) = m
number_of last (Over node end) = last

-- the item's number, if it is one of the line
abbrev pub number_in : Line → SourceEvent → Option ℕ
number_in line item =
    if belongs line.kind item && ((node_of item == line.node) && nat_le (number_of line.last item) line.last)
    then Some (number_of line.last item) else None

abbrev pub has_number : Line → ℕ → SourceEvent → Bool
has_number line number item = option_map_or (λ n. n == number) (number_in line item) false

-- the last of the first items, so many of them, with this number
abbrev pub last_with : Line → List SourceEvent → (upto number : ℕ) → Option ℕ
last_with line items zero number = None
last_with line items (suc i) number =
    if has_number line number (item_at items i) then Some i else last_with line items i number

-- the place of the item with this number
abbrev pub position : Line → List SourceEvent → ℕ → Option ℕ
position line items number = last_with line items (length items) number

-- ---- tables

abbrev pub look : List (Option ℕ) → ℕ → Option ℕ
look table k = slice_index_or table k None

-- the table has these under all numbers
pub record Tells (table : List (Option ℕ)) (count : ℕ) (f : ℕ → Option ℕ) : Type 0 where
  pub size : length table ≡ count
  pub tells : look table ≡ f

abbrev pub or_else : Option ℕ → Option ℕ → Option ℕ
or_else None other = other
or_else (Some x) other = Some x

-- what stands under the first of so many numbers from k on that has something
abbrev pub first_from : (ℕ → Option ℕ) → (many k : ℕ) → Option ℕ
first_from f zero k = None
first_from f (suc many) k = or_else (f k) (first_from f many (suc k))

-- the same of all numbers from k on below the bound
abbrev pub next_from : (ℕ → Option ℕ) → (count k : ℕ) → Option ℕ
next_from f count k = first_from f (count - k) k

-- ---- edges

-- the edge between two items, if there are both
abbrev pub link : Option ℕ → Option ℕ → List Edge
link (Some a) (Some b) = record { before = a; after = b } ∷ []
link _ _ = []

abbrev pub edges_if : Option ℕ → (ℕ → List Edge) → List Edge
edges_if None f = []
edges_if (Some k) f = f k

-- those of the first numbers, so many of them
abbrev pub edges_upto : (ℕ → List Edge) → ℕ → List Edge
edges_upto f zero = []
edges_upto f (suc i) = edges_upto f i ++ f i
