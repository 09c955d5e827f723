-- What an analysis says of the points of a code: paths and barriers between them, conflicts, links, back-paths and
-- delays. After Shasha and Snir (1988), and Krishnamurthy and Yelick, "Optimizing parallel programs with
-- explicit synchronization" (1995), with barriers and split accesses as the synchronization.
use Rattle.std.specs.Prelude.{◌≡◌, ◌⊎◌, List, [], ◌∷◌, Bool, true, false}

-- The points S of a code. A site is a point that accesses cells.
pub record Flow (S : Type 0) : Type 1 where
  pub Goes : S → S → Type 0  -- an edge leads from the first point to the second
  pub is_barrier : S → Bool  -- the node waits there for all nodes
  pub is_sync : S → Bool  -- the node waits there for its split accesses
  pub is_blocking : S → Bool  -- a site whose access is over, in the source, before the node's next step
  pub is_split : S → Bool  -- a site whose access is over, in the source, at the node's next sync
  pub may_go_one_way : S → Bool  -- a blocking site whose access the plan may send one-way: it writes one cell
  pub OwnConflict : S → S → Type 0  -- one node may reach one cell from both, and one of them writes
  -- two different nodes may reach one cell, each from one of them, and one of them writes
  pub Across : S → S → Type 0
  pub Meets : S → S → Type 0  -- two nodes may stand at them between the same two releases

-- a path of one or more edges, each of whose inner points, the list, has P
abbrev pub PathBy : {S : Type 0} → (S → S → Type 0) → (S → Type 0) → S → List S → S → Type 0
PathBy Goes P a [] b = Goes a b
PathBy Goes P a (z ∷ zs) b = Goes a z × P z × PathBy Goes P z zs b

-- such a path leads from a to b
abbrev pub LeadsBy : {S : Type 0} → (S → S → Type 0) → (S → Type 0) → S → S → Type 0
LeadsBy {S} Goes P a b = (zs : List S) × PathBy Goes P a zs b

-- a path leads from the first to the second
abbrev pub Path : {S : Type 0} → Flow S → S → S → Type 0
Path flow a b = LeadsBy flow.Goes (λ z. Unit {0}) a b

-- a path leads there with no barrier among its inner points
abbrev pub Clear : {S : Type 0} → Flow S → S → S → Type 0
Clear flow a b = LeadsBy flow.Goes (λ z. flow.is_barrier z ≡ false) a b

-- The access of a is over, in the source, before that of b begins: a is blocking and the way to b is clear, or a is
-- split and leads to a sync from which the way to b is clear.
abbrev pub Precedes : {S : Type 0} → Flow S → S → S → Type 0
Precedes {S} flow a b =
    ((flow.is_blocking a ≡ true) × Clear flow a b) ⊎
    ((flow.is_split a ≡ true) × (s : S) × (flow.is_sync s ≡ true) × Path flow a s × Clear flow s b)

-- a conflict of two nodes, at sites that can be reached between the same two releases
abbrev pub CrossConflict : {S : Type 0} → Flow S → S → S → Type 0
CrossConflict flow a b = flow.Across a b × flow.Meets a b

-- one of them is no blocking site
abbrev pub OneExplicit : {S : Type 0} → Flow S → S → S → Type 0
OneExplicit flow a b = (flow.is_blocking a ≡ false) ⊎ (flow.is_blocking b ≡ false)

-- a conflict whose order only the run decides: of two nodes, or of one node where an access is not blocking
abbrev pub Link : {S : Type 0} → Flow S → S → S → Type 0
Link flow a b = CrossConflict flow a b ⊎ (flow.OwnConflict a b × OneExplicit flow a b)

-- from the site c to the site a, through the members of the list: links or ways by `Precedes`, the last a link
abbrev pub Back : {S : Type 0} → Flow S → S → List S → S → Type 0
Back flow c [] a = Link flow c a
Back flow c (d ∷ ds) a = (Link flow c d ⊎ Precedes flow c d) × Back flow d ds a

-- a back-path from b to a: at least two steps, the first and the last of them links
abbrev pub BackPath : {S : Type 0} → Flow S → S → S → Type 0
BackPath {S} flow b a = (c : S) × (ds : List S) × Link flow b c × Back flow c ds a

-- the code has to wait for a's access before it begins b's
abbrev pub Delay : {S : Type 0} → Flow S → S → S → Type 0
Delay flow a b = (flow.is_blocking a ≡ true) × Precedes flow a b × (flow.OwnConflict a b ⊎ BackPath flow b a)
