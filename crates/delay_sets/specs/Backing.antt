-- Links and back-paths as rows of bits.
use Rattle.std.specs.Prelude.{◌≡◌, ◌⊎◌, ◌↔◌, ℕ, ◌+◌, ◌<◌, List, [], ◌∷◌, length}
use Rattle.site_graph.specs.Bits.{Bits, IsSet, IsOf}
use Rattle.site_graph.specs.Graph.{Graph}
use Rattle.delay_sets.specs.Delays.{Link}
use Rattle.delay_sets.specs.Relations.{HasPairs}

-- as many rows and columns as this
abbrev pub AreSquare : (count : ℕ) → Bits → Type 0
AreSquare count bits = (bits.rows ≡ count) × (bits.columns ≡ count)

abbrev pub AreLinks : Graph → (cross own : Bits) → Bits → Type 0
AreLinks graph cross own links = AreSquare (length graph.sites + 1) links
    × ((a b : ℕ) → IsSet links a b ↔ Link graph cross own a b)

-- the last has in the row the links to the first so many sites too
abbrev pub IsWithLinks : Graph → (cross own : Bits) → (site count : ℕ) → Bits → Bits → Type 0
IsWithLinks graph cross own site count old new =
    HasPairs old (λ r c. IsSet old r c ⊎ ((r ≡ site) × (c < count) × Link graph cross own r c)) new

-- from c to a through the members of the list, by links and by what comes before what, the last step a link
abbrev pub BackBy : (links before : Bits) → ℕ → List ℕ → ℕ → Type 0
BackBy links before c [] a = IsSet links c a
BackBy links before c (d ∷ ds) a = (IsSet links c d ⊎ IsSet before c d) × BackBy links before d ds a

abbrev pub BackPathBy : (links before : Bits) → (b a : ℕ) → Type 0
BackPathBy links before b a = (c : ℕ) × (ds : List ℕ) × IsSet links b c × BackBy links before c ds a

abbrev pub AreBackPaths : (links before : Bits) → Bits → Type 0
AreBackPaths links before back = IsOf links.rows links.rows (BackPathBy links before) back

-- the site has to be over before the other, where it is blocking
abbrev pub DelaysBy : (before own back : Bits) → (site other : ℕ) → Type 0
DelaysBy before own back site other = IsSet before site other × (IsSet own site other ⊎ IsSet back other site)

-- the last has in the row those of the first so many sites before which the site has to be over too
abbrev pub IsWithDelays : (before own back : Bits) → (site count : ℕ) → Bits → Bits → Type 0
IsWithDelays before own back site count old new =
    HasPairs old (λ r c. IsSet old r c ⊎ ((r ≡ site) × (c < count) × DelaysBy before own back r c)) new
