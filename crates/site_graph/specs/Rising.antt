-- Lists that rise without repeats, by a test that says that one member stands before another.
use Rattle.std.specs.Prelude.{List, [], ◌∷◌, Bool, IsTrue, AllPairs, ltb, ◌==◌, ◌&&◌, ◌||◌, if◌then◌else◌}
use Rattle.site_graph.specs.declared.flow.Edge.{Edge}

-- each member stands before the later ones
abbrev pub IsRising : {X : Type 0} → (before : X → X → Bool) → List X → Type 0
IsRising before xs = AllPairs (λ x y. IsTrue (before x y)) xs

-- the rising list with x, which stands in it once
abbrev pub inserted : {X : Type 0} → (before : X → X → Bool) → X → List X → List X
inserted before x [] = x ∷ []
inserted before x (y ∷ ys) =
    if before x y then x ∷ y ∷ ys else if before y x then y ∷ inserted before x ys else y ∷ ys

-- the rising list of the members
abbrev pub rising : {X : Type 0} → (before : X → X → Bool) → List X → List X
rising before [] = []
rising before (x ∷ xs) = inserted before x (rising before xs)

-- edges stand by their first point, and then by their second
abbrev pub edge_before : Edge → Edge → Bool
edge_before a b = ltb a.from b.from || ((a.from == b.from) && ltb a.to b.to)
