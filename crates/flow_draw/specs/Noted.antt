-- Numbers that are put among others, of which each stands once and in rising order.
use Rattle.std.specs.Prelude.{ℕ, List, [], ◌∷◌, ltb}
use Rattle.site_graph.specs.Rising.{inserted}

-- the second list with the numbers of the first
unfoldable pub noted : List ℕ → List ℕ → List ℕ
noted [] xs = xs
noted (n ∷ more) xs = noted more (inserted ltb n xs)
