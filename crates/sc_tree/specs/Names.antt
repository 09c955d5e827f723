-- Lists of distinct names in order of first appearance, and the numbers that this order gives them. This is the
-- numbering of a symbol table that only grows.
use Rattle.std.specs.Prelude.{ℕ, List, [], ◌∷◌, ◌++◌, not, filter, if◌then◌else◌}
use Rattle.std.specs.List.{list_any, position_or_len}
use Rattle.std.specs.Str.{bytes_eq}

-- the bytes of a name or of a format
abbrev pub Text : Type 0
Text = List ℕ

-- where the name stands, or the place after the last
abbrev pub number_of : Text → List Text → ℕ
number_of name names = position_or_len (bytes_eq name) names

-- a new name goes last
abbrev pub with_name : Text → List Text → List Text
with_name name names = if list_any (bytes_eq name) names then names else names ++ name ∷ []

-- the distinct ones of a list, each where it first appears
abbrev pub distinct : List Text → List Text
distinct [] = []
distinct (name ∷ names) = name ∷ filter (λ other. not (bytes_eq name other)) (distinct names)
