-- Relations as rows of bits: joined, one after another, and the paths along one.
use Rattle.std.specs.Prelude.{◌≡◌, ◌⊎◌, ◌↔◌, ℕ}
use Rattle.effect_order.specs.Flow.{LeadsBy}
use Rattle.site_graph.specs.Bits.{Bits, IsSet, IsOf}

-- of the same sizes, and with these pairs
abbrev pub HasPairs : Bits → (ℕ → ℕ → Type 0) → Bits → Type 0
HasPairs old R new = (new.rows ≡ old.rows) × (new.columns ≡ old.columns)
    × ((r c : ℕ) → IsSet new r c ↔ R r c)

-- the third has the pairs of the first and of the second
abbrev pub IsUnion : Bits → Bits → Bits → Type 0
IsUnion old more new = HasPairs old (λ r c. IsSet old r c ⊎ IsSet more r c) new

-- the second has the pairs that a path of one or more pairs of the first joins
abbrev pub IsClosed : Bits → Bits → Type 0
IsClosed old new = HasPairs old (LeadsBy (IsSet old) (λ z. Unit {0})) new

-- the second has the pairs of the first, and those with a pair to this number and one from it
abbrev pub IsStep : (inner : ℕ) → Bits → Bits → Type 0
IsStep inner old new = HasPairs old (λ r c. IsSet old r c ⊎ (IsSet old r inner × IsSet old inner c)) new

-- a pair of the first leads from r to a number from which one of the second leads to c
abbrev pub Joins : Bits → Bits → (r c : ℕ) → Type 0
Joins first second r c = (inner : ℕ) × IsSet first r inner × IsSet second inner c

-- the third has the pairs that one of the first and one of the second behind it join
abbrev pub IsComposed : Bits → Bits → Bits → Type 0
IsComposed first second new = IsOf first.rows second.columns (Joins first second) new

-- the fourth has in the row what the first and the second join too
abbrev pub IsWithRow : (row : ℕ) → Bits → Bits → Bits → Bits → Type 0
IsWithRow row first second old new =
    HasPairs old (λ r c. IsSet old r c ⊎ ((r ≡ row) × Joins first second r c)) new
