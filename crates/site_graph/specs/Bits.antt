-- A relation between the numbers below two sizes, as the list of its pairs.
use Rattle.std.specs.Prelude.{◌≡◌, ◌⊎◌, ◌↔◌, ℕ, ◌<◌, List, [], Bool, ◌==◌, ◌&&◌, ◌||◌, ltb, Contains}
use Rattle.site_graph.specs.Rising.{IsRising}

pub record Bits : Type 0 where
  pub rows : ℕ
  pub columns : ℕ
  pub set : List (ℕ × ℕ)

-- by row, and then by column
abbrev pub pair_before : ℕ × ℕ → ℕ × ℕ → Bool
pair_before p q = ltb p.0 q.0 || ((p.0 == q.0) && ltb p.1 q.1)

abbrev pub IsSet : Bits → (row column : ℕ) → Type 0
IsSet bits row column = Contains bits.set (row, column)

-- What all rows of bits keep: the pairs stand in order, each once, and within the sizes.
pub record AreInOrder (bits : Bits) : Type 0 where
  pub rise : IsRising pair_before bits.set
  pub within : (row column : ℕ) → IsSet bits row column → (row < bits.rows) × (column < bits.columns)

-- without a pair
abbrev pub no_bits : (rows columns : ℕ) → Bits
no_bits rows columns = record { rows = rows; columns = columns; set = [] }

-- of these sizes, with the pairs that the relation has within them
pub record IsOf (rows columns : ℕ) (R : ℕ → ℕ → Type 0) (bits : Bits) : Type 0 where
  pub same_rows : bits.rows ≡ rows
  pub same_columns : bits.columns ≡ columns
  pub pairs : (row column : ℕ) → IsSet bits row column ↔ ((row < rows) × (column < columns) × R row column)

-- the second is the first with this pair
pub record IsWith (row column : ℕ) (old new : Bits) : Type 0 where
  pub same_rows : new.rows ≡ old.rows
  pub same_columns : new.columns ≡ old.columns
  pub pairs : (r c : ℕ) → IsSet new r c ↔ (IsSet old r c ⊎ ((r ≡ row) × (c ≡ column)))

-- the second is the first with what is set in the row `from` in the row `row` too
pub record IsJoined (row from : ℕ) (old new : Bits) : Type 0 where
  pub same_rows : new.rows ≡ old.rows
  pub same_columns : new.columns ≡ old.columns
  pub pairs : (r c : ℕ) → IsSet new r c ↔ (IsSet old r c ⊎ ((r ≡ row) × IsSet old from c))

-- something is set in the row `from` that is not set in the row `row`
abbrev pub Gains : (row from : ℕ) → Bits → Type 0
Gains row from bits = (column : ℕ) × IsSet bits from column × (IsSet bits row column → ⊥)

-- the second is the first with what is set both in the row `a_row` of a and in the row `b_row` of b in the row `row`
-- too
pub record IsWithCommon (row : ℕ) (a : Bits) (a_row : ℕ) (b : Bits) (b_row : ℕ) (old new : Bits) : Type 0 where
  pub same_rows : new.rows ≡ old.rows
  pub same_columns : new.columns ≡ old.columns
  pub pairs : (r c : ℕ) → IsSet new r c ↔ (IsSet old r c ⊎ ((r ≡ row) × IsSet a a_row c × IsSet b b_row c))
