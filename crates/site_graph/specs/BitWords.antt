-- How rows of bits are kept: each row in words of 64 bits, the lowest bit first.
use Rattle.std.specs.Prelude.{◌≡◌, ◌⊎◌, ℕ, ◌+◌, ◌*◌, ◌/◌, ◌%◌, ◌^◌, ◌≤◌, ◌<◌, Bool, true, false, List, map, filter, flat_map, length, slice_index, nat_eq, bit_or}
use Rattle.std.specs.List.{range_with_len}
use Rattle.site_graph.specs.declared.bit_rows.BitRows.TheInside.{Inside}
use Rattle.site_graph.specs.Bits.{Bits}

abbrev pub words_a_row : (columns : ℕ) → ℕ
words_a_row columns = (columns + 63) / 64

-- whether the bit of the word is set
abbrev pub bit_of : (word bit : ℕ) → Bool
bit_of word bit = nat_eq ((word / 2 ^ bit) % 2) 1

abbrev pub is_set : Inside → (row column : ℕ) → Bool
is_set inside row column =
    bit_of (slice_index inside.words.items (row * words_a_row inside.columns + column / 64)) (column % 64)

abbrev pub set_in_row : Inside → (row : ℕ) → List (ℕ × ℕ)
set_in_row inside row = map (λ column. (row, column)) (filter (is_set inside row) (range_with_len 0 inside.columns))

abbrev pub bits_of : Inside → Bits
bits_of inside = record {
  rows = inside.rows;
  columns = inside.columns;
  set = flat_map (set_in_row inside) (range_with_len 0 inside.rows);
}

-- there are words for all rows, and past the last column no bit is set
pub record AreRows (inside : Inside) : Type 0 where
  pub many : length inside.words.items ≡ inside.rows * words_a_row inside.columns
  pub rest : (row column : ℕ) → row < inside.rows → inside.columns ≤ column →
      column < 64 * words_a_row inside.columns →
      is_set inside row column ≡ false

-- ---- changes of words

-- a bit is set in the second word that is not set in the first
abbrev pub Adds : (word more : ℕ) → Type 0
Adds word more = (n : ℕ) × (n < 64) × (bit_of more n ≡ true) × (bit_of word n ≡ false)

-- the second list is the first, with the bits of `more` in the words from the place `to` on
pub record AreAdded (to width : ℕ) (more : ℕ → ℕ) (old new : List ℕ) : Type 0 where
  pub same_length : length new ≡ length old
  pub inside : (k : ℕ) → k < width → slice_index new (to + k) ≡ bit_or (slice_index old (to + k)) (more k)
  pub outside : (k : ℕ) → (k < to) ⊎ (to + width ≤ k) → slice_index new k ≡ slice_index old k
