-- How a search opens points: it sets those to which an edge leads, and lists those that it had not set before.
use Rattle.std.specs.Prelude.{◌≡◌, ◌⊎◌, ◌↔◌, ℕ, zero, suc, ◌+◌, ◌<◌, ◌≤◌, List, [], ◌∷◌, Bool, false, ◌==◌, ◌&&◌, ◌||◌, Some, length, slice_get, Contains, if◌then◌else◌}
use Rattle.site_graph.specs.declared.flow.Edge.{Edge}
use Rattle.site_graph.specs.Bits.{Bits, IsSet}
use Rattle.site_graph.specs.Graph.{Graph}
use Rattle.site_graph.specs.Ways.{Goes}

-- one of the edges from number `from` to below number `to` leads to the point
abbrev pub IsTarget : List Edge → (from to : ℕ) → (point : ℕ) → Type 0
IsTarget edges from to t =
    (k : ℕ) × (e : Edge) × (from ≤ k) × (k < to) × (slice_get edges k ≡ Some e) × (e.to ≡ t)

-- an edge leads to the point from one of the first `count` starts
abbrev pub IsBegunBefore : Graph → (starts : List ℕ) → (count : ℕ) → (point : ℕ) → Type 0
IsBegunBefore graph starts count t = (k a : ℕ) × (k < count) × (slice_get starts k ≡ Some a) × Goes graph a t

-- whether the pair is in the list
abbrev pub has : List (ℕ × ℕ) → (row column : ℕ) → Bool
has [] r c = false
has (p ∷ ps) r c = ((p.0 == r) && (p.1 == c)) || has ps r c

-- how many of so many columns are not set in the first row
abbrev pub unset : Bits → (columns : ℕ) → ℕ
unset bits zero = 0
unset bits (suc n) = unset bits n + (if has bits.set 0 n then 0 else 1)

-- the points with T are set in the first row, and those that were not set before are added to the list
pub record IsOpened (T : ℕ → Type 0) (old new : Bits) (before after : List ℕ) : Type 0 where
  pub same_rows : new.rows ≡ old.rows
  pub same_columns : new.columns ≡ old.columns
  pub pairs : (r c : ℕ) → IsSet new r c ↔ (IsSet old r c ⊎ ((r ≡ 0) × T c))
  pub kept : (t : ℕ) → Contains before t → Contains after t
  pub opened : (t : ℕ) → IsSet new 0 t → IsSet old 0 t ⊎ Contains after t
  pub listed : (t : ℕ) → Contains after t → Contains before t ⊎ IsSet new 0 t
  -- each that is listed is one that was not set
  pub left : unset new new.columns + length after ≡ unset old old.columns + length before
