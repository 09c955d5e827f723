-- The run that a list of picks makes: each pick names the next move, and the run is over when no move is left.
use Rattle.std.specs.Prelude.{◌≡◌, ℕ, ◌%◌, List, [], ◌∷◌, length, reverse, slice_get, Some}
use Rattle.sc_isa.specs.declared.journal.Entry.{Entry}
use Rattle.fabric.specs.Asked.{Machine}
use Rattle.run_moves.specs.Moves.{moves}

-- each entry is the move that the next pick names, modulo the number of moves
abbrev pub IsPicked : Machine → (picks : ℕ → ℕ) → List Entry → Type 0
IsPicked machine picks [] = Unit {0}
IsPicked machine picks (entry ∷ past) =
    (slice_get (moves machine past) (picks (length past) % length (moves machine past)) ≡ Some entry)
    × IsPicked machine picks past

-- the journal of the run by these picks
pub record IsSimulation (machine : Machine) (picks : ℕ → ℕ) (journal : List Entry) : Type 0 where
  pub picked : IsPicked machine picks (reverse journal)
  pub is_over : moves machine (reverse journal) ≡ []
