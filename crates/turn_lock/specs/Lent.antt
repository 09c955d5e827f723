-- A turn after a write to its value, as `value_mut` of src/lock.rt promises it.
-- It follows the borrows of Rust: when the borrow ends, what it lent has what was written last.
use denote.RattleType.{RattleType}
use Rattle.std.specs.Borrow.{Lends, MutBor, Fml}
use Rattle.turn_lock.specs.contracts.lock.Turn.{the_row}

-- the turn ends with the last value behind r
abbrev pub LendsValue : (R : RattleType) → MutBor R.Denot → MutBor R.Denot → Fml
LendsValue R s r = Lends (the_row R) R s r (λ w. w)
