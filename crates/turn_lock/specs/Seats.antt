-- What contracts see of a lock and of its seats: lanes, seen lists and own lists.
-- docs/contracts.md, "The turn lock", says the same in prose; there is no other public source.
use Rattle.std.specs.Prelude.{◌≡◌, ◌≢◌, ℕ, ◌<◌, ◌≤◌, ◌%◌, ◌^◌, ◌⊎◌, Bool, true, false, List, [], ◌∷◌, ◌++◌, length, Option, None}
use Rattle.atomic_table.specs.Seated.{TableId}
use Rattle.atomic_table.specs.declared.shared.Seat.{Seat}
use Rattle.turn_lock.specs.declared.rule.View.{View}
use Rattle.turn_lock.specs.declared.rule.Stage.{Stage}
use Rattle.turn_lock.specs.declared.rule.Stage.TheVariants.{Idle, Waiting, Holding}
use Rattle.turn_lock.specs.Words.{of_lane, times}

-- what a lock is seen as
pub record Lock : Type 0 where
  -- which lock it is
  pub id : TableId
  -- the number of its lanes
  pub lanes : ℕ

-- what a seat is seen as
pub record Known (E : Type 0) : Type 0 where
  -- which lock it is of
  pub lock : TableId
  -- its number among the seats of its lock
  pub number : ℕ
  -- the list that it has seen
  pub seen : List E
  -- the lanes that it owns
  pub lanes : List ℕ
  -- whether it has a turn out
  pub out : Bool

-- whether a seat in this stage has a turn out
abbrev pub is_out : Stage → Bool
is_out Idle = false
is_out (Waiting t) = false
is_out (Holding t) = true

module _ {T : Type 0} where
  -- the slot is with the seat, and empty, while it has a turn out
  abbrev pub InHand : Stage → List (ℕ × Option T) → Type 0
  InHand Idle slots = slots ≡ []
  InHand (Waiting t) slots = ⊥
  InHand (Holding t) slots = slots ≡ (0, None) ∷ []

module _ {T E : Type 0} where
  -- what a seat is seen as, from the table's seat
  abbrev pub known : Seat (Option T) (View E) → Known E
  known s = record {
    lock = s.table_id;
    number = s.id;
    seen = s.me.0.seen;
    lanes = s.me.0.lanes;
    out = is_out s.me.0.stage;
  }

  -- between calls a seat owns a lane, and has the slot exactly during a turn
  abbrev pub IsWhole : Seat (Option T) (View E) → Type 0
  IsWhole s = (0 < length s.me.0.lanes) × InHand s.me.0.stage s.me.1

  -- the seat has the slot, and this in it
  abbrev pub HasSlot : Seat (Option T) (View E) → Option T → Type 0
  HasSlot s x = s.me.1 ≡ (0, x) ∷ []

  -- the seat waits for a turn with the ticket n
  abbrev pub WaitsFor : Seat (Option T) (View E) → ℕ → Type 0
  WaitsFor s n = (t : ℕ) × (s.me.0.stage ≡ Waiting t) × (n ≡ t % 2 ^ 64)

  -- the same seat of the same table, before and after
  abbrev pub IsSameInner : Seat (Option T) (View E) → Seat (Option T) (View E) → Type 0
  IsSameInner s s' = (s'.table_id ≡ s.table_id) × (s'.id ≡ s.id)

module _ {E : Type 0} where
  -- the seat owns the lane k
  abbrev pub Owns : Known E → ℕ → Type 0
  Owns s k = 0 < times k s.lanes

  -- the seat owns every lane of the lock
  abbrev pub OwnsAll : Lock → Known E → Type 0
  OwnsAll lock s = (k : ℕ) → k < lock.lanes → Owns s k

  -- an entry of the lane k may be added: the lane is common, or the seat owns it
  abbrev pub MayAdd : Lock → Known E → ℕ → Type 0
  MayAdd lock s k = (lock.lanes ≤ k) ⊎ Owns s k

  -- the seat's own list for the lane k: what it has seen of that lane
  abbrev pub own_list : (E → ℕ) → Known E → ℕ → List E
  own_list lane s k = of_lane lane k s.seen

  -- each lane that the seat owns is, in the list es, the seat's own list: each entry once, in order
  abbrev pub KeepsOwn : (E → ℕ) → Known E → List E → Type 0
  KeepsOwn lane s es = (k : ℕ) → Owns s k → of_lane lane k es ≡ own_list lane s k

  -- the own list of the entry's lane gets the entry, and the others stay
  pub record AddsOwn (lane : E → ℕ) (s s' : Known E) (e : E) : Type 0 where
    -- the entry is last in its lane
    pub here : own_list lane s' (lane e) ≡ own_list lane s (lane e) ++ e ∷ []
    -- every other lane is as it was
    pub others : (k : ℕ) → k ≢ lane e → own_list lane s' k ≡ own_list lane s k
