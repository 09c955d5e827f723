-- The rule of the turn lock over its table of words and one slot, and what each of its steps tells.
-- Word 0 is the next ticket, word 1 the ticket that is served, both modulo 2^64, and word 2 the length of the list. The
-- slot has the value. Tickets are those of the ticket lock (Mellor-Crummey and Scott, "Algorithms for Scalable
-- Synchronization on Shared-Memory Multiprocessors", 1991); docs/contracts.md, "The turn lock", says the rest in prose.
use Rattle.std.specs.Prelude.{◌≡◌, ◌≢◌, ℕ, ◌+◌, ◌%◌, ◌^◌, ◌<◌, ◌≤◌, Bool, true, false, List, [], ◌∷◌, ◌++◌, length, nat_le, Option, Some, ◌==◌}
use mathlib.Core.Option.{some, none}
use mathlib.Core.List.{IsPrefix}
use lib.ListN.{get_elem?}
use Rattle.std.specs.List.{range_with_len}
use Rattle.atomic_table.specs.Table.{State, Me, Step, rest}
use Rattle.turn_lock.specs.declared.rule.View.{View}
use Rattle.turn_lock.specs.declared.rule.Stage.{Stage}
use Rattle.turn_lock.specs.declared.rule.Stage.TheVariants.{Idle, Waiting, Holding}
use Rattle.turn_lock.specs.Words.{of_lane, ClosesLast, mark, times, total, least, without}

-- 1 where the stage has the ticket t
abbrev pub has_this : ℕ → Stage → ℕ
has_this t Idle = 0
has_this t (Waiting a) = mark (a == t)
has_this t (Holding a) = mark (a == t)

-- 1 where the stage has some ticket
abbrev pub has_one : Stage → ℕ
has_one Idle = 0
has_one (Waiting a) = 1
has_one (Holding a) = 1

-- 1 where the stage has the turn
abbrev pub has_turn : Stage → ℕ
has_turn Idle = 0
has_turn (Waiting a) = 0
has_turn (Holding a) = 1

-- the ticket of a stage that has one
abbrev pub ticket_of : Stage → ℕ
ticket_of Idle = 0
ticket_of (Waiting a) = a
ticket_of (Holding a) = a

module _ {E : Type 0} where
  -- a view that was told nothing by another
  abbrev pub view : List E → List ℕ → Stage → View E
  view seen lanes stage = record { seen = seen; lanes = lanes; stage = stage; told = []; told_lanes = [] }

  -- the first seat has seen the empty list and owns every lane
  abbrev pub newcomer : ℕ → View E
  newcomer lanes = view [] (range_with_len 0 lanes) Idle

  -- a split gives the new seat the least lane
  abbrev pub given : View E → View E
  given v = view v.seen (least v.lanes ∷ []) Idle

  -- and leaves the other lanes
  abbrev pub left : View E → View E
  left v = view v.seen (without (least v.lanes) v.lanes) Idle

  -- the lanes of both, and the second's list where the test is true. The other list is what it was told
  abbrev pub put_together : Bool → View E → View E → View E
  put_together true v w = record {
    seen = w.seen;
    lanes = v.lanes ++ w.lanes;
    stage = Idle;
    told = v.seen;
    told_lanes = v.lanes;
  }
  put_together false v w = record {
    seen = v.seen;
    lanes = v.lanes ++ w.lanes;
    stage = Idle;
    told = w.seen;
    told_lanes = w.lanes;
  }

  -- a join puts the lanes together and keeps the longer list
  abbrev pub both : View E → View E → View E
  both v w = put_together (nat_le (length v.seen) (length w.seen)) v w

  -- the joined seat owns no lane
  abbrev pub spent : View E
  spent = view [] [] Idle

  -- a view with a ticket owns a lane, and one with the turn has seen the whole list
  abbrev pub InStage : List E → ℕ → List E → List ℕ → Stage → Type 0
  InStage log serving seen lanes Idle = Unit {0}
  InStage log serving seen lanes (Waiting t) = 0 < length lanes
  InStage log serving seen lanes (Holding t) = (0 < length lanes) × (t ≡ serving) × (seen ≡ log)

-- what holds of one view, where log is the list and serving the ticket that is served
pub record Fits {E : Type 0} (lane : E → ℕ) (log : List E) (serving : ℕ) (v : View E) : Type 0 where
  -- what it has seen begins the list
  pub before : IsPrefix v.seen log
  -- each lane that it owns it has seen whole
  pub own : (k : ℕ) → 0 < times k v.lanes → of_lane lane k v.seen ≡ of_lane lane k log
  -- it has what its stage says
  pub stage : InStage log serving v.seen v.lanes v.stage
  -- what it was told begins the list
  pub told : IsPrefix v.told log
  -- the lanes that came with it are its own now
  pub told_mine : (k : ℕ) → times k v.told_lanes ≤ times k v.lanes
  -- and were told whole
  pub told_own : (k : ℕ) → 0 < times k v.told_lanes → of_lane lane k v.told ≡ of_lane lane k log

-- the rule: what holds of the table between any two steps
pub record Kept {T E : Type 0} (entries : T → List E) (lane : E → ℕ) (closes : E → Bool) (lanes : ℕ)
    (s : State (Option T) (View E)) : Type 0 where
  -- the list
  pub log : List E
  -- the next ticket
  pub next : ℕ
  -- the ticket that is served
  pub serving : ℕ
  -- the lanes are few enough for tickets modulo 2^64 to differ
  pub few : lanes < 2 ^ 32
  -- the length of the list is a u64
  pub short : length log < 2 ^ 64
  -- an entry that closes is the last of its lane
  pub ends : ClosesLast lane closes log
  -- the words are the tickets modulo 2^64 and the length
  pub words : s.words ≡ next % 2 ^ 64 ∷ serving % 2 ^ 64 ∷ length log ∷ []
  -- as many views have a ticket as were drawn and not served to the end
  pub waiting : serving + total (λ v. has_one v.stage) s.views ≡ next
  -- each ticket from the served one on is with exactly one view
  pub held : (t : ℕ) → serving ≤ t → t < next → total (λ v. has_this t v.stage) s.views ≡ 1
  -- a ticket before it is with none
  pub past : (t : ℕ) → t < serving → total (λ v. has_this t v.stage) s.views ≡ 0
  -- a ticket that was not drawn is with none
  pub ahead : (t : ℕ) → next ≤ t → total (λ v. has_this t v.stage) s.views ≡ 0
  -- each lane is owned by exactly one view
  pub owned : (k : ℕ) → k < lanes → total (λ v. times k v.lanes) s.views ≡ 1
  -- a common lane is owned by none
  pub common : (k : ℕ) → lanes ≤ k → total (λ v. times k v.lanes) s.views ≡ 0
  -- all lanes are owned
  pub all_owned : total (λ v. length v.lanes) s.views ≡ lanes
  -- each view fits the list and the ticket that is served
  pub each_view : (i : ℕ) (v : View E) → get_elem? s.views i ≡ some v → Fits lane log serving v
  -- while no view has the turn, the value is at home and stands for the list
  pub home : total (λ v. has_turn v.stage) s.views ≡ 0
      → (value : T) × (s.homes ≡ some (Some value) ∷ []) × (entries value ≡ log)
  -- while one has it, the slot is away
  pub away : 0 < total (λ v. has_turn v.stage) s.views → s.homes ≡ none ∷ []

-- a seat's view, and the slots that it has
abbrev pub Sat : Type 0 → Type 0 → Type 0
Sat T E = Me (Option T) (View E)

module _ {T E : Type 0} where
  -- a ticket was drawn
  abbrev pub drew : Step (Option T) → Sat T E → ℕ → Sat T E → Type 0
  drew st m r m' = (t : ℕ) × (r ≡ t % 2 ^ 64) × (m' ≡ (view m.0.seen m.0.lanes (Waiting t), m.1))

  -- the seat has the turn, and with it the slot, whose value's list it has then seen
  pub record Gains (entries : T → List E) (lane : E → ℕ) (closes : E → Bool) (t : ℕ)
      (m m' : Sat T E) : Type 0 where
    -- the value
    pub value : T
    -- the seat after the step
    pub is : m' ≡ (view (entries value) m.0.lanes (Holding t), (0, Some value) ∷ m.1)
    -- the value's list begins with all that was seen
    pub begins : IsPrefix m.0.seen (entries value)
    -- each lane that the seat owns is as the seat saw it
    pub own : (k : ℕ) → 0 < times k m.0.lanes → of_lane lane k (entries value) ≡ of_lane lane k m.0.seen
    -- an entry that closes is the last of its lane
    pub ends : ClosesLast lane closes (entries value)

  -- it gains the turn exactly where the ticket that is served is its own
  abbrev pub looked : (T → List E) → (E → ℕ) → (E → Bool) → Step (Option T) → Sat T E → ℕ →
      Sat T E → Type 0
  looked entries lane closes st m r m' = (t : ℕ) → m.0.stage ≡ Waiting t
      → (r ≡ t % 2 ^ 64 → Gains entries lane closes t m m') × (r ≢ t % 2 ^ 64 → m' ≡ m)

  -- the entries that were said stand last in the list
  abbrev pub published : List E → Step (Option T) → Sat T E → ℕ → Sat T E → Type 0
  published said st m r m' = m' ≡ (view (m.0.seen ++ said) m.0.lanes m.0.stage, m.1)

  -- the turn and the slot were given up
  abbrev pub passed : Step (Option T) → Sat T E → ℕ → Sat T E → Type 0
  passed st m r m' = m' ≡ (view m.0.seen m.0.lanes Idle, rest m.1)

  -- what it was told begins what it has seen, and has the same entries in the lanes that came with it
  abbrev pub heard : (E → ℕ) → Step (Option T) → Sat T E → ℕ → Sat T E → Type 0
  heard lane st m r m' = (m' ≡ (view m.0.seen m.0.lanes Idle, m.1)) × IsPrefix m.0.told m.0.seen
      × ((k : ℕ) → 0 < times k m.0.told_lanes → of_lane lane k m.0.seen ≡ of_lane lane k m.0.told)
