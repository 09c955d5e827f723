-- The smallest run with a barrier. Each of two nodes copies its cell `a` to the other's cell `b` by a split copy,
-- stores into the cell `c` of node 0, syncs, writes the other's cell `d`, waits at a barrier for all stores, reads its
-- own `d` and `b`, and ends. The plan sends the write one-way. The second store takes effect first, and both writes
-- after the arrivals.
use Rattle.std.specs.Prelude.{◌≡◌, ◌⊎◌, ℕ, zero, suc, ◌+◌, List, [], ◌∷◌, ltb, pos}
use Rattle.std.specs.Prelude.{Bool, true, false, not, ◌==◌, ◌&&◌, ◌||◌, if◌then◌else◌}
use Rattle.sc_base.specs.declared.value.Place.{Place}
use Rattle.sc_base.specs.declared.value.Value.{Value}
use Rattle.sc_base.specs.declared.value.Value.TheVariants.{Int}
use Rattle.effect_order.specs.Effect.{Effect}
use Rattle.effect_order.specs.Lists.{In}
use Rattle.effect_order.specs.Flow.{Flow, Delay}
use Rattle.effect_order.specs.Run.{Run}
use Rattle.effect_order.specs.Plan.{Code}

-- an item of the run
pub record Row : Type 0 where
  pub number : ℕ  -- its place in the list
  pub node : ℕ  -- its node; 2 at the release
  pub step : ℕ  -- the number of its own step
  pub point : ℕ  -- the point of that
  pub issue : ℕ  -- the moment of its own step
  pub time : ℕ  -- the moment at which it takes effect
  pub is_release : Bool
  pub is_end : Bool
  pub does : List Effect  -- its effect, where it has one

-- an own step that is no effect
abbrev pub own_step : (number node step point time : ℕ) → Row
own_step number node step point time = record {
  number = number;
  node = node;
  step = step;
  point = point;
  issue = time;
  time = time;
  is_release = false;
  is_end = false;
  does = [];
}

-- the part of the node's access with this number that reads or writes the cell of that object, on that node
abbrev pub part : (number node step point issue time access : ℕ) (wrote : Bool) (object on value : ℕ) → Row
part number node step point issue time access wrote object on value = record {
  number = number;
  node = node;
  step = step;
  point = point;
  issue = issue;
  time = time;
  is_release = false;
  is_end = false;
  does = record {
    node = node;
    number = access;
    cell = 0;
    wrote = wrote;
    place = record { object = object; node = on; offset = 0 };
    value = Int (pos value);
  } ∷ [];
}

-- the release, and the end of a node
abbrev pub release : (number time : ℕ) → Row
release number time = record {
  number = number;
  node = 2;
  step = 0;
  point = 0;
  issue = time;
  time = time;
  is_release = true;
  is_end = false;
  does = [];
}

abbrev pub end_of : (number node step time : ℕ) → Row
end_of number node step time = record {
  number = number;
  node = node;
  step = step;
  point = 0;
  issue = time;
  time = time;
  is_release = false;
  is_end = true;
  does = [];
}

-- at the start the cell `a` of node p holds 5 + p, and every other cell 0
abbrev pub at_start : Place → Value
at_start place = if place.object == 0 then Int (pos (5 + place.node)) else Int (pos 0)

-- the items by time; the objects 0 to 3 are `a` to `d`
abbrev pub rows : List Row
rows =
    own_step 0 0 0 1 0 ∷ part 1 0 0 1 0 1 0 false 0 0 5 ∷ own_step 2 0 1 2 2 ∷
    own_step 3 1 0 1 3 ∷ part 4 1 0 1 3 4 0 false 0 1 6 ∷ own_step 5 1 1 2 5 ∷
    part 6 0 0 1 0 6 0 true 1 1 5 ∷ own_step 7 0 2 3 7 ∷ part 8 1 0 1 3 9 0 true 1 0 6 ∷ own_step 9 1 2 3 10 ∷
    own_step 10 0 4 5 12 ∷ own_step 11 1 4 5 13 ∷ part 12 1 3 4 11 14 2 true 3 0 4 ∷
    part 13 0 3 4 8 15 2 true 3 1 3 ∷
    part 14 1 1 2 5 16 1 true 2 0 2 ∷ part 15 0 1 2 2 17 1 true 2 0 1 ∷ release 16 18 ∷
    part 17 0 5 6 20 21 3 false 3 0 4 ∷ part 18 1 5 6 22 23 3 false 3 1 3 ∷
    part 19 0 6 7 24 25 4 false 1 0 6 ∷ part 20 1 6 7 26 27 4 false 1 1 5 ∷ end_of 21 0 7 28 ∷
    end_of 22 1 7 29 ∷ []

-- it has an effect
abbrev pub has_effect : List Effect → Bool
has_effect [] = false
has_effect (effect ∷ others) = true

-- the points: 1 the copy, 2 the store, 3 the sync, 4 the write, 5 the barrier, 6 and 7 the reads; all may conflict
abbrev pub line : Flow ℕ
line = record {
  Goes = λ a b. b ≡ suc a;
  is_barrier = λ a. a == 5;
  is_sync = λ a. a == 3;
  is_blocking = λ a. (a == 4) || ((a == 6) || (a == 7));
  is_split = λ a. a == 1;
  may_go_one_way = λ a. a == 4;
  OwnConflict = λ a b. Unit {0};
  Across = λ a b. Unit {0};
  Meets = λ a b. Unit {0};
}

abbrev pub meeting : Run Row ℕ
meeting = record {
  Member = λ e. In e rows;
  is_effect = λ e. has_effect e.does;
  is_release = λ e. e.is_release;
  node = λ e. e.node;
  step = λ e. e.step;
  issue = λ e. e.issue;
  time = λ e. e.time;
  point = λ e. e.point;
  releases = λ t. t == 18;
  does = λ e. e.does;
  flow = line;
}

-- some row passes
abbrev pub some_row : (Row → Bool) → List Row → Bool
some_row test [] = false
some_row test (e ∷ es) = test e || some_row test es

abbrev pub nth : List ℕ → ℕ → ℕ
nth [] i = 0
nth (t ∷ ts) zero = t
nth (t ∷ ts) (suc i) = nth ts i

-- the moments at which the nodes begin the points from 0
abbrev pub begins_0 : List ℕ
begins_0 = 0 ∷ 0 ∷ 2 ∷ 7 ∷ 8 ∷ 12 ∷ 20 ∷ 24 ∷ []

abbrev pub begins_1 : List ℕ
begins_1 = 0 ∷ 3 ∷ 5 ∷ 10 ∷ 11 ∷ 13 ∷ 22 ∷ 26 ∷ []

abbrev pub is_placed : Row → Bool
is_placed e = not (e.is_release || e.is_end)

abbrev pub arrives : Row → Bool
arrives e = is_placed e && (e.point == 5)

-- both nodes walk through the points in order; node 0 passes at the moment of the release, and node 1 after it
abbrev pub line_code : Code meeting
line_code = record {
  Demand = λ a t. ((t == 5) ≡ true) ⊎ Delay line a t;
  is_one_way = λ a. a == 4;
  is_arrival = arrives;
  awaits_stores = arrives;
  is_placed = is_placed;
  way = λ p i. i;
  at = λ e. e.point;
  enters = λ p i. nth (if p == 0 then begins_0 else begins_1) i;
  nodes = 2;
  arrives = λ p t. some_row (λ e. arrives e && ((e.node == p) && (e.issue == t))) rows;
  passes = λ p t. ltb p 2 && (t == 18 + p);
  issues = λ p t. some_row (λ e. is_placed e && ((e.node == p) && (e.issue == t))) rows;
}
