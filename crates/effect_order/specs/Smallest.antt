-- The smallest instance: nodes that read and write cells, each access over before the node's next one begins. It shows
-- that what the laws ask for can be met, and how a law of histories is tied to a run.
use Rattle.std.specs.Prelude.{◌≡◌, ℕ, suc, ◌<◌, List, [], ◌∷◌, length, filter, Bool, true, false, ◌==◌, ◌&&◌, ◌||◌}
use Rattle.sc_base.specs.declared.value.Place.{Place}
use Rattle.sc_base.specs.declared.value.Value.{Value}
use Rattle.effect_order.specs.Effect.{Effect, same_value, held}
use Rattle.effect_order.specs.Items.{Shows}
use Rattle.effect_order.specs.Lists.{In, Pairs}
use Rattle.effect_order.specs.Flow.{Flow}
use Rattle.effect_order.specs.Run.{Run}
use Rattle.effect_order.specs.Plan.{Code}
use Rattle.effect_order.specs.Prefix.{OwnSteps}

-- the access is of the node
abbrev pub is_of : ℕ → Effect → Bool
is_of p e = e.node == p

-- the first is its node's access before the second
abbrev pub is_next : Effect → Effect → Bool
is_next a e = (a.node == e.node) && (suc a.number == e.number)

-- an item is one effect
abbrev pub alone : Effect → List Effect
alone e = e ∷ []

-- the law of histories: the access is its node's next, and a read shows what its place holds
abbrev pub is_allowed : (Place → Value) → List Effect → Effect → Bool
is_allowed start past e =
    (length (filter (is_of e.node) past) == e.number) && (e.wrote || same_value e.value (held start e.place past))

-- accesses in the order of their times, each over before its node's next one. own p k: the k-th access of node p.
pub record OneByOne
    (nodes : ℕ) (start : Place → Value) (time : Effect → ℕ) (own : ℕ → ℕ → Effect)
    (all : List Effect) : Type 0 where
  -- there are so many nodes
  pub within : (e : Effect) → In e all → e.node < nodes
  -- the nodes' accesses are numbered from 0
  pub steps : OwnSteps is_of (λ e. e.number) own is_next all
  -- a node's accesses take place in the order of their numbers
  pub numbered : (e f : Effect) → In e all → In f all → e.node ≡ f.node → e.number < f.number →
      time e < time f
  -- the list is in the order of the times
  pub in_time : Pairs (λ a b. time a < time b) all
  -- each read shows the last write before it
  pub shows : Shows alone start all

-- one blocking site, which leads to itself and may conflict with itself
abbrev pub one_site : Flow (Unit {0})
one_site = record {
  Goes = λ a b. Unit {0};
  is_barrier = λ a. false;
  is_sync = λ a. false;
  is_blocking = λ a. true;
  is_split = λ a. false;
  may_go_one_way = λ a. false;
  OwnConflict = λ a b. Unit {0};
  Across = λ a b. Unit {0};
  Meets = λ a b. Unit {0};
}

-- the run: each access is issued at the moment at which it takes effect
abbrev pub small_run : (Effect → ℕ) → List Effect → Run Effect (Unit {0})
small_run time all = record {
  Member = λ e. In e all;
  is_effect = λ e. true;
  is_release = λ e. false;
  node = λ e. e.node;
  step = λ e. e.number;
  issue = time;
  time = time;
  point = λ e. tt;
  releases = λ t. false;
  does = alone;
  flow = one_site;
}

-- its code: each access demands that the earlier ones are over
abbrev pub small_code : (nodes : ℕ) (time : Effect → ℕ) (own : ℕ → ℕ → Effect) (all : List Effect) →
    Code (small_run time all)
small_code nodes time own all = record {
  Demand = λ a b. Unit {0};
  is_one_way = λ a. false;
  is_arrival = λ e. false;
  awaits_stores = λ e. false;
  is_placed = λ e. true;
  way = λ p i. tt;
  at = λ e. e.number;
  enters = λ p i. time (own p i);
  nodes = nodes;
  arrives = λ p t. false;
  passes = λ p t. false;
  issues = λ p t. true;
}
