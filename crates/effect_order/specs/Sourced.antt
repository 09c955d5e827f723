-- What ties a law of histories to a run, so that the source order of the run's items is a history by that law.
use Rattle.std.specs.Prelude.{◌≡◌, ◌<◌, List, Bool, true, ltb}
use Rattle.sc_base.specs.declared.value.Place.{Place}
use Rattle.sc_base.specs.declared.value.Value.{Value}
use Rattle.effect_order.specs.Items.{Shows, items_conflict}
use Rattle.effect_order.specs.Lists.{In, Pairs, IsDistinct}
use Rattle.effect_order.specs.Order.{Edge}
use Rattle.effect_order.specs.Run.{Run, story}
use Rattle.effect_order.specs.Greedy.{ordered, AllowedIs}

-- the first takes effect before the second in the run
abbrev pub sooner : {E S : Type 0} → Run E S → E → E → Bool
sooner r a b = ltb (r.time a) (r.time b)

-- the source order of the run's items, by a law of histories
abbrev pub source_order : {E S : Type 0} → Run E S → (List E → E → Bool) → List E → List E
source_order r allowed all = ordered r.does (sooner r) allowed all

-- all: the run's items, where they conflict in the order of the run. allowed: the law of histories. needs: by that law
-- the first item has to come before the second.
pub record Tied {E S : Type 0}
    (r : Run E S) (start : Place → Value) (needs : E → E → Bool) (allowed : List E → E → Bool)
    (all : List E) : Type 0 where
  -- the list has items of the run
  pub member : (x : E) → In x all → r.Member x
  -- what an item needs must come before it
  pub needs_edge : (a b : E) → r.Member a → r.Member b → needs a b ≡ true → Edge (story r) a b
  -- conflicting items stand in the order of the run
  pub in_order : Pairs (λ a b. items_conflict r.does a b ≡ true → r.time a < r.time b) all
  -- no item stands twice
  pub distinct : IsDistinct all
  -- the run's reads show the last write before them
  pub shows : Shows r.does start all
  -- the law allows what has all that it needs and shows what is held
  pub allowed_is : AllowedIs r.does start (sooner r) needs allowed all
