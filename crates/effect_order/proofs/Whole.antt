-- Where what must come before what in a run has no cycle, the source order of its items takes all of them, and shows
-- the run's values and memory.
use Rattle.std.proofs.Common.{◌≡◌, ◌<◌, List, ltb-true, lt-ltb, ◌&&◌, ⊎_elim, Bool, true}
use Rattle.std.proofs.lemmas.Bool.{or_cases, and_parts}
use Rattle.sc_base.specs.declared.value.Place.{Place}
use Rattle.sc_base.specs.declared.value.Value.{Value}
use Rattle.effect_order.specs.Items.{items_conflict}
use Rattle.effect_order.specs.Order.{Before, Acyclic}
use Rattle.effect_order.specs.Order.Edge.{ByConflict}
use Rattle.effect_order.specs.Run.{Run, story}
use Rattle.effect_order.specs.Greedy.{comes_before, Among, Orderable, IsSourced}
use Rattle.effect_order.specs.Sourced.{sooner, source_order, Tied}
use Rattle.effect_order.proofs.Members.{pairs-map}
use Rattle.effect_order.proofs.Walks.{no_cycle-map}
use Rattle.effect_order.proofs.Ordered.{orderable_sourced}

module _ {E S : Type 0} (r : Run E S) (none : Acyclic (story r)) (start : Place → Value) (needs : E → E → Bool) (allowed : List E → E → Bool) (all : List E) (t : Tied r start needs allowed all) where
  edge : (a b : E) → Among (comes_before r.does (sooner r) needs) all a b → Before (story r) a b
  edge a b h =
      let ma = t.member a h.0 in
      let mb = t.member b h.1 in (
        ma,
        mb,
        ⊎_elim
            (λ n. t.needs_edge a b ma mb n)
            (λ c. let p = and_parts (items_conflict r.does a b) (sooner r a b) c in ByConflict p.0 (ltb-true _ _ p.1))
            (or_cases (needs a b) (items_conflict r.does a b && sooner r a b) h.2),
      )

  sooner_is : (a b : E) → (items_conflict r.does a b ≡ true → r.time a < r.time b) → items_conflict r.does a b ≡ true → sooner r a b ≡ true
  sooner_is a b f c = lt-ltb _ _ (f c)

  pub orderable : Orderable r.does start (sooner r) needs allowed all
  orderable = record {
    no_cycle = no_cycle-map _ (Before (story r)) edge none;
    distinct = t.distinct;
    in_order = pairs-map _ _ sooner_is all t.in_order;
    shows = t.shows;
    allowed_is = t.allowed_is;
  }

  pub sourced : IsSourced r.does start (comes_before r.does (sooner r) needs) all (source_order r allowed all)
  sourced = orderable_sourced r.does start (sooner r) needs allowed all orderable
