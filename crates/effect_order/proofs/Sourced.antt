-- The order that a relation without cycles gives: it takes every item, each after those that have to come before it, and
-- shows the same values.
use Rattle.std.proofs.Common.{◌⊎◌, List, [], ◌∷◌, ◌++◌, length, subst, inl, inr, ⊎_elim, le_refl, Bool, true, ◌≡◌}
use Rattle.sc_base.specs.declared.value.Place.{Place}
use Rattle.sc_base.specs.declared.value.Value.{Value}
use Rattle.effect_order.specs.Effect.{Effect}
use Rattle.effect_order.specs.Items.{Shows}
use Rattle.effect_order.specs.Lists.{In, Each, Pairs}
use Rattle.effect_order.specs.Walk.{HasNoCycle}
use Rattle.effect_order.specs.Greedy.{Reorder, Lawful, IsSourced, Among}
use Rattle.effect_order.proofs.Members.{each-map, each-self, in-cases, not_held}
use Rattle.effect_order.proofs.Taken.{greedy, greedy_takes_all}
use Rattle.effect_order.proofs.Moved.{Keeps, reorder_shows}

-- every item that was left is taken
pub reorder_in : {X : Type 0} (before : X → X → Bool) (out left : List X) (a : X) → Reorder before left out → In a left → In a out
reorder_in before [] left a r i = subst (In a) r i
reorder_in before (x ∷ out) left a r i =
    ⊎_elim (λ q. inl q) (λ q. inr (reorder_in before out (r.0 ++ r.1) a r.4 q)) (in-cases r.0 x r.1 a (subst (In a) r.2 i))

pub reorder_lawful : {X : Type 0} (before : X → X → Bool) (all out left past : List X) → Each (λ a. In a past ⊎ In a left) all → Reorder before left out → Lawful before all past out
reorder_lawful before all [] left past e r = tt
reorder_lawful {X} before all (x ∷ out) left past e r = (each-map _ _ all now e, reorder_lawful before all out (r.0 ++ r.1) (x ∷ past) (each-map _ _ all next e) r.4)
  where
    now : (a : X) → In a past ⊎ In a left → before a x ≡ true → In a past
    now a (inl i) t = i
    now a (inr i) t = absurd (not_held before x left a r.3 i t)

    next : (a : X) → In a past ⊎ In a left → In a (x ∷ past) ⊎ In a (r.0 ++ r.1)
    next a (inl i) = inl (inr i)
    next a (inr i) = ⊎_elim (λ q. inl (inl q)) (λ q. inr q) (in-cases r.0 x r.1 a (subst (In a) r.2 i))

pub greedy_sourced : {X : Type 0} (before : X → X → Bool) (does : X → List Effect) (m : Place → Value) (all : List X) → HasNoCycle (Among before all) → Pairs (Keeps does before) all → Shows does m all → IsSourced does m before all (greedy before (length all) all)
greedy_sourced {X} before does m all none keeps shows =
    let r = greedy_takes_all before all none (length all) all (each-self (λ x. In x all) all (λ x i. i)) (le_refl _) in
    let s = reorder_shows does before (greedy before (length all) all) all m keeps r shows in
    record {
      reorder = r;
      lawful = reorder_lawful before all (greedy before (length all) all) all [] (each-self _ all (λ x i. inr i)) r;
      shows = s.0;
      memory = s.1;
    }
