-- Whether along an order of the items the source allows exactly those that have all that they need and show what is
-- held, and whether what has to come before what rises in time.
use Rattle.std.proofs.Common.{ℕ, List, [], ◌∷◌, Bool, true, false}
use Rattle.std.specs.Prelude.{if◌then◌else◌, not, ◌&&◌, ◌||◌, ◌==◌, nat_lt, nat_le, reverse}
use Rattle.sc_base.specs.declared.value.Value.{Value}
use Rattle.sc_base.specs.declared.value.Place.{Place}
use Rattle.effect_order.specs.Effect.{same_value}
use Rattle.sc_meaning.specs.declared.event.SourceEvent.{SourceEvent}
use Rattle.sc_meaning.specs.declared.event.SourceEvent.TheVariants.{Do, Issue, Effect, Sync, Arrive, Release, End as Over}
use Rattle.sc_meaning.specs.Below.{all_below}
use Rattle.sc_meaning.specs.Past.{Processes, shown}
use Rattle.sc_isa.specs.declared.journal.Entry.{Entry}
use Rattle.fabric.specs.Asked.{Machine}
use Rattle.source_order.specs.Moments.{does, same_part, time}
use Rattle.source_order.specs.Items.{items, may_follow, source_order}
use Rattle.source_order.specs.Needs.{needs, before}
use Rattle.source_order.proofs.Setting.{simulated}
use Rattle.source_order.proofs.Plain.{pick_list}

abbrev pub same_event : SourceEvent → SourceEvent → Bool
same_event (Issue p k) (Issue q m) = (p == q) && (k == m)
same_event (Sync p k) (Sync q m) = (p == q) && (k == m)
same_event (Arrive p k s) (Arrive q m t) = (p == q) && (k == m)
same_event (Release k) (Release m) = k == m
same_event (Over p e) (Over q f) = p == q
same_event a b = same_part (does a) (does b)

abbrev pub every : {A : Type 0} → (A → Bool) → List A → Bool
every test [] = true
every test (x ∷ xs) = test x && every test xs

abbrev pub some : {A : Type 0} → (A → Bool) → List A → Bool
some test [] = false
some test (x ∷ xs) = test x || some test xs

abbrev pub shows : (Place → Value) → List SourceEvent → SourceEvent → Bool
shows start past (Do node k false place value) = same_value value (shown start place past)
shows start past (Effect node k cell false place value) = same_value value (shown start place past)
shows start past _ = true

abbrev pub same_bool : Bool → Bool → Bool
same_bool true b = b
same_bool false b = not b

module _ (processes : Processes) (run : List Entry) where
  abbrev pub all : List SourceEvent
  all = items processes.start processes.nodes run

  abbrev pub is_ready : List SourceEvent → SourceEvent → Bool
  is_ready past x = every (λ a. not (needs run a x) || some (same_event a) past) all && shows processes.start past x

  abbrev pub exact_along : List SourceEvent → List SourceEvent → Bool
  exact_along past [] = true
  exact_along past (x ∷ left) =
      every (λ y. same_bool (may_follow processes run past y) (is_ready past y)) (x ∷ left) && exact_along (x ∷ past) left

  abbrev pub is_end : SourceEvent → Bool
  is_end (Over node end) = true
  is_end _ = false

  -- each pair rises in time, but that ends come last
  abbrev pub rises : Bool
  rises = every (λ a. every (λ b. not (before processes.start run a b) || (is_end b || nat_lt (time processes.start run a) (time processes.start run b))) all) all

  abbrev pub insert : SourceEvent → List SourceEvent → List SourceEvent
  insert x [] = x ∷ []
  insert x (y ∷ ys) =
      if is_end y || (not (is_end x) && nat_le (time processes.start run x) (time processes.start run y)) then x ∷ y ∷ ys else y ∷ insert x ys

  abbrev pub sorted : List SourceEvent → List SourceEvent
  sorted [] = []
  sorted (x ∷ xs) = insert x (sorted xs)

  abbrev pub is_exact : Bool
  is_exact = rises && (exact_along [] (source_order processes (reverse run)) && exact_along [] (sorted all))

abbrev pub exact_of : (seeds moves : ℕ) → Processes → Machine → Bool
exact_of seeds moves processes machine =
    all_below seeds (λ seed. is_exact processes (simulated moves machine (pick_list seed moves) []))
