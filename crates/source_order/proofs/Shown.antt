-- Conflicting items of a run stand in the order of time, and its reads show the last write before them.
use mathlib.Core.List.{reverse-cons}
use Rattle.std.proofs.Common.{◌≡◌, ℕ, ◌<◌, ◌≤◌, List, [], ◌∷◌, ◌++◌, reverse, map, true, refl, sym, ap, ◌∙◌, subst, inl, inr, arith, lt-ltb}
use Rattle.sc_base.specs.declared.value.Place.{Place}
use Rattle.sc_base.specs.declared.value.Value.{Value}
use Rattle.effect_order.specs.Effect.{Effect as CellEffect, held, IsShown}
use Rattle.effect_order.specs.Items.{after, memory_after, Shows, some_conflict, items_conflict}
use Rattle.effect_order.specs.Lists.{In, Pairs}
use Rattle.effect_order.proofs.Members.{each-self, pairs-map}
use Rattle.sc_meaning.specs.declared.event.SourceEvent.{SourceEvent}
use Rattle.sc_meaning.specs.declared.event.SourceEvent.TheVariants.{Do, Issue, Effect, Sync, Arrive, Release, End as Over}
use Rattle.sc_isa.specs.declared.journal.Entry.{Entry}
use Rattle.fabric.specs.Effects.{effects}
use Rattle.fabric.specs.Barriers.{released}
use Rattle.fabric.specs.Wired.{Wired}
use Rattle.source_order.specs.Moments.{does, event_of, time, sooner}
use Rattle.source_order.specs.Items.{all_steps, all_releases, all_effects, items}
use Rattle.source_order.proofs.Members.{pairs_append}
use Rattle.source_order.proofs.Effected.{run_shown, as_requested, does_event}
use Rattle.source_order.proofs.Distinct.{sort, step_sort, release_sort, origin, effects_rise}

pub does_nothing : (x : SourceEvent) → sort x ≤ 2 → does x ≡ []
does_nothing (Do p k wrote place value) t = absurd (omega arith)
does_nothing (Effect p k cell wrote place value) t = absurd (omega arith)
does_nothing (Issue p k) t = refl
does_nothing (Sync p k) t = refl
does_nothing (Arrive p k stores) t = refl
does_nothing (Release m) t = refl
does_nothing (Over p end) t = refl

quiet : (es : List CellEffect) → some_conflict [] es ≡ true → ⊥
quiet [] h = absurd cc
quiet (e ∷ es) h = quiet es h

pub shows_append : (m : Place → Value) (us vs : List SourceEvent) → Shows does m us → Shows does (memory_after does m us) vs → Shows does m (us ++ vs)
shows_append m [] vs a b = b
shows_append m (u ∷ us) vs a b = (a.0, shows_append (after does m u) us vs a.1 b)

pub memory_append : (m : Place → Value) (us vs : List SourceEvent) → memory_after does m (us ++ vs) ≡ memory_after does (memory_after does m us) vs
memory_append m [] vs = refl
memory_append m (u ∷ us) vs = memory_append (after does m u) us vs

pub same_after : (m : Place → Value) (x : SourceEvent) → does x ≡ [] → after does m x ≡ m
same_after m x h = ap (λ es place. held m place es) h

shows_none : (m : Place → Value) (us vs : List SourceEvent) → ((x : SourceEvent) → In x us → sort x ≤ 2) → Shows does m vs → Shows does m (us ++ vs)
shows_none m [] vs f b = b
shows_none m (u ∷ us) vs f b =
    let h = does_nothing u (f u (inl refl)) in
    (subst (IsShown m) (sym h) tt, shows_none (after does m u) us vs (λ x i. f x (inr i)) (subst (λ n. Shows does n vs) (sym (same_after m u h)) b))

pub memory_none : (m : Place → Value) (us vs : List SourceEvent) → ((x : SourceEvent) → In x us → sort x ≤ 2) → memory_after does m (us ++ vs) ≡ memory_after does m vs
memory_none m [] vs f = refl
memory_none m (u ∷ us) vs f =
    let h = does_nothing u (f u (inl refl)) in
    memory_none (after does m u) us vs (λ x i. f x (inr i)) ∙ ap (λ n. memory_after does n vs) (same_after m u h)

module _ (start : Place → Value) (nodes : ℕ) (whole : List Entry) (w : Wired start nodes whole) where
  abbrev InOrder : SourceEvent → SourceEvent → Type 0
  InOrder a b = items_conflict does a b ≡ true → sooner start whole a b ≡ true

  nothing : (x y : SourceEvent) → sort x ≤ 2 → InOrder x y
  nothing x y t h = absurd (quiet (does y) (subst (λ es. some_conflict es (does y) ≡ true) (does_nothing x t) h))

  none_in_order : (xs : List SourceEvent) → ((x : SourceEvent) → In x xs → sort x ≤ 2) → Pairs InOrder xs
  none_in_order [] f = tt
  none_in_order (x ∷ xs) f = (each-self _ xs (λ y i. nothing x y (f x (inl refl))), none_in_order xs (λ y i. f y (inr i)))

  steps_low : (x : SourceEvent) → In x (all_steps nodes whole) → sort x ≤ 2
  steps_low x i = let u = step_sort start nodes whole w nodes x i in omega arith

  releases_low : (x : SourceEvent) → In x (all_releases (released whole)) → sort x ≤ 2
  releases_low x i = let u = release_sort start nodes whole w (released whole) x i in omega arith

  pub items_in_order : Pairs InOrder (items start nodes whole)
  items_in_order =
      pairs_append InOrder (all_steps nodes whole) (all_releases (released whole) ++ all_effects start whole) (none_in_order _ steps_low)
      (pairs_append InOrder (all_releases (released whole)) (all_effects start whole) (none_in_order _ releases_low)
      (pairs-map (λ a b. time start whole a < time start whole b) InOrder (λ a b t c. lt-ltb _ _ t) (all_effects start whole) (effects_rise start nodes whole w))
      (λ x y i j. nothing x y (releases_low x i)))
      (λ x y i j. nothing x y (steps_low x i))

  turned : (es : List CellEffect) → ((e : CellEffect) → In e es → In e (effects start whole)) → IsShown start es
      → Shows does start (reverse (map (event_of whole) es)) × (memory_after does start (reverse (map (event_of whole) es)) ≡ (λ place. held start place es))
  turned [] all s = (tt, refl)
  turned (e ∷ es) all s =
      let r = turned es (λ f i. all f (inr i)) s.1 in
      let front : List SourceEvent = reverse (map (event_of whole) es) in
      let d : does (event_of whole e) ≡ as_requested whole e ∷ [] = does_event start nodes whole w e (origin start nodes whole w e (all e (inl refl))) in (
        subst (Shows does start) (sym (reverse-cons (event_of whole e) (map (event_of whole) es)))
            (shows_append start front (event_of whole e ∷ []) r.0 (subst (λ m. IsShown m (does (event_of whole e))) (sym r.1) (subst (IsShown (λ place. held start place es)) (sym d) (s.0, tt)), tt)),
        ap (memory_after does start) (reverse-cons (event_of whole e) (map (event_of whole) es)) ∙ memory_append start front (event_of whole e ∷ [])
            ∙ ap (λ m. after does m (event_of whole e)) r.1 ∙ ap (λ fs place. held (λ p. held start p es) place fs) d,
      )

  pub items_shown : Shows does start (items start nodes whole)
  items_shown =
      shows_none start (all_steps nodes whole) _ steps_low
      (shows_none start (all_releases (released whole)) _ releases_low (turned (effects start whole) (λ e i. i) (run_shown start whole)).0)

  -- after all items the places hold what they hold after the run
  pub items_memory : memory_after does start (items start nodes whole) ≡ (λ place. held start place (effects start whole))
  items_memory =
      memory_none start (all_steps nodes whole) _ steps_low
      ∙ memory_none start (all_releases (released whole)) _ releases_low
      ∙ (turned (effects start whole) (λ e i. i) (run_shown start whole)).1
