-- In a plain run what must come before what has no cycle: it rises in time, but for ends, before which nothing else needs to be.
use Rattle.std.proofs.Common.{◌≡◌, ℕ, ◌<◌, List, [], ◌∷◌, reverse, Bool, true, false, ◌&&◌, refl, sym, ap, subst, ⊎_elim, arith, ltb-true}
use Rattle.std.proofs.lemmas.Bool.{and_parts, or_cases}
use Rattle.sc_base.specs.declared.value.Place.{Place}
use Rattle.sc_base.specs.declared.value.Value.{Value}
use Rattle.effect_order.specs.Effect.{Effect as CellEffect}
use Rattle.effect_order.specs.Items.{items_conflict, some_conflict}
use Rattle.effect_order.specs.Greedy.{Among}
use Rattle.effect_order.specs.Walk.{Walk}
use Rattle.sc_meaning.specs.declared.event.SourceEvent.{SourceEvent}
use Rattle.sc_meaning.specs.declared.event.SourceEvent.TheVariants.{Do, Issue, Effect, Sync, Arrive, Release, End as Over}
use Rattle.sc_isa.specs.declared.journal.Entry.{Entry}
use Rattle.fabric.specs.Wired.{Wired}
use Rattle.source_order.specs.Moments.{does, time, sooner}
use Rattle.source_order.specs.Items.{items}
use Rattle.source_order.specs.Needs.{step_needs, sync_needs, needs, before, NoCycle}
use Rattle.source_order.specs.Law.{IsPlain, PlainRunsHaveNoCycle}
use Rattle.source_order.proofs.Character.{an_effect, is_item}
use Rattle.source_order.proofs.Instants.{after_issue}
use Rattle.source_order.proofs.PlainRuns.{It, access_spot, sync_spot, arrive_spot, do_when, issue_when, sync_when, arrive_when, step_sooner, sync_sooner, part_sooner, release_sooner}

quiet : (es : List CellEffect) → some_conflict [] es ≡ true → ⊥
quiet [] h = absurd cc
quiet (e ∷ es) h = quiet es h

abbrev is_end : SourceEvent → Bool
is_end (Over p end) = true
is_end _ = false

module _ (start : Place → Value) (nodes : ℕ) (whole : List Entry) (w : Wired start nodes whole) (plain : IsPlain start nodes whole) where
  W : SourceEvent → ℕ
  W x = time start whole x

  -- nothing needs an end
  no_end : (a b : SourceEvent) → needs whole a b ≡ true → is_end a ≡ false
  no_end (Do _ _ _ _ _) b h = refl
  no_end (Issue _ _) b h = refl
  no_end (Effect _ _ _ _ _ _) b h = refl
  no_end (Sync _ _) b h = refl
  no_end (Arrive _ _ _) b h = refl
  no_end (Release _) b h = refl
  no_end (Over p end) (Do _ _ _ _ _) h = absurd cc
  no_end (Over p end) (Issue _ _) h = absurd cc
  no_end (Over p end) (Effect _ _ _ _ _ _) h = absurd cc
  no_end (Over p end) (Sync _ _) h = absurd cc
  no_end (Over p end) (Arrive _ _ _) h = absurd cc
  no_end (Over p end) (Release _) h = absurd cc
  no_end (Over p end) (Over _ _) h = absurd cc

  needs_sooner : (a b : SourceEvent) → It start nodes whole w plain a → It start nodes whole w plain b → needs whole a b ≡ true → is_end b ≡ false → time start whole a < time start whole b
  needs_sooner a (Do p k wrote place value) ha hb h e =
      let s = access_spot start nodes whole w plain p k true hb.0 in
      let r = step_sooner start nodes whole w plain a ha p k s h in
      let u = after_issue start nodes whole w (an_effect p hb.0.n 0 wrote place value) hb.0.past hb.0.access hb.0.stands hb.1 in
      let m = do_when start nodes whole w plain p k wrote place value hb in omega arith
  needs_sooner a (Issue p k) ha hb h e =
      let s = access_spot start nodes whole w plain p k false hb in
      let r = step_sooner start nodes whole w plain a ha p k s h in
      let m = issue_when start nodes whole w plain p k s in omega arith
  needs_sooner a (Arrive p k st) ha hb h e =
      let s = arrive_spot start nodes whole w plain p k st hb in
      let r = step_sooner start nodes whole w plain a ha p k s h in
      let m = arrive_when start nodes whole w plain p k st s in omega arith
  needs_sooner a (Sync p k) ha hb h e =
      let s = sync_spot start nodes whole w plain p k hb in
      let m = sync_when start nodes whole w plain p k s in
      ⊎_elim (λ y. let r = step_sooner start nodes whole w plain a ha p k s y in omega arith)
      (λ y. let r = sync_sooner start nodes whole w plain a ha p k hb y in omega arith) (or_cases (step_needs whole a p k) (sync_needs whole a p k) h)
  needs_sooner a (Effect p k c wrote place value) ha hb h e = part_sooner start nodes whole w plain a ha p k c wrote place value hb h
  needs_sooner a (Release m) ha hb h e =
      let q = ap (λ u. Release u) hb.1 in
      subst (λ x. time start whole a < time start whole x) (sym q) (release_sooner start nodes whole w plain a ha hb.0 hb.2 (subst (λ x. needs whole a x ≡ true) q h))
  needs_sooner a (Over _ _) ha hb h e = absurd cc

  -- an end conflicts with nothing
  no_conflict : (a b : SourceEvent) → items_conflict does a b ≡ true → is_end a ≡ false
  no_conflict (Over p end) b h = absurd (quiet (does b) h)
  no_conflict (Do _ _ _ _ _) b h = refl
  no_conflict (Issue _ _) b h = refl
  no_conflict (Effect _ _ _ _ _ _) b h = refl
  no_conflict (Sync _ _) b h = refl
  no_conflict (Arrive _ _ _) b h = refl
  no_conflict (Release _) b h = refl

  edge : (a b : SourceEvent) → Among (before start whole) (items start nodes whole) a b → (is_end a ≡ false) × (is_end b ≡ false → time start whole a < time start whole b)
  edge a b h = ⊎_elim
      (λ n. (no_end a b n, λ e. needs_sooner a b (is_item start nodes whole w a h.0) (is_item start nodes whole w b h.1) n e))
      (λ c. let z = and_parts (items_conflict does a b) (sooner start whole a b) c in (no_conflict a b z.0, λ e. ltb-true _ _ z.1))
      (or_cases (needs whole a b) (items_conflict does a b && sooner start whole a b) h.2)

  rises : (x z : SourceEvent) (zs : List SourceEvent) (y : SourceEvent) → is_end y ≡ false → Walk (Among (before start whole) (items start nodes whole)) x (z ∷ zs) y → time start whole x < time start whole y
  rises x z [] y e k = subst (λ u. time start whole x < time start whole u) k.1 ((edge x z k.0).1 (subst (λ u. is_end u ≡ false) (sym k.1) e))
  rises x z (v ∷ zs) y e k =
      let a = rises z v zs y e k.1 in
      let b = (edge x z k.0).1 (edge z v k.1.0).0 in omega arith

  pub plain_has_none : NoCycle start nodes whole
  plain_has_none x z zs k = let t = rises x z zs x (edge x z k.0).0 k in omega arith

pub plain_runs_have_no_cycle : PlainRunsHaveNoCycle
plain_runs_have_no_cycle machine journal r plain = plain_has_none machine.start machine.nodes (reverse journal) r.legal.wired plain
