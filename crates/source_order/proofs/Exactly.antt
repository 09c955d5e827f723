-- After items taken as the source allows, it allows exactly the items of which all that they need was taken, and that
-- show what their places hold.
use Rattle.std.proofs.Common.{◌≡◌, ℕ, List, [], ◌∷◌, true, refl, subst, inl, inr, eqb-true, eq-eqb, ◌<◌}
use Rattle.std.proofs.lemmas.Bool.{and_parts, and_from, or_left}
use Rattle.sc_base.specs.declared.value.End.{End}
use Rattle.sc_base.specs.declared.value.End.TheVariants as kind
use Rattle.effect_order.specs.Effect.{IsShown}
use Rattle.effect_order.specs.Items.{memory_of}
use Rattle.effect_order.specs.Lists.{In, Each}
use Rattle.effect_order.specs.Greedy.{WereAllowed, Closed, AllowedIs}
use Rattle.effect_order.proofs.Members.{each-in, each-self}
use Rattle.sc_meaning.specs.declared.event.SourceEvent.{SourceEvent}
use Rattle.sc_meaning.specs.declared.event.SourceEvent.TheVariants.{Do, Issue, Effect, Sync, Arrive, Release, End as Over}
use Rattle.sc_meaning.specs.Past.{Processes}
use Rattle.sc_meaning.specs.History.{Allowed}
use Rattle.sc_meaning.specs.Test.{allowed}
use Rattle.meaning_laws.proofs.Exact.{test_is_exact}
use Rattle.sc_isa.specs.declared.journal.Entry.{Entry}
use Rattle.source_order.specs.Moments.{does, sooner}
use Rattle.source_order.specs.Items.{items, is_turn, may_follow}
use Rattle.source_order.specs.Needs.{needs, before}
use Rattle.source_order.proofs.Stands.{wired_at}
use Rattle.source_order.proofs.Character.{is_item, item_is, within_end}
use Rattle.source_order.proofs.Matches.{Known}
use Rattle.source_order.proofs.Taken.{It, Took}
use Rattle.source_order.proofs.MetOwn.{Met, Shown, own_to, own_from}
use Rattle.source_order.proofs.MetPart.{part_to, part_from}
use Rattle.source_order.proofs.MetRelease.{release_to, release_from}
use Rattle.source_order.proofs.MetEnd.{end_to, end_from, waiting_to, waiting_from}

module _ (processes : Processes) (whole : List Entry) (known : Known processes whole) where
  abbrev pub All : List SourceEvent
  All = items processes.start processes.nodes whole

  pub it_is : (x : SourceEvent) → In x All → It processes whole known x
  it_is x i = is_item processes.start processes.nodes whole known.wired x i

  pub is_it : (x : SourceEvent) → It processes whole known x → In x All
  is_it x h = item_is processes.start processes.nodes whole known.wired x h

  pub took : (past : List SourceEvent) → WereAllowed (may_follow processes whole) past → Each (λ a. In a All) past → Took processes whole known past
  took [] w e = tt
  took (x ∷ past) w e =
      let z = and_parts (allowed processes past x) (is_turn whole past x) w.0 in
      ((test_is_exact processes past x).0 z.0, z.1, it_is x e.0, took past w.1 e.1)

  -- what those taken need was taken
  needs_taken : (past : List SourceEvent) → Closed (before processes.start whole) All past → (y : SourceEvent) → In y past → (a : SourceEvent) → In a All → needs whole a y ≡ true → In a past
  needs_taken [] c y i a j h = absurd i
  needs_taken (x ∷ past) c y (inl q) a j h = inr (each-in _ All a c.0 j (or_left _ _ (subst (λ u. needs whole a u ≡ true) q h)))
  needs_taken (x ∷ past) c y (inr i) a j h = inr (needs_taken past c.1 y i a j h)

  module _ (past : List SourceEvent) (t : Took processes whole known past) (closed : (y : SourceEvent) → In y past → Met processes whole known past t y) where
    at_node_of : (p : ℕ) (end : End) → It processes whole known (Over p end) → p < processes.nodes
    at_node_of p end h = within_end processes.start processes.nodes whole known.wired end h.0 p (wired_at processes.start processes.nodes h.0 _ whole known.wired h.1).0

    pub source_met : (x : SourceEvent) → It processes whole known x → Allowed processes past x → is_turn whole past x ≡ true → Met processes whole known past t x × Shown processes whole known past t x
    source_met (Do p k wrote place value) h a u = own_to processes whole known past t (Do p k wrote place value) refl a
    source_met (Issue p k) h a u = own_to processes whole known past t (Issue p k) refl a
    source_met (Sync p k) h a u = own_to processes whole known past t (Sync p k) refl a
    source_met (Arrive p k s) h a u = own_to processes whole known past t (Arrive p k s) refl a
    source_met (Effect p k c wrote place value) h a u = part_to processes whole known past t p k c wrote place value h a
    source_met (Release m) h a u = (release_to processes whole known past t m a, tt)
    source_met (Over p kind.Waiting) h a u = (waiting_to processes whole known past t p (at_node_of p kind.Waiting h) h closed a (eqb-true _ _ u), tt)
    source_met (Over p kind.Ended) h a u = (end_to processes whole known past t p (at_node_of p kind.Ended h) kind.Ended a (eqb-true _ _ u), tt)
    source_met (Over p (kind.Fault k l)) h a u = (end_to processes whole known past t p (at_node_of p (kind.Fault k l) h) (kind.Fault k l) a (eqb-true _ _ u), tt)
    source_met (Over p kind.Cut) h a u = (end_to processes whole known past t p (at_node_of p kind.Cut h) kind.Cut a (eqb-true _ _ u), tt)

    pub met_source : (x : SourceEvent) → It processes whole known x → (In x past → ⊥) → Met processes whole known past t x → Shown processes whole known past t x → Allowed processes past x × (is_turn whole past x ≡ true)
    met_source (Do p k wrote place value) h out m s = (own_from processes whole known past t (Do p k wrote place value) refl h out m s, refl)
    met_source (Issue p k) h out m s = (own_from processes whole known past t (Issue p k) refl h out m s, refl)
    met_source (Sync p k) h out m s = (own_from processes whole known past t (Sync p k) refl h out m s, refl)
    met_source (Arrive p k st) h out m s = (own_from processes whole known past t (Arrive p k st) refl h out m s, refl)
    met_source (Effect p k c wrote place value) h out m s = (part_from processes whole known past t p k c wrote place value h out m s, refl)
    met_source (Release n) h out m s = (release_from processes whole known past t closed n h out m, refl)
    met_source (Over p kind.Waiting) h out m s = let r = waiting_from processes whole known past t p (at_node_of p kind.Waiting h) h out m in (r.0, eq-eqb _ _ r.1)
    met_source (Over p kind.Ended) h out m s = let r = end_from processes whole known past t p (at_node_of p kind.Ended h) kind.Ended (λ e. absurd cc) h out m in (r.0, eq-eqb _ _ r.1)
    met_source (Over p (kind.Fault k l)) h out m s = let r = end_from processes whole known past t p (at_node_of p (kind.Fault k l) h) (kind.Fault k l) (λ e. absurd cc) h out m in (r.0, eq-eqb _ _ r.1)
    met_source (Over p kind.Cut) h out m s = let r = end_from processes whole known past t p (at_node_of p kind.Cut h) kind.Cut (λ e. absurd cc) h out m in (r.0, eq-eqb _ _ r.1)

  -- the test of the source is what the order asks of a law of histories
  pub allowed_is : AllowedIs does processes.start (sooner processes.start whole) (needs whole) (may_follow processes whole) All
  allowed_is past left x k i = (to, from)
    where
      t : Took processes whole known past
      t = took past k.were_allowed k.past_within

      item : In x All
      item = each-in (λ u. In u All) left x k.left_within i

      closed : (y : SourceEvent) → In y past → Met processes whole known past t y
      closed y j a h n = needs_taken past k.closed y j a (is_it a h) n

      to : may_follow processes whole past x ≡ true → Each (λ a. needs whole a x ≡ true → In a past) All × IsShown (memory_of does processes.start past) (does x)
      to h =
          let z = and_parts (allowed processes past x) (is_turn whole past x) h in
          let m = source_met past t closed x (it_is x item) ((test_is_exact processes past x).0 z.0) z.1 in
          (each-self _ All (λ a j n. m.0 a (it_is a j) n), m.1)

      from : Each (λ a. needs whole a x ≡ true → In a past) All × IsShown (memory_of does processes.start past) (does x) → may_follow processes whole past x ≡ true
      from h =
          let m = met_source past t closed x (it_is x item) (λ j. each-in (λ a. In a past → ⊥) left x k.apart i j) (λ a ia n. each-in _ All a h.0 (is_it a ia) n) h.1 in
          and_from (allowed processes past x) (is_turn whole past x) ((test_is_exact processes past x).1 m.0) m.1
