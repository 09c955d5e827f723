-- The source order is what the three rules give.
use Rattle.std.proofs.Common.{◌≡◌, ◌⊎◌, ℕ, zero, suc, ◌<◌, List, [], ◌∷◌, ◌++◌, reverse, filter, Option, Some, None, Bool, true, false, not, ◌==◌, ◌&&◌, refl, sym, ap, ◌∙◌, subst, inl, inr, ⊎_elim, arith, eqb-true, eq-eqb, ltb-true, lt-ltb}
use Rattle.std.specs.Prelude.{if◌then◌else◌, ltb}
use Rattle.std.proofs.lemmas.Bool.{and_parts, and_from, cases_lt, false_from_ne_true}
use Rattle.sc_base.specs.declared.value.Place.{Place}
use Rattle.sc_base.specs.declared.value.Value.{Value}
use Rattle.sc_base.specs.declared.value.End.{End}
use Rattle.effect_order.specs.Effect.{Effect as CellEffect}
use Rattle.effect_order.specs.Greedy.{ordered}
use Rattle.effect_order.specs.Lists.{In, Each, Pairs, IsDistinct}
use Rattle.effect_order.specs.Rules.{steps_below, listed, Follows}
use Rattle.effect_order.specs.Rules.{Took as Passed_by}
use Rattle.effect_order.proofs.Members.{in-split, in-either, in-middle, each-in, each-self, each-map, pairs-map, pairs_left, pairs_right}
use Rattle.effect_order.proofs.Rules.{ordered_by_rules}
use Rattle.sc_meaning.specs.declared.event.SourceEvent.{SourceEvent}
use Rattle.sc_meaning.specs.declared.event.SourceEvent.TheVariants.{Do, Issue, Effect, Sync, Arrive, Release, End as Over}
use Rattle.sc_meaning.specs.OfAccess.{is_done_at_once}
use Rattle.sc_meaning.specs.Past.{Processes, made}
use Rattle.sc_meaning.specs.History.{Allowed}
use Rattle.sc_meaning.specs.Test.{allowed}
use Rattle.meaning_laws.proofs.Exact.{test_is_exact}
use Rattle.sc_isa.specs.declared.journal.Entry.{Entry}
use Rattle.sc_isa.specs.declared.journal.Entry.TheVariants.{Issued, Delivered, Waited, Arrived, Passed, Finished}
use Rattle.fabric.specs.Effects.{effects}
use Rattle.fabric.specs.Barriers.{released}
use Rattle.source_order.specs.Steps.{requested}
use Rattle.source_order.specs.Moments.{does, event_of, time, sooner}
use Rattle.source_order.specs.Items.{step_by, own_steps, all_steps, all_releases, all_effects, items, is_turn, may_follow, source_order}
use Rattle.source_order.specs.Story.{is_effect}
use Rattle.source_order.specs.ByRules.{effect_of, event_if, own_by, own_of, sorted, OrderIsByRules}
use Rattle.source_order.proofs.Members.{pairs_append}
use Rattle.source_order.proofs.Distinct.{num, at_node, release_in, effects_rise, effect_in, items_distinct}
use Rattle.source_order.proofs.Matches.{Known}
use Rattle.source_order.proofs.Taken.{It, Took, is_own, next_of, taken_low}
use Rattle.source_order.proofs.Reached.{low_release, own_taken, own_exists}
use Rattle.source_order.proofs.MetEnd.{made_few}
use Rattle.source_order.proofs.Exactly.{took}
use Rattle.source_order.proofs.Orderable.{known_run}
use Rattle.source_order.proofs.OwnSteps.{OwnBy, Asks, Ends, from_list, Before, rises, own_here}

module _ (start : Place → Value) (whole : List Entry) where
  filter_append : (xs ys : List SourceEvent) → filter (λ x. not (is_effect x)) (xs ++ ys) ≡ filter (λ x. not (is_effect x)) xs ++ filter (λ x. not (is_effect x)) ys
  filter_append [] ys = refl
  filter_append (x ∷ xs) ys = by (is_effect x) (filter_append xs ys)
    where
      by : (b : Bool) → filter (λ x. not (is_effect x)) (xs ++ ys) ≡ filter (λ x. not (is_effect x)) xs ++ filter (λ x. not (is_effect x)) ys
          → (if not b then x ∷ filter (λ x. not (is_effect x)) (xs ++ ys) else filter (λ x. not (is_effect x)) (xs ++ ys))
          ≡ (if not b then x ∷ filter (λ x. not (is_effect x)) xs else filter (λ x. not (is_effect x)) xs) ++ filter (λ x. not (is_effect x)) ys
      by true i = i
      by false i = ap (λ u. x ∷ u) i

  -- an effect as an event is an effect
  either : (b : Bool) (node k cell : ℕ) (wrote : Bool) (place : Place) (value : Value) → is_effect (if b then Do node k wrote place value else Effect node k cell wrote place value) ≡ true
  either true node k cell wrote place value = refl
  either false node k cell wrote place value = refl

  effect_is : (e : CellEffect) → is_effect (event_of whole e) ≡ true
  effect_is e = either _ e.node _ e.cell e.wrote e.place e.value

  no_effects : (o : Option CellEffect) → filter (λ x. not (is_effect x)) (event_if start whole o) ≡ []
  no_effects None = refl
  no_effects (Some e) = rw (effect_is e) refl

  -- own steps that are no effects
  step_left : (p : ℕ) (past : List Entry) (e : Entry) → filter (λ x. not (is_effect x)) (own_by start whole p past e) ≡ step_by p past e
  step_left p past (Issued q n access) = by (q == p) (is_done_at_once access)
    where
      by : (b c : Bool) → filter (λ x. not (is_effect x)) (if b && c then event_if start whole (effect_of p n (effects start whole)) else (if b && not c then Issue p (requested p past) ∷ [] else []))
          ≡ (if b && not c then Issue p (requested p past) ∷ [] else [])
      by true true = no_effects (effect_of p n (effects start whole))
      by true false = refl
      by false c = refl
  step_left p past (Waited q c) = by ((q == p) && (c == 0))
    where
      by : (b : Bool) → filter (λ x. not (is_effect x)) (if b then Sync p (requested p past) ∷ [] else []) ≡ (if b then Sync p (requested p past) ∷ [] else [])
      by true = refl
      by false = refl
  step_left p past (Arrived q s) = by (q == p)
    where
      by : (b : Bool) → filter (λ x. not (is_effect x)) (if b then Arrive p (requested p past) s ∷ [] else []) ≡ (if b then Arrive p (requested p past) s ∷ [] else [])
      by true = refl
      by false = refl
  step_left p past (Finished q end) = by (q == p)
    where
      by : (b : Bool) → filter (λ x. not (is_effect x)) (if b then Over p end ∷ [] else []) ≡ (if b then Over p end ∷ [] else [])
      by true = refl
      by false = refl
  step_left p past (Delivered _ _ _ _) = refl
  step_left p past (Passed _) = refl

  steps_left : (p : ℕ) (xs : List Entry) → filter (λ x. not (is_effect x)) (own_of start whole p xs) ≡ own_steps p xs
  steps_left p [] = refl
  steps_left p (e ∷ rest) =
      filter_append (own_of start whole p rest) (own_by start whole p rest e)
      ∙ ap (λ u. u ++ filter (λ x. not (is_effect x)) (own_by start whole p rest e)) (steps_left p rest)
      ∙ ap (λ u. own_steps p rest ++ u) (step_left p rest e)

  pub all_left : (n : ℕ) → steps_below is_effect (λ p. own_of start whole p whole) n ≡ all_steps n whole
  all_left zero = refl
  all_left (suc n) =
      ap (λ u. u ++ filter (λ x. not (is_effect x)) (own_of start whole n whole)) (all_left n)
      ∙ ap (λ u. all_steps n whole ++ u) (steps_left n whole)

-- ---- releases rise by number

releases_rise : (m : ℕ) → Pairs (λ a b. (k : ℕ) × (a ≡ Release (suc k)) × ((j : ℕ) → b ≡ Release (suc j) → k < j)) (all_releases m)
releases_rise zero = tt
releases_rise (suc m) =
    pairs_append _ (all_releases m) (Release (suc m) ∷ []) (releases_rise m) (tt, tt)
    (λ a b i j. let r = among m a i in
    (r.0, r.2, λ n q. ⊎_elim (λ e. let z : suc m ≡ suc n = ap num (sym e ∙ q) in let lt = r.1 in omega arith) (λ z. absurd z) j))
  where
    among : (m : ℕ) (x : SourceEvent) → In x (all_releases m) → (k : ℕ) × (k < m) × (x ≡ Release (suc k))
    among m x i = release_in (λ _. Rattle.sc_base.specs.declared.value.Value.TheVariants.Null) 0 m x i

module _ (processes : Processes) (whole : List Entry) (known : Known processes whole) where
  abbrev All : List SourceEvent
  All = items processes.start processes.nodes whole

  abbrev Follow : List SourceEvent → SourceEvent → Bool
  Follow = may_follow processes whole

  abbrev TookBy : List SourceEvent → Type 0
  TookBy past = Passed_by does (sooner processes.start whole) Follow (listed (sorted processes whole)) past

  listed_is : listed (sorted processes whole) ≡ All
  listed_is = ap (λ u. u ++ (all_releases (released whole) ++ all_effects processes.start whole)) (all_left processes.start whole processes.nodes)

  taken : (past : List SourceEvent) → TookBy past → Took processes whole known past
  taken past t = took processes whole known past t.passed (subst (λ u. Each (λ a. In a u) past) listed_is t.within)

  itself : (past : List SourceEvent) (x : SourceEvent) → is_effect x ≡ true ⊎ ((m : ℕ) × (x ≡ Release m)) → is_turn whole past x ≡ true
  itself past (Do _ _ _ _ _) h = refl
  itself past (Issue _ _) h = refl
  itself past (Effect _ _ _ _ _ _) h = refl
  itself past (Sync _ _) h = refl
  itself past (Arrive _ _ _) h = refl
  itself past (Release _) h = refl
  itself past (Over _ _) (inl e) = absurd cc
  itself past (Over _ _) (inr e) = let q = e.1 in absurd cc

  is_it : (past : List SourceEvent) (x : SourceEvent) → Follow past x ≡ true → Allowed processes past x
  is_it past x h = (test_is_exact processes past x).0 (and_parts (allowed processes past x) (is_turn whole past x) h).0

  -- ---- own steps

  module _ (past : List SourceEvent) (t : Took processes whole known past) (p : ℕ) (n : p < processes.nodes) where
    abbrev own : List SourceEvent
    own = own_of processes.start whole p whole

    -- a member of the list that is a request, or an end
    kind_of : (x : SourceEvent) → In x own → ((It processes whole known x) × (is_own x ≡ true) × (at_node x ≡ p)) ⊎ ((end : End) × (x ≡ Over p end))
    kind_of x i = let f = from_list processes whole known p whole (λ s e st. st) x i in by f.is
      where
        by : {s : List Entry} {e : Entry} → OwnBy processes whole known p s e x → ((It processes whole known x) × (is_own x ≡ true) × (at_node x ≡ p)) ⊎ ((end : End) × (x ≡ Over p end))
        by (Asks it o at k r h) = inl (it, o, at)
        by (Ends end q y) = inr (end, y)

    -- those before it were taken, where the source allows it as the node's next
    taken_before : (x : SourceEvent) (us vs : List SourceEvent) → own ≡ us ++ x ∷ vs → Allowed processes past x → is_turn whole past x ≡ true → Each (λ a. In a past) us
    taken_before x us vs e al turn =
        each-map _ _ us (λ a b. one a b) (pairs_left (Before processes whole known p) us x vs (subst (Pairs (Before processes whole known p)) e (rises processes whole known p)))
      where
        one : (a : SourceEvent) → Before processes whole known p a x → In a past
        one a (it, o, at, inl (ox, lt)) =
            let g = (next_of processes past x ox al).1.numbered in
            own_taken processes whole known past t a it o (same ox g)
          where
            same : is_own x ≡ true → num x ≡ made (at_node x) past → num a < made (at_node a) past
            same ox g = let i = in-middle us x vs in
                ⊎_elim (λ k. let u = ap (λ v. made v past) (k.2 ∙ sym at) in omega arith)
                (λ k. let q : is_own x ≡ false = ap is_own k.1 in absurd cc) (kind_of x (subst (In x) (sym e) i))
        one a (it, o, at, inr (end, q, lt)) =
            let u : (made p past == requested p whole) ≡ true = subst (λ v. is_turn whole past v ≡ true) q turn in
            let w = eqb-true (made p past) (requested p whole) u in let z = ap (λ v. made v past) at in
            own_taken processes whole known past t a it o (omega arith)

    -- an end comes after all requests, where all before it were taken
    turn_of : (x : SourceEvent) (us vs : List SourceEvent) → own ≡ us ++ x ∷ vs → Each (λ a. In a past) us → is_effect x ≡ false → is_turn whole past x ≡ true
    turn_of (Do _ _ _ _ _) us vs e f q = refl
    turn_of (Issue _ _) us vs e f q = refl
    turn_of (Effect _ _ _ _ _ _) us vs e f q = refl
    turn_of (Sync _ _) us vs e f q = refl
    turn_of (Arrive _ _ _) us vs e f q = refl
    turn_of (Release _) us vs e f q = refl
    turn_of (Over q end) us vs e f h =
        subst (λ u. (made u past == requested u whole) ≡ true) (sym at) (eq-eqb _ _ (let few = made_few processes whole known past t p n in
        ⊎_elim (λ lt. absurd (more lt)) (λ ge. omega arith) (cases_lt (made p past) (requested p whole))))
      where
        at : q ≡ p
        at = ⊎_elim (λ k. absurd (let z : is_own (Over q end) ≡ true = k.1 in cc)) (λ k. ap at_node k.1) (kind_of (Over q end) (subst (In (Over q end)) (sym e) (in-middle us (Over q end) vs)))

        more : made p past < requested p whole → ⊥
        more lt =
            let a = own_exists processes whole known p n (made p past) lt in
            let here = own_here processes whole known p a.0 a.1 a.2 a.3 in
            ⊎_elim
            (λ i. let l = taken_low processes whole known past t a.0 (each-in _ us a.0 f i) a.2 in let u = ap (λ v. made v past) a.3 in let w = a.4 in omega arith)
            (λ i. ⊎_elim
            (λ z. let y : is_own a.0 ≡ false = ap is_own z in let o = a.2 in both_no (is_own a.0) o y)
            (λ j. let b = each-in _ vs a.0 (pairs_right (Before processes whole known p) us (Over q end) vs (subst (Pairs (Before processes whole known p)) e (rises processes whole known p))) j in
            let z : false ≡ true = b.1 in cc) i)
            (in-either us (Over q end ∷ vs) a.0 (subst (In a.0) e here))
          where
            both_no : (b : Bool) → b ≡ true → b ≡ false → ⊥
            both_no b x y = cc

  -- ---- all that has to hold

  times_apart : (a b : ℕ) → a < b → (ltb a b ≡ true) × (ltb b a ≡ false)
  times_apart a b lt = (lt-ltb a b lt, false_from_ne_true _ (λ t. let u = ltb-true b a t in absurd (omega arith)))

  pub follows : Follows does (sooner processes.start whole) (allowed processes) Follow (sorted processes whole)
  follows = record {
    distinct = subst IsDistinct (sym listed_is) (items_distinct processes.start processes.nodes whole known.wired);
    steps_quiet = λ p. each-self _ (own_of processes.start whole p whole) (λ x i h. quiet_if x h);
    releases_quiet = each-self _ (all_releases (released whole)) (λ x i. let r = release_in processes.start processes.nodes (released whole) x i in ap does r.2);
    in_order = pairs-map (λ a b. time processes.start whole a < time processes.start whole b) _ (λ a b t c. times_apart _ _ t) (all_effects processes.start whole) (effects_rise processes.start processes.nodes whole known.wired);
    not_itself = λ x. false_from_ne_true _ (λ t. let u = ltb-true (time processes.start whole x) (time processes.start whole x) t in absurd (omega arith));
    step = λ past p x t n i q out. (
      (λ h.
          let z = and_parts (allowed processes past x) (is_turn whole past x) h in
          let s = in-split (own_of processes.start whole p whole) x i in
          ((s.0, s.1, s.2, taken_before past (taken past t) p n x s.0 s.1 s.2 (is_it past x h) z.1, out), z.0)),
      (λ h. and_from (allowed processes past x) (is_turn whole past x) h.1 (turn_of past (taken past t) p n x h.0.0 h.0.1 h.0.2 h.0.3 q)),
    );
    release = λ past x t i out. (
      (λ h.
          let z = and_parts (allowed processes past x) (is_turn whole past x) h in
          let s = in-split (all_releases (released whole)) x i in
          ((s.0, s.1, s.2, each-map _ _ s.0 (λ a b. low_of past (taken past t) a x b (is_it past x h) i) (pairs_left _ s.0 x s.1 (subst (Pairs _) s.2 (releases_rise (released whole)))), out), z.0)),
      (λ h. and_from (allowed processes past x) (is_turn whole past x) h.1 (itself past x (inr (let r = release_in processes.start processes.nodes (released whole) x i in (suc r.0, r.2))))),
    );
    effect = λ past x t i out. (
      (λ h. (and_parts (allowed processes past x) (is_turn whole past x) h).0),
      (λ h. and_from (allowed processes past x) (is_turn whole past x) h (itself past x (inl (let e = effect_in processes.start processes.nodes whole known.wired x i in ap is_effect e.2 ∙ effect_is processes.start whole e.0)))),
    );
  }
    where
      quiet_if : (x : SourceEvent) → is_effect x ≡ false → does x ≡ []
      quiet_if (Do _ _ _ _ _) h = absurd cc
      quiet_if (Effect _ _ _ _ _ _) h = absurd cc
      quiet_if (Issue _ _) h = refl
      quiet_if (Sync _ _) h = refl
      quiet_if (Arrive _ _ _) h = refl
      quiet_if (Release _) h = refl
      quiet_if (Over _ _) h = refl

      low_of : (past : List SourceEvent) → Took processes whole known past → (a x : SourceEvent) → ((k : ℕ) × (a ≡ Release (suc k)) × ((j : ℕ) → x ≡ Release (suc j) → k < j)) → Allowed processes past x → In x (all_releases (released whole)) → In a past
      low_of past t a x b al i =
          let r = release_in processes.start processes.nodes (released whole) x i in
          let nb = (subst (Allowed processes past) r.2 al).numbered in
          let lt = b.2 r.0 r.2 in
          subst (λ u. In u past) (sym b.1) (low_release processes whole known past t (suc b.0) b.0 refl (omega arith))

pub order_is_by_rules : OrderIsByRules
order_is_by_rules processes machine journal w r m =
    let known = known_run processes machine journal w r m in
    (ordered_by_rules does (sooner processes.start (reverse journal)) (allowed processes) (may_follow processes (reverse journal)) (sorted processes (reverse journal))
    (follows processes (reverse journal) known) (source_order processes journal)).1
    (sym (ap (ordered does (sooner processes.start (reverse journal)) (may_follow processes (reverse journal))) (listed_is processes (reverse journal) known)))
