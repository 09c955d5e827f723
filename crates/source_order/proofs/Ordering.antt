-- From what must come before what having no cycle: the source order is a whole history of the processes, with the outcome of the run.
use mathlib.Core.List.{reverse-cons}
use Rattle.std.proofs.Common.{◌≡◌, ℕ, zero, suc, ◌<◌, ◌≤◌, List, [], ◌∷◌, ◌++◌, reverse, Some, Bool, not, refl, sym, ap, ◌∙◌, subst, inl, inr, ⊎_elim, arith, le_refl}
use Rattle.std.specs.Prelude.{IsSome}
use Rattle.sc_base.specs.declared.value.Place.{Place}
use Rattle.sc_base.specs.declared.value.Value.{Value}
use Rattle.sc_base.specs.declared.value.End.{End}
use Rattle.sc_base.specs.declared.value.End.TheVariants as kind
use Rattle.effect_order.specs.Effect.{held}
use Rattle.effect_order.specs.Items.{memory_of, memory_after}
use Rattle.effect_order.specs.Lists.{In, IsDistinct}
use Rattle.effect_order.specs.Greedy.{WereAllowed, IsAllowed, Reorder, IsSourced}
use Rattle.effect_order.proofs.Members.{each-in, each-self, in-either, in-middle, pairs_without, pairs_left, pairs_right}
use Rattle.effect_order.proofs.Sourced.{reorder_in}
use Rattle.effect_order.proofs.Ordered.{orderable_sourced, ordered_allowed}
use Rattle.sc_meaning.specs.declared.event.SourceEvent.{SourceEvent}
use Rattle.sc_meaning.specs.declared.event.SourceEvent.TheVariants.{Effect, Release, End as Over}
use Rattle.resumption.specs.Resumption.{RunOf}
use Rattle.sc_meaning.specs.declared.request.Request.{Request}
use Rattle.sc_meaning.specs.Asking.{Halt}
use Rattle.sc_meaning.specs.Parts.{is_issued}
use Rattle.sc_meaning.specs.Past.{Processes, made, arrivals, releases, ended, answers, run_so_far}
use Rattle.sc_meaning.specs.History.{Legal}
use Rattle.sc_meaning.specs.Whole.{IsForsaken, Complete, SameOutcome, outcome}
use Rattle.sc_isa.specs.declared.journal.Entry.{Entry}
use Rattle.sc_isa.specs.declared.journal.Entry.TheVariants.{Finished}
use Rattle.fabric.specs.Effects.{effects}
use Rattle.fabric.specs.Access.{any_track}
use Rattle.fabric.specs.Barriers.{arrivals as run_arrivals, released, finished}
use Rattle.source_order.specs.Whole.{run_outcome}
use Rattle.source_order.specs.Steps.{requested, arrivals_among}
use Rattle.source_order.specs.Moments.{does, sooner}
use Rattle.source_order.specs.Items.{items, may_follow, source_order}
use Rattle.source_order.specs.Needs.{needs, before}
use Rattle.source_order.specs.Law.{TakesAll, OrderHolds}
use Rattle.source_order.proofs.Stands.{Stands, wired_at}
use Rattle.source_order.proofs.Numbers.{arrivals_all}
use Rattle.source_order.proofs.Occurs.{some_from, some_is}
use Rattle.source_order.proofs.Own.{finished_is, finish_at}
use Rattle.source_order.proofs.Distinct.{items_distinct}
use Rattle.source_order.proofs.Shown.{items_memory}
use Rattle.source_order.proofs.Standing.{ending, is_waiting}
use Rattle.source_order.proofs.Members.{in_reverse, reverse_in}
use Rattle.source_order.proofs.Matches.{Known, issued_unlined, fits}
use Rattle.source_order.proofs.Taken.{It, Took, took_it}
use Rattle.source_order.proofs.Parted.{Full, Needed}
use Rattle.source_order.proofs.Over.{Kind, all_done}
use Rattle.source_order.proofs.Kept.{kept}
use Rattle.source_order.proofs.Progress.{Kept, begun}
use Rattle.source_order.proofs.Reached.{release_low, low_release, ended_in, in_ended}
use Rattle.source_order.proofs.MetOwn.{holds}
use Rattle.source_order.proofs.MetEnd.{whole_run}
use Rattle.source_order.proofs.Exactly.{is_it, took}
use Rattle.source_order.proofs.Orderable.{known_run, items_are_orderable}

-- ---- an order and its past

assoc : (xs : List SourceEvent) (x : SourceEvent) (ys : List SourceEvent) → (xs ++ x ∷ []) ++ ys ≡ xs ++ x ∷ ys
assoc [] x ys = refl
assoc (z ∷ xs) x ys = ap (λ u. z ∷ u) (assoc xs x ys)

turned : (x : SourceEvent) (out past : List SourceEvent) → reverse out ++ x ∷ past ≡ reverse (x ∷ out) ++ past
turned x out past = sym (ap (λ u. u ++ past) (reverse-cons x out) ∙ assoc (reverse out) x past)

were : (allowed : List SourceEvent → SourceEvent → Bool) (out past : List SourceEvent) → IsAllowed allowed past out → WereAllowed allowed past → WereAllowed allowed (reverse out ++ past)
were allowed [] past a w = w
were allowed (x ∷ out) past a w = subst (WereAllowed allowed) (turned x out past) (were allowed out (x ∷ past) a.1 (a.0, w))

memory_turned : (start : Place → Value) (out past : List SourceEvent) → memory_after does (memory_of does start past) out ≡ memory_of does start (reverse out ++ past)
memory_turned start [] past = refl
memory_turned start (x ∷ out) past = memory_turned start out (x ∷ past) ∙ ap (memory_of does start) (turned x out past)

no_more : (xs : List SourceEvent) → xs ++ [] ≡ xs
no_more [] = refl
no_more (x ∷ xs) = ap (λ u. x ∷ u) (no_more xs)

-- ---- what is taken

in_reorder : (b : SourceEvent → SourceEvent → Bool) (out left : List SourceEvent) (a : SourceEvent) → Reorder b left out → In a out → In a left
in_reorder b [] left a r i = absurd i
in_reorder b (x ∷ out) left a r (inl q) = subst (λ u. In u left) (sym q) (subst (In x) (sym r.2) (in-middle r.0 x r.1))
in_reorder b (x ∷ out) left a r (inr i) = subst (In a) (sym r.2) (wider r.0 r.1 (in_reorder b out (r.0 ++ r.1) a r.4 i))
  where
    wider : (us vs : List SourceEvent) → In a (us ++ vs) → In a (us ++ x ∷ vs)
    wider [] vs i = inr i
    wider (u ∷ us) vs (inl q) = inl q
    wider (u ∷ us) vs (inr i) = inr (wider us vs i)

reorder_distinct : (b : SourceEvent → SourceEvent → Bool) (out left : List SourceEvent) → Reorder b left out → IsDistinct left → IsDistinct out
reorder_distinct b [] left r d = tt
reorder_distinct b (x ∷ out) left r d =
    let e : IsDistinct (r.0 ++ x ∷ r.1) = subst IsDistinct r.2 d in (
      each-self _ out (λ y i q. ⊎_elim
          (λ j. each-in (λ u. u ≡ x → ⊥) r.0 y (pairs_left (λ a c. a ≡ c → ⊥) r.0 x r.1 e) j (sym q))
          (λ j. each-in (λ u. x ≡ u → ⊥) r.1 y (pairs_right (λ a c. a ≡ c → ⊥) r.0 x r.1 e) j q)
          (in-either r.0 r.1 y (in_reorder b out (r.0 ++ r.1) y r.4 i))),
      reorder_distinct b out (r.0 ++ r.1) r.4 (pairs_without _ r.0 x r.1 e),
    )

-- every issued request's parts
issued_kind : Kind is_issued any_track
issued_kind = record { unlined = issued_unlined; issued = λ r h. h; fits = λ a s h. (fits a s).1 ∙ ap (λ u. not u) h }

module _ (processes : Processes) (whole : List Entry) (known : Known processes whole) where
  -- a node that finished as waiting waits for one that did not
  gone_node : (xs : List Entry) → ((s : List Entry) (e : Entry) → Stands s e xs → Stands s e whole) → (p : ℕ) (past : List Entry) → Stands past (Finished p kind.Waiting) xs
      → (g : ℕ) × (end : End) × (g < processes.nodes) × (finished g whole ≡ Some end) × (end ≡ kind.Waiting → ⊥)
  gone_node [] among p past s = absurd s
  gone_node (e ∷ rest) among p past (inr s) = gone_node rest (λ x f i. among x f (inr i)) p past s
  gone_node (e ∷ rest) among p past (inl q) =
      let b = (wired_at processes.start processes.nodes past (Finished p kind.Waiting) whole known.wired (among past _ (inl q))).0.broken in
      by b.gone b.gone_within b.is_gone (λ g x s. gone_node rest (λ y f i. among y f (inr i)) g x s)
    where
      Goal : Type 0
      Goal = (g : ℕ) × (end : End) × (g < processes.nodes) × (finished g whole ≡ Some end) × (end ≡ kind.Waiting → ⊥)

      by : (g : ℕ) → g < processes.nodes → IsSome (finished g past) → ((g : ℕ) (x : List Entry) → Stands x (Finished g kind.Waiting) rest → Goal) → Goal
      by g n h f =
          let e = some_is (finished g past) h in
          let at = finish_at g e.0 past e.1 in
          let in_rest : Stands at.0 (Finished g e.0) rest = subst (Stands at.0 (Finished g e.0)) q.0 at.1 in
          ⊎_elim (λ y. f g at.0 (subst (λ x. Stands at.0 (Finished g x) rest) y in_rest))
          (λ y. (g, e.0, n, finished_is g e.0 at.0 whole processes.start processes.nodes known.wired (among at.0 _ (inr in_rest)), y)) (is_waiting processes.start processes.nodes e.0)

  legal : (past : List SourceEvent) → Took processes whole known past → Legal processes past
  legal [] t = tt
  legal (x ∷ past) t = (t.0, legal past t.3)

  -- items that are all of them
  module _ (past : List SourceEvent) (t : Took processes whole known past) (all_in : (a : SourceEvent) → It processes whole known a → In a past) where
    K : (p : ℕ) (n : p < processes.nodes) → Kept processes whole known p n past
    K p n = kept processes whole known p n past t

    pub ended_is : (p : ℕ) → (end : End) → finished p whole ≡ Some end → ended p past ≡ Some end
    ended_is p end h =
        let at = finish_at p end whole h in
        let s = some_is (ended p past) (in_ended processes whole known past p end (all_in (Over p end) at)) in
        let i = took_it processes whole known past t (Over p s.0) (ended_in processes whole known past p s.0 s.1) in
        let f = finished_is p s.0 i.0 whole processes.start processes.nodes known.wired i.1 in
        let e : s.0 ≡ end = cc in s.1 ∙ ap (λ u. Some u) e

    some_ended : (p : ℕ) → p < processes.nodes → IsSome (ended p past)
    some_ended p n = let f = some_is (finished p whole) (known.all_finished p n) in some_from _ f.0 (ended_is p f.0 f.1)

    arrived : (p : ℕ) → p < processes.nodes → arrivals p past ≡ run_arrivals p whole
    arrived p n = let k = K p n in k.among ∙ ap (λ u. arrivals_among p u whole) (k.full (some_ended p n)).0 ∙ arrivals_all p (requested p whole) whole (le_refl _)

    releases_are : releases past ≡ released whole
    releases_are = let a = low (released whole) refl in let b = high (releases past) refl in omega arith
      where
        low : (r : ℕ) → r ≡ released whole → released whole ≤ releases past
        low zero e = omega arith
        low (suc r) e = let l = release_low processes whole known past t (suc r) (all_in (Release (suc r)) (r, refl, omega arith)) in omega arith

        high : (r : ℕ) → releases past ≡ r → releases past ≤ released whole
        high zero e = omega arith
        high (suc r) e = let i = took_it processes whole known past t (Release (suc r)) (low_release processes whole known past t (suc r) r refl (omega arith)) in let a = i.1 in let b = i.2 in omega arith

    pub same_text : (p : ℕ) (n : p < processes.nodes) → run_so_far processes p past ≡ Full processes whole known p
    same_text p n = let k = K p n in let f = k.full (some_ended p n) in whole_run processes whole known past t p n (answers processes p past) k.rest k.prefix (let a = ap (Needed processes whole known p) f.0 in let b = f.1 in omega arith)

    forsaken : (p : ℕ) → p < processes.nodes → ended p past ≡ Some kind.Waiting → IsForsaken processes past p
    forsaken p n h =
        let i = took_it processes whole known past t (Over p kind.Waiting) (ended_in processes whole known past p kind.Waiting h) in
        let g = gone_node whole (λ s e j. j) p i.0 i.1 in
        let fin = finished_is p kind.Waiting i.0 whole processes.start processes.nodes known.wired i.1 in
        let sp = (ending processes.start processes.nodes whole known.wired p n (known.all_finished p n)).stuck fin in
        let ag = (ending processes.start processes.nodes whole known.wired g.0 g.2 (known.all_finished g.0 g.2)).arrived (λ e. let z = g.3 in g.4 cc) in
        let a = arrived p n in let b = arrived g.0 g.2 in let r = releases_are in
        let eg = ended_is g.0 g.1 g.3 in
        record {
          at_barrier = omega arith;
          other = g.0;
          other_within = g.2;
          gone = some_from _ _ eg;
          not_waiting = λ e. g.4 (let z = eg in cc);
          fewer = omega arith;
        }

    pub complete : Complete processes past
    complete = record {
      all_ended = some_ended;
      all_done = λ p n. all_done processes whole known is_issued any_track issued_kind p past n (begun processes whole known p n past (K p n)) (λ k c wrote place value lt h o. all_in (Effect p k c wrote place value) h);
      forsaken = forsaken;
    }

pub order_holds : OrderHolds
order_holds processes machine journal w r m none =
    record { takes = takes; history = record { legal = legal processes whole known past t; complete = complete processes whole known past t all_in }; same = same }
  where
    whole : List Entry
    whole = reverse journal

    known : Known processes whole
    known = known_run processes machine journal w r m

    order : List SourceEvent
    order = source_order processes journal

    past : List SourceEvent
    past = reverse order

    sourced : IsSourced does processes.start (before processes.start whole) (items processes.start processes.nodes whole) order
    sourced = orderable_sourced does processes.start (sooner processes.start whole) (needs whole) (may_follow processes whole) (items processes.start processes.nodes whole) (items_are_orderable processes machine journal w r m none)

    takes : TakesAll (items processes.start processes.nodes whole) order
    takes = record {
      each_taken = each-self _ (items processes.start processes.nodes whole) (λ a i. reorder_in (before processes.start whole) order (items processes.start processes.nodes whole) a sourced.reorder i);
      each_item = each-self _ order (λ a i. in_reorder (before processes.start whole) order (items processes.start processes.nodes whole) a sourced.reorder i);
      once = reorder_distinct (before processes.start whole) order (items processes.start processes.nodes whole) sourced.reorder (items_distinct processes.start processes.nodes whole known.wired);
    }

    allowed_all : WereAllowed (may_follow processes whole) past
    allowed_all = subst (WereAllowed (may_follow processes whole)) (no_more (reverse order)) (were (may_follow processes whole) order [] (ordered_allowed does (sooner processes.start whole) (may_follow processes whole) (items processes.start processes.nodes whole)) tt)

    t : Took processes whole known past
    t = took processes whole known past allowed_all (each-self _ past (λ a i. in_reorder (before processes.start whole) order (items processes.start processes.nodes whole) a sourced.reorder (reverse_in order a i)))

    all_in : (a : SourceEvent) → It processes whole known a → In a past
    all_in a h = in_reverse order a (reorder_in (before processes.start whole) order (items processes.start processes.nodes whole) a sourced.reorder (is_it processes whole known a h))

    memory : (place : Place) → held machine.start place (effects machine.start whole) ≡ held processes.start place (Rattle.sc_meaning.specs.Past.effects past)
    memory place =
        ap (λ s. held s place (effects s whole)) m.start
        ∙ sym (ap (λ (f : Place → Value). f place) (sourced.memory ∙ items_memory processes.start processes.nodes whole known.wired))
        ∙ ap (λ (f : Place → Value). f place) (memory_turned processes.start order [] ∙ ap (memory_of does processes.start) (no_more (reverse order)))
        ∙ holds processes.start place past

    same : SameOutcome processes.nodes (run_outcome machine journal) (outcome processes order)
    same = record {
      ends = λ p n. (let f = some_is (finished p whole) (known.all_finished p n) in f.1 ∙ sym (ended_is processes whole known past t all_in p f.0 f.1));
      texts = λ p n. (m.each p n).text ∙ ap (λ (u : RunOf Request Halt). u.text) (sym (same_text processes whole known past t all_in p n));
      memory = memory;
    }
