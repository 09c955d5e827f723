-- No item of a run stands twice, and its effects stand in the order of time.
use Rattle.std.proofs.Common.{◌≡◌, ◌⊎◌, ℕ, zero, suc, ◌<◌, ◌≤◌, List, [], ◌∷◌, ◌++◌, map, Some, None, Bool, true, false, not, ◌==◌, ◌&&◌, refl, sym, ap, ◌∙◌, subst, inl, inr, ⊎_elim, arith}
use Rattle.std.specs.Prelude.{if◌then◌else◌, IsSome}
use Rattle.sc_base.specs.declared.value.Place.{Place}
use Rattle.sc_base.specs.declared.value.Value.{Value}
use Rattle.sc_base.specs.declared.value.End.{End}
use Rattle.sc_base.specs.declared.value.End.TheVariants as kind
use Rattle.effect_order.specs.Effect.{Effect as CellEffect}
use Rattle.effect_order.specs.Lists.{In, Pairs, IsDistinct}
use Rattle.effect_order.proofs.Members.{each-in, each-self, each-map, in-either}
use Rattle.sc_meaning.specs.declared.event.SourceEvent.{SourceEvent}
use Rattle.sc_meaning.specs.declared.event.SourceEvent.TheVariants.{Do, Issue, Effect, Sync, Arrive, Release, End as Over}
use Rattle.sc_isa.specs.declared.journal.Entry.{Entry}
use Rattle.sc_isa.specs.declared.journal.Entry.TheVariants.{Issued, Delivered, Waited, Arrived, Passed, Finished}
use Rattle.fabric.specs.Effects.{effects}
use Rattle.fabric.specs.Barriers.{finished, released}
use Rattle.fabric.specs.Wired.{EntryWired, Wired}
use Rattle.source_order.proofs.Once.{AtMostOnce, each_part_once}
use Rattle.source_order.specs.Steps.{request_by, requested}
use Rattle.sc_meaning.specs.OfAccess.{is_done_at_once}
use Rattle.source_order.specs.Moments.{event_of, time, occurred_in}
use Rattle.source_order.specs.Items.{step_by, own_steps, all_steps, all_releases, all_effects, items}
use Rattle.source_order.proofs.Stands.{Stands, requested_below}
use Rattle.source_order.proofs.Numbers.{eq_self, if_true, issued_is, both_self}
use Rattle.source_order.proofs.Members.{in_reverse, reverse_in, in_map, map_in, pairs_append, pairs_reverse, pairs_mapped}
use Rattle.source_order.proofs.Occurs.{not_some, some_from}
use Rattle.source_order.proofs.Own.{StepOf, OfIssue, OfSync, OfArrival, OfEnd, OwnStep, step_is, own_step, at_step, finished_is}
use Rattle.source_order.proofs.Effected.{Origin, origins, does_event, event_is}
use Rattle.source_order.proofs.Times.{Behind, occurs_in_order}

-- the number of an event among its node's requests, or that of a release
abbrev pub num : SourceEvent → ℕ
num (Do p k wrote place value) = k
num (Issue p k) = k
num (Effect p k cell wrote place value) = k
num (Sync p k) = k
num (Arrive p k stores) = k
num (Release m) = m
num (Over p end) = 0

abbrev pub at_node : SourceEvent → ℕ
at_node (Do p k wrote place value) = p
at_node (Issue p k) = p
at_node (Effect p k cell wrote place value) = p
at_node (Sync p k) = p
at_node (Arrive p k stores) = p
at_node (Release m) = 0
at_node (Over p end) = p

-- 0: an own step with a number; 1: an end; 2: a release; 3: an effect
abbrev pub sort : SourceEvent → ℕ
sort (Do p k wrote place value) = 3
sort (Issue p k) = 0
sort (Effect p k cell wrote place value) = 3
sort (Sync p k) = 0
sort (Arrive p k stores) = 0
sort (Release m) = 2
sort (Over p end) = 1

abbrev Apart : SourceEvent → SourceEvent → Type 0
Apart a b = a ≡ b → ⊥

-- what an own step has for a number
pub numbered : (p : ℕ) (past : List Entry) (entry : Entry) (x : SourceEvent) → StepOf p past entry x
    → ((sort x ≡ 0) × (at_node x ≡ p) × (num x ≡ requested p past) × IsSome (request_by p entry)) ⊎ ((sort x ≡ 1) × (at_node x ≡ p) × ((end : End) × (entry ≡ Finished p end) × (x ≡ Over p end)))
numbered p past entry x (OfIssue n access e h q) = inl (rw q (refl, refl, refl, rw e (some_from _ _ (issued_is p n access))))
numbered p past entry x (OfSync e q) = inl (rw q (refl, refl, refl, rw e (some_from _ _ (if_true ((p == p) && (0 == 0)) _ _ (both_self p 0)))))
numbered p past entry x (OfArrival stores e q) = inl (rw q (refl, refl, refl, rw e (some_from _ _ (if_true (p == p) _ _ (eq_self p)))))
numbered p past entry x (OfEnd end e q) = inr (rw q (refl, refl, (end, e, refl)))

pub at_its_node : (p : ℕ) (past : List Entry) (entry : Entry) (x : SourceEvent) → StepOf p past entry x → at_node x ≡ p
at_its_node p past entry x s = ⊎_elim (λ a. a.1) (λ a. a.1) (numbered p past entry x s)

pub low_sort : (p : ℕ) (past : List Entry) (entry : Entry) (x : SourceEvent) → StepOf p past entry x → sort x ≤ 1
low_sort p past entry x s = ⊎_elim (λ a. let u = a.0 in omega arith) (λ a. let u = a.0 in omega arith) (numbered p past entry x s)

module _ (start : Place → Value) (nodes : ℕ) where
  pub running : (p : ℕ) (end : End) (past : List Entry) → EntryWired start nodes past (Finished p end) → finished p past ≡ None
  running p kind.Waiting past u = u.running.not_finished
  running p kind.Ended past u = u.running.not_finished
  running p (kind.Fault k l) past u = u.running.not_finished
  running p kind.Cut past u = u.running.not_finished

  pub is_request : (p : ℕ) (entry : Entry) → IsSome (request_by p entry) → (past whole : List Entry) → Stands past entry whole → requested p past < requested p whole
  is_request p entry s past whole i = by (request_by p entry) refl s
    where
      by : (o : _) → request_by p entry ≡ o → IsSome o → requested p past < requested p whole
      by None e h = absurd cc
      by (Some r) e h = requested_below p past entry whole r i e

  later_step : (p : ℕ) (e : Entry) (rest : List Entry) → EntryWired start nodes rest e → Wired start nodes rest → (x y : SourceEvent) → OwnStep p rest x → StepOf p rest e y → x ≡ y → ⊥
  later_step p e rest ew w x y o s q = by (numbered p o.past o.entry x o.is) (numbered p rest e y s)
    where
      by : ((sort x ≡ 0) × (at_node x ≡ p) × (num x ≡ requested p o.past) × IsSome (request_by p o.entry)) ⊎ ((sort x ≡ 1) × (at_node x ≡ p) × ((end : End) × (o.entry ≡ Finished p end) × (x ≡ Over p end)))
          → ((sort y ≡ 0) × (at_node y ≡ p) × (num y ≡ requested p rest) × IsSome (request_by p e)) ⊎ ((sort y ≡ 1) × (at_node y ≡ p) × ((end : End) × (e ≡ Finished p end) × (y ≡ Over p end))) → ⊥
      by (inl a) (inl b) = let u = is_request p o.entry a.3 o.past rest o.stands in let v = ap num q in let c = a.2 in let d = b.2 in omega arith
      by (inl a) (inr b) = let v = ap sort q in let c = a.0 in let d = b.0 in omega arith
      by (inr a) (inl b) = let v = ap sort q in let c = a.0 in let d = b.0 in omega arith
      by (inr a) (inr b) =
          let f = finished_is p a.2.0 o.past rest start nodes w (subst (λ u. Stands o.past u rest) a.2.1 o.stands) in
          let g = running p b.2.0 rest (subst (EntryWired start nodes rest) b.2.1 ew) in absurd (not_some (finished p rest) g (some_from _ _ f))

  own_distinct : (p : ℕ) (whole : List Entry) → Wired start nodes whole → IsDistinct (own_steps p whole)
  own_distinct p [] w = tt
  own_distinct p (e ∷ rest) w =
      pairs_append Apart (own_steps p rest) (step_by p rest e) (own_distinct p rest w.1) (one e)
      (λ x y i j. later_step p e rest w.0 w.1 x y (own_step p rest x i) (step_is p rest e y j))
    where
      single : (b : Bool) (y : SourceEvent) → IsDistinct (if b then y ∷ [] else [])
      single true y = (tt, tt)
      single false y = tt

      one : (e : Entry) → IsDistinct (step_by p rest e)
      one (Issued q n access) = single ((q == p) && not (is_done_at_once access)) _
      one (Waited q c) = single ((q == p) && (c == 0)) _
      one (Arrived q stores) = single (q == p) _
      one (Finished q end) = single (q == p) _
      one (Delivered _ _ _ _) = tt
      one (Passed _) = tt

  steps_distinct : (many : ℕ) (whole : List Entry) → Wired start nodes whole → IsDistinct (all_steps many whole)
  steps_distinct zero whole w = tt
  steps_distinct (suc m) whole w = pairs_append Apart (all_steps m whole) (own_steps m whole) (steps_distinct m whole w) (own_distinct m whole w)
      (λ x y i j q.
      let a = at_step m whole x i in
      let o = own_step a.0 whole x a.2 in
      let n = own_step m whole y j in
      let u = at_its_node a.0 o.past o.entry x o.is in
      let v = at_its_node m n.past n.entry y n.is in
      let t = ap at_node q in let lt = a.1 in omega arith)

  pub release_in : (m : ℕ) (x : SourceEvent) → In x (all_releases m) → (k : ℕ) × (k < m) × (x ≡ Release (suc k))
  release_in zero x i = absurd i
  release_in (suc m) x i = ⊎_elim (λ j. let r = release_in m x j in (r.0, (let t = r.1 in omega arith), r.2)) (λ j. ⊎_elim (λ q. (m, omega arith, q)) (λ z. absurd z) j) (in-either (all_releases m) (Release (suc m) ∷ []) x i)

  releases_distinct : (m : ℕ) → IsDistinct (all_releases m)
  releases_distinct zero = tt
  releases_distinct (suc m) = pairs_append Apart (all_releases m) (Release (suc m) ∷ []) (releases_distinct m) (tt, tt)
      (λ x y i j q. ⊎_elim (λ e. let r = release_in m x i in let s = r.1 in let u : suc r.0 ≡ suc m = sym (ap num r.2) ∙ ap num (q ∙ e) in omega arith) (λ z. absurd z) j)

  -- ---- effects

  module _ (whole : List Entry) (w : Wired start nodes whole) where
    behind_pairs : (es : List CellEffect) → AtMostOnce es → Pairs (λ b a. Behind a b es) es
    behind_pairs [] once = tt
    behind_pairs (x ∷ es) once = (each-self _ es (λ a i. inl (refl, i)), pairs_more es (behind_pairs es once.1))
      where
        pairs_more : (xs : List CellEffect) → Pairs (λ b a. Behind a b es) xs → Pairs (λ b a. Behind a b (x ∷ es)) xs
        pairs_more [] p = tt
        pairs_more (y ∷ ys) p = (each-map _ _ ys (λ a h. inr h) p.0, pairs_more ys p.1)

    pub origin : (e : CellEffect) → In e (effects start whole) → Origin whole e
    origin e i = each-in (Origin whole) (effects start whole) e (origins start whole) i

    has_sort : (e : CellEffect) → In e (effects start whole) → sort (event_of whole e) ≡ 3
    has_sort e i = let o = origin e i in ap sort (event_is start nodes whole w e o) ∙ by (is_done_at_once o.access) o
      where
        by : (b : Bool) (o : Origin whole e) → sort (if b then Do e.node (requested e.node o.past) e.wrote e.place e.value else Effect e.node (requested e.node o.past) e.cell e.wrote e.place e.value) ≡ 3
        by true o = refl
        by false o = refl

    pub effect_time : (e : CellEffect) → In e (effects start whole) → time start whole (event_of whole e) ≡ occurred_in start whole whole (event_of whole e)
    effect_time e i = rw (does_event start nodes whole w e (origin e i)) refl

    rising : Pairs (λ b a. time start whole (event_of whole a) < time start whole (event_of whole b)) (effects start whole)
    rising = go (effects start whole) (λ a i. i) (behind_pairs (effects start whole) (each_part_once start whole))
      where
        go : (xs : List CellEffect) → ((a : CellEffect) → In a xs → In a (effects start whole)) → Pairs (λ b a. Behind a b (effects start whole)) xs → Pairs (λ b a. time start whole (event_of whole a) < time start whole (event_of whole b)) xs
        go [] all p = tt
        go (b ∷ xs) all p = (
          each-self _ xs (λ a i. rw (effect_time a (all a (inr i)), effect_time b (all b (inl refl)))
              (occurs_in_order start nodes whole w a b whole (λ f j. j) (each-in (λ a. Behind a b (effects start whole)) xs a p.0 i))),
          go xs (λ a i. all a (inr i)) p.1,
        )

    -- the effects stand in the order of time
    pub effects_rise : Pairs (λ a b. time start whole a < time start whole b) (all_effects start whole)
    effects_rise = pairs_reverse (λ b a. time start whole a < time start whole b) (λ a b. time start whole a < time start whole b) (λ a b t. t) (map (event_of whole) (effects start whole))
        (pairs_mapped (event_of whole) (λ b a. time start whole (event_of whole a) < time start whole (event_of whole b)) (λ b a. time start whole a < time start whole b) (effects start whole) (λ a b i j t. t) rising)

    pub effect_in : (x : SourceEvent) → In x (all_effects start whole) → (e : CellEffect) × In e (effects start whole) × (x ≡ event_of whole e)
    effect_in x i = map_in (event_of whole) (effects start whole) x (reverse_in (map (event_of whole) (effects start whole)) x i)

    pub in_effects : (e : CellEffect) → In e (effects start whole) → In (event_of whole e) (all_effects start whole)
    in_effects e i = in_reverse (map (event_of whole) (effects start whole)) (event_of whole e) (in_map (event_of whole) (effects start whole) e i)

    effects_distinct : IsDistinct (all_effects start whole)
    effects_distinct = go (all_effects start whole) effects_rise
      where
        go : (xs : List SourceEvent) → Pairs (λ a b. time start whole a < time start whole b) xs → IsDistinct xs
        go [] p = tt
        go (x ∷ xs) p = (each-map _ _ xs (λ y t q. let u = ap (time start whole) q in omega arith) p.0, go xs p.1)

    pub effect_sort : (x : SourceEvent) → In x (all_effects start whole) → sort x ≡ 3
    effect_sort x i = let r = effect_in x i in ap sort r.2 ∙ has_sort r.0 r.1

    pub step_sort : (many : ℕ) (x : SourceEvent) → In x (all_steps many whole) → sort x ≤ 1
    step_sort many x i = let a = at_step many whole x i in let o = own_step a.0 whole x a.2 in low_sort a.0 o.past o.entry x o.is

    pub release_sort : (m : ℕ) (x : SourceEvent) → In x (all_releases m) → sort x ≡ 2
    release_sort m x i = ap sort (release_in m x i).2

    rest_sort : (x : SourceEvent) → In x (all_releases (released whole) ++ all_effects start whole) → 2 ≤ sort x
    rest_sort x i = ⊎_elim (λ j. let u = release_sort (released whole) x j in omega arith) (λ j. let u = effect_sort x j in omega arith) (in-either (all_releases (released whole)) (all_effects start whole) x i)

    pub items_distinct : IsDistinct (items start nodes whole)
    items_distinct =
        pairs_append Apart (all_steps nodes whole) (all_releases (released whole) ++ all_effects start whole) (steps_distinct nodes whole w)
        (pairs_append Apart (all_releases (released whole)) (all_effects start whole) (releases_distinct (released whole)) effects_distinct
        (λ x y i j q. let u = release_sort (released whole) x i in let v = effect_sort y j in let t = ap sort q in omega arith))
        (λ x y i j q. let u = step_sort nodes x i in let v = rest_sort y j in let t = ap sort q in omega arith)
