-- What the items of a run are: each own step, each release and each effect, and nothing else.
use Rattle.std.proofs.Common.{◌≡◌, ℕ, zero, suc, ◌<◌, List, [], ◌∷◌, ◌++◌, Some, Bool, true, false, ◌==◌, ◌&&◌, refl, sym, ap, subst, inl, ⊎_elim, arith}
use Rattle.std.specs.Prelude.{if◌then◌else◌}
use Rattle.std.proofs.lemmas.Bool.{cases_lt}
use Rattle.sc_base.specs.declared.value.Place.{Place}
use Rattle.sc_base.specs.declared.value.Value.{Value}
use Rattle.sc_base.specs.declared.value.End.{End}
use Rattle.sc_base.specs.declared.value.End.TheVariants as kind
use Rattle.sc_meaning.specs.declared.request.Request.{Request}
use Rattle.effect_order.specs.Effect.{Effect as CellEffect}
use Rattle.effect_order.specs.Lists.{In}
use Rattle.effect_order.proofs.Members.{in-either}
use Rattle.sc_meaning.specs.declared.event.SourceEvent.{SourceEvent}
use Rattle.sc_meaning.specs.declared.event.SourceEvent.TheVariants.{Do, Issue, Effect, Sync, Arrive, Release, End as Over}
use Rattle.sc_isa.specs.declared.access.Access.{Access}
use Rattle.sc_isa.specs.declared.journal.Entry.{Entry}
use Rattle.sc_isa.specs.declared.journal.Entry.TheVariants.{Issued, Waited, Arrived, Finished}
use Rattle.fabric.specs.Effects.{effects}
use Rattle.fabric.specs.Barriers.{released}
use Rattle.fabric.specs.Wired.{EntryWired, Wired}
use Rattle.source_order.specs.Steps.{request_by, requested}
use Rattle.sc_meaning.specs.OfAccess.{request_in, is_done_at_once}
use Rattle.source_order.specs.Moments.{event_of}
use Rattle.source_order.specs.Items.{all_steps, all_releases, all_effects, items}
use Rattle.source_order.proofs.Stands.{Stands, wired_at}
use Rattle.source_order.proofs.Numbers.{if_true, access_is, issued_is, both_self, eq_self}
use Rattle.source_order.proofs.Members.{in_left, in_right}
use Rattle.source_order.proofs.Own.{StepOf, OfIssue, OfSync, OfArrival, OfEnd, OwnStep, own_step, step_own, step_at, at_step}
use Rattle.source_order.proofs.Effected.{Origin, only_cell, event_is}
use Rattle.source_order.proofs.Distinct.{origin, release_in, effect_in, in_effects}
use Rattle.source_order.proofs.Standing.{own_running}

-- the node's access with this number among its requests
pub record IsAccess (whole : List Entry) (p k : ℕ) (once : Bool) : Type 0 where
  pub past : List Entry
  pub n : ℕ
  pub access : Access
  pub stands : Stands past (Issued p n access) whole
  pub numbered : requested p past ≡ k
  pub kind : is_done_at_once access ≡ once

abbrev pub an_effect : ℕ → ℕ → ℕ → Bool → Place → Value → CellEffect
an_effect p n c wrote place value = record { node = p; number = n; cell = c; wrote = wrote; place = place; value = value }

module _ (start : Place → Value) (nodes : ℕ) (whole : List Entry) where
  -- what is known of an item
  abbrev pub Is : SourceEvent → Type 0
  Is (Do p k wrote place value) = (a : IsAccess whole p k true) × In (an_effect p a.n 0 wrote place value) (effects start whole)
  Is (Issue p k) = IsAccess whole p k false
  Is (Effect p k c wrote place value) = (a : IsAccess whole p k false) × In (an_effect p a.n c wrote place value) (effects start whole)
  Is (Sync p k) = (past : List Entry) × Stands past (Waited p 0) whole × (requested p past ≡ k)
  Is (Arrive p k stores) = (past : List Entry) × Stands past (Arrived p stores) whole × (requested p past ≡ k)
  Is (Release m) = (r : ℕ) × (m ≡ suc r) × (r < released whole)
  Is (Over p end) = (past : List Entry) × Stands past (Finished p end) whole

  pub step_character : (p : ℕ) (x : SourceEvent) → OwnStep p whole x → Is x
  step_character p x o = by o.is
    where
      by : StepOf p o.past o.entry x → Is x
      by (OfIssue n access e h q) = subst Is (sym q) (record { past = o.past; n = n; access = access; stands = subst (λ u. Stands o.past u whole) e o.stands; numbered = refl; kind = h })
      by (OfSync e q) = subst Is (sym q) (o.past, subst (λ u. Stands o.past u whole) e o.stands, refl)
      by (OfArrival stores e q) = subst Is (sym q) (o.past, subst (λ u. Stands o.past u whole) e o.stands, refl)
      by (OfEnd end e q) = subst Is (sym q) (o.past, subst (λ u. Stands o.past u whole) e o.stands)

  module _ (w : Wired start nodes whole) where
    pub effect_character : (e : CellEffect) → In e (effects start whole) → (o : Origin whole e) → Is (event_of whole e)
    effect_character e i o = subst Is (sym (event_is start nodes whole w e o)) (by (is_done_at_once o.access) refl)
      where
        one : is_done_at_once o.access ≡ true → In (an_effect e.node e.number 0 e.wrote e.place e.value) (effects start whole)
        one h = subst (λ c. In (an_effect e.node e.number c e.wrote e.place e.value) (effects start whole)) (only_cell o.access e.cell e.wrote e.place h o.has) i

        by : (b : Bool) → is_done_at_once o.access ≡ b → Is (if b then Do e.node (requested e.node o.past) e.wrote e.place e.value else Effect e.node (requested e.node o.past) e.cell e.wrote e.place e.value)
        by true h = (record { past = o.past; n = e.number; access = o.access; stands = o.stands; numbered = refl; kind = h }, one h)
        by false h = (record { past = o.past; n = e.number; access = o.access; stands = o.stands; numbered = refl; kind = h }, i)

    pub is_item : (x : SourceEvent) → In x (items start nodes whole) → Is x
    is_item x i =
        ⊎_elim (λ j. let a = at_step nodes whole x j in step_character a.0 x (own_step a.0 whole x a.2))
        (λ j. ⊎_elim
        (λ r. let a = release_in start nodes (released whole) x r in subst Is (sym a.2) (a.0, refl, a.1))
        (λ f. let a = effect_in start nodes whole w x f in subst Is (sym a.2) (effect_character a.0 a.1 (origin start nodes whole w a.0 a.1)))
        (in-either (all_releases (released whole)) (all_effects start whole) x j))
        (in-either (all_steps nodes whole) (all_releases (released whole) ++ all_effects start whole) x i)

    request_within : (p : ℕ) (past : List Entry) (e : Entry) (r : Request) → Stands past e whole → request_by p e ≡ Some r → p < nodes
    request_within p past e r s h = (own_running start nodes p e past (wired_at start nodes past e whole w s).0 r h).2

    release_is : (m r : ℕ) → r < m → In (Release (suc r)) (all_releases m)
    release_is zero r lt = absurd (omega arith)
    release_is (suc m) r lt = ⊎_elim (λ t. in_left (all_releases m) (Release (suc m) ∷ []) (Release (suc r)) (release_is m r t))
        (λ t. in_right (all_releases m) (Release (suc m) ∷ []) (Release (suc r)) (inl (let e : r ≡ m = omega arith in ap (λ u. Release (suc u)) e))) (cases_lt r m)

    in_steps : (p : ℕ) (x : SourceEvent) → p < nodes → OwnStep p whole x → In x (items start nodes whole)
    in_steps p x n o = in_left (all_steps nodes whole) _ x (step_at p nodes whole x n (step_own p whole x o))

    in_parts : (e : CellEffect) → In e (effects start whole) → In (event_of whole e) (items start nodes whole)
    in_parts e i = in_right (all_steps nodes whole) _ (event_of whole e) (in_right (all_releases (released whole)) _ (event_of whole e) (in_effects start nodes whole w e i))

    -- the event of an effect of an access
    pub event_at : (p k c : ℕ) (wrote : Bool) (place : Place) (value : Value) (once : Bool) (a : IsAccess whole p k once) → In (an_effect p a.n c wrote place value) (effects start whole)
        → event_of whole (an_effect p a.n c wrote place value) ≡ (if once then Do p k wrote place value else Effect p k c wrote place value)
    event_at p k c wrote place value once a i =
        let j = access_is start nodes p a.n a.access a.past whole w a.stands in
        rw (j.0, j.1, a.kind, a.numbered) refl

    pub within_end : (end : End) (past : List Entry) (p : ℕ) → EntryWired start nodes past (Finished p end) → p < nodes
    within_end kind.Waiting past p u = u.running.node_within
    within_end kind.Ended past p u = u.running.node_within
    within_end (kind.Fault k l) past p u = u.running.node_within
    within_end kind.Cut past p u = u.running.node_within

    pub item_is : (x : SourceEvent) → Is x → In x (items start nodes whole)
    item_is (Do p k wrote place value) h = subst (λ u. In u (items start nodes whole)) (event_at p k 0 wrote place value true h.0 h.1) (in_parts (an_effect p h.0.n 0 wrote place value) h.1)
    item_is (Effect p k c wrote place value) h = subst (λ u. In u (items start nodes whole)) (event_at p k c wrote place value false h.0 h.1) (in_parts (an_effect p h.0.n c wrote place value) h.1)
    item_is (Issue p k) h =
        in_steps p (Issue p k) (request_within p h.past (Issued p h.n h.access) (request_in h.access) h.stands (issued_is p h.n h.access))
        (record { past = h.past; entry = Issued p h.n h.access; stands = h.stands; is = OfIssue h.n h.access refl h.kind (ap (λ u. Issue p u) (sym h.numbered)) })
    item_is (Sync p k) h =
        in_steps p (Sync p k) (request_within p h.0 (Waited p 0) _ h.1 (if_true ((p == p) && (0 == 0)) _ _ (both_self p 0)))
        (record { past = h.0; entry = Waited p 0; stands = h.1; is = OfSync refl (ap (λ u. Sync p u) (sym h.2)) })
    item_is (Arrive p k stores) h =
        in_steps p (Arrive p k stores) (request_within p h.0 (Arrived p stores) _ h.1 (if_true (p == p) _ _ (eq_self p)))
        (record { past = h.0; entry = Arrived p stores; stands = h.1; is = OfArrival stores refl (ap (λ u. Arrive p u stores) (sym h.2)) })
    item_is (Release m) h = in_right (all_steps nodes whole) _ (Release m) (in_left (all_releases (released whole)) _ (Release m) (subst (λ u. In (Release u) (all_releases (released whole))) (sym h.1) (release_is (released whole) h.0 h.2)))
    item_is (Over p end) h =
        in_steps p (Over p end) (within_end end h.0 p (wired_at start nodes h.0 (Finished p end) whole w h.1).0)
        (record { past = h.0; entry = Finished p end; stands = h.1; is = OfEnd end refl refl })
