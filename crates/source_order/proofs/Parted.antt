-- The parts of transfers among items taken: they have the values of the run, and are over where all of them were taken.
use Rattle.std.proofs.Common.{◌≡◌, ℕ, ◌<◌, ◌≤◌, List, [], ◌∷◌, ◌++◌, length, Some, None, Bool, true, false, refl, sym, ap, ◌∙◌, subst, ltb-true, lt-ltb}
use Rattle.std.specs.Prelude.{if◌then◌else◌, IsSome, nat_lt, slice_get}
use Rattle.std.proofs.lemmas.Bool.{both_ways}
use Rattle.sc_base.specs.declared.value.Place.{Place}
use Rattle.sc_base.specs.declared.value.Value.{Value}
use Rattle.effect_order.specs.Effect.{Effect as CellEffect}
use Rattle.effect_order.specs.Lists.{In}
use Rattle.sc_meaning.specs.declared.request.Request.{Request}
use Rattle.sc_meaning.specs.declared.event.SourceEvent.{SourceEvent}
use Rattle.sc_meaning.specs.declared.event.SourceEvent.TheVariants.{Do, Issue, Effect, Sync, Arrive, Release, End as Over}
use Rattle.sc_meaning.specs.Asking.{Halt, Answer}
use Rattle.resumption.specs.Resumption.{RunOf, run_of}
use Rattle.effect_order.specs.Transfer.{part_value}
use Rattle.sc_meaning.specs.Past.{Processes, effects as source_effects, made, answers, run_so_far, request_at}
use Rattle.sc_isa.specs.declared.journal.Entry.{Entry}
use Rattle.source_order.proofs.Once.{each_part_once}
use Rattle.sc_meaning.specs.OfAccess.{is_done_at_once}
use Rattle.source_order.specs.Made.{run_in, answers_in}
use Rattle.source_order.proofs.Numbers.{if_true}
use Rattle.source_order.proofs.Occurs.{some_is, part_of, part_self, found, its_value}
use Rattle.source_order.proofs.Effected.{same_effect}
use Rattle.source_order.proofs.Character.{IsAccess, an_effect}
use Rattle.source_order.proofs.Matches.{Known}
use Rattle.sc_meaning.specs.Answering.{WaitsForAnswers}
use Rattle.source_order.proofs.Asked.{asks}
use Rattle.source_order.proofs.Prefixes.{same_request}
use Rattle.source_order.proofs.Taken.{It, E, Took, took_it, effect_event, event_effect, some_value, same_issue}

module _ (processes : Processes) (whole : List Entry) (known : Known processes whole) where
  -- a part that was taken has the run's value
  pub value_back : (past : List SourceEvent) → Took processes whole known past → (p k c : ℕ) (wrote once : Bool) (v : Value) (a : IsAccess whole p k once)
      → part_value p k c wrote (source_effects past) ≡ Some v → part_value p a.n c wrote (E processes whole known) ≡ Some v
  value_back past t p k c wrote once v a h =
      let f = found p k c wrote (source_effects past) v h in
      let x = effect_event f.0 past f.1 in
      let q = part_of p k c wrote f.0 f.2 in
      by x.0 (took_it processes whole known past t x.0 x.1) f.0 x.2 q f.3
    where
      from : (y : Bool) (q j d : ℕ) (w : Bool) (place : Place) (value : Value) (b : IsAccess whole q j y) → In (an_effect q b.n d w place value) (E processes whole known)
          → q ≡ p → j ≡ k → d ≡ c → w ≡ wrote → value ≡ v → part_value p a.n c wrote (E processes whole known) ≡ Some v
      from y q j d w place value b i hp hk hc hw hv =
          let n = (same_issue processes whole known q j p k y once hp hk b a).0 in
          let z = its_value (an_effect q b.n d w place value) (E processes whole known) (each_part_once processes.start whole) i in
          subst (λ u. part_value p a.n c wrote (E processes whole known) ≡ Some u) hv
          (subst (λ u. part_value p a.n c u (E processes whole known) ≡ Some value) hw (subst (λ u. part_value p a.n u w (E processes whole known) ≡ Some value) hc
          (subst (λ u. part_value u a.n d w (E processes whole known) ≡ Some value) hp (subst (λ u. part_value q u d w (E processes whole known) ≡ Some value) n z))))

      by : (x : SourceEvent) → It processes whole known x → (e : CellEffect) → source_effects (x ∷ []) ≡ e ∷ [] → (e.node ≡ p) × (e.number ≡ k) × (e.cell ≡ c) × (e.wrote ≡ wrote) → e.value ≡ v → part_value p a.n c wrote (E processes whole known) ≡ Some v
      by (Do q j w place value) hx e s g hv =
          let z : an_effect q j 0 w place value ≡ e = cc in
          from true q j 0 w place value hx.0 hx.1 (ap (λ (u : CellEffect). u.node) z ∙ g.0) (ap (λ (u : CellEffect). u.number) z ∙ g.1) (ap (λ (u : CellEffect). u.cell) z ∙ g.2) (ap (λ (u : CellEffect). u.wrote) z ∙ g.3) (ap (λ (u : CellEffect). u.value) z ∙ hv)
      by (Effect q j d w place value) hx e s g hv =
          let z : an_effect q j d w place value ≡ e = cc in
          from false q j d w place value hx.0 hx.1 (ap (λ (u : CellEffect). u.node) z ∙ g.0) (ap (λ (u : CellEffect). u.number) z ∙ g.1) (ap (λ (u : CellEffect). u.cell) z ∙ g.2) (ap (λ (u : CellEffect). u.wrote) z ∙ g.3) (ap (λ (u : CellEffect). u.value) z ∙ hv)
      by (Issue _ _) hx e s g hv = absurd cc
      by (Sync _ _) hx e s g hv = absurd cc
      by (Arrive _ _ _) hx e s g hv = absurd cc
      by (Release _) hx e s g hv = absurd cc
      by (Over _ _) hx e s g hv = absurd cc

  -- a part of an access that is not done at once, and is over: its event was taken
  pub part_taken : (past : List SourceEvent) → Took processes whole known past → (p k c : ℕ) (wrote : Bool) (place : Place) (value : Value) → It processes whole known (Effect p k c wrote place value)
      → IsSome (part_value p k c wrote (source_effects past)) → In (Effect p k c wrote place value) past
  part_taken past t p k c wrote place value h s =
      let v = some_is (part_value p k c wrote (source_effects past)) s in
      let f = found p k c wrote (source_effects past) v.0 v.1 in
      let x = effect_event f.0 past f.1 in
      by x.0 x.1 (took_it processes whole known past t x.0 x.1) f.0 x.2 (part_of p k c wrote f.0 f.2)
    where
      by : (x : SourceEvent) → In x past → It processes whole known x → (e : CellEffect) → source_effects (x ∷ []) ≡ e ∷ [] → (e.node ≡ p) × (e.number ≡ k) × (e.cell ≡ c) × (e.wrote ≡ wrote) → In (Effect p k c wrote place value) past
      by (Do q j w pl vl) i hx e s g =
          let z : an_effect q j 0 w pl vl ≡ e = cc in
          let n = same_issue processes whole known q j p k true false (ap (λ (u : CellEffect). u.node) z ∙ g.0) (ap (λ (u : CellEffect). u.number) z ∙ g.1) hx.0 h.0 in
          absurd (both_ways (is_done_at_once h.0.access) h.0.kind (subst (λ u. is_done_at_once u ≡ true) n.1 hx.0.kind))
      by (Effect q j d w pl vl) i hx e s g =
          let z : an_effect q j d w pl vl ≡ e = cc in
          let hp : q ≡ p = ap (λ (u : CellEffect). u.node) z ∙ g.0 in
          let hk : j ≡ k = ap (λ (u : CellEffect). u.number) z ∙ g.1 in
          let hc : d ≡ c = ap (λ (u : CellEffect). u.cell) z ∙ g.2 in
          let hw : w ≡ wrote = ap (λ (u : CellEffect). u.wrote) z ∙ g.3 in
          let n = (same_issue processes whole known q j p k false false hp hk hx.0 h.0).0 in
          let a1 : In (an_effect p h.0.n c wrote pl vl) (E processes whole known) =
          subst (λ u. In (an_effect p h.0.n c u pl vl) (E processes whole known)) hw (subst (λ u. In (an_effect p h.0.n u w pl vl) (E processes whole known)) hc
          (subst (λ u. In (an_effect u h.0.n d w pl vl) (E processes whole known)) hp (subst (λ u. In (an_effect q u d w pl vl) (E processes whole known)) n hx.1))) in
          let same = same_effect (E processes whole known) (an_effect p h.0.n c wrote place value) (an_effect p h.0.n c wrote pl vl) (each_part_once processes.start whole) h.1 a1 (part_self (an_effect p h.0.n c wrote pl vl)) in
          subst (λ u. In u past) (ap (λ u. Effect u j d w pl vl) hp ∙ ap (λ u. Effect p u d w pl vl) hk ∙ ap (λ u. Effect p k u w pl vl) hc ∙ ap (λ u. Effect p k c u pl vl) hw ∙ ap (λ (u : CellEffect). Effect p k c wrote u.place u.value) (sym same)) i
      by (Issue _ _) i hx e s g = absurd cc
      by (Sync _ _) i hx e s g = absurd cc
      by (Arrive _ _ _) i hx e s g = absurd cc
      by (Release _) i hx e s g = absurd cc
      by (Over _ _) i hx e s g = absurd cc

  pub taken_part : (past : List SourceEvent) (p k c : ℕ) (wrote : Bool) (place : Place) (value : Value) → In (Effect p k c wrote place value) past → IsSome (part_value p k c wrote (source_effects past))
  taken_part past p k c wrote place value i =
      some_value p k c wrote (an_effect p k c wrote place value) (source_effects past) (event_effect (Effect p k c wrote place value) (an_effect p k c wrote place value) past i refl) (part_self (an_effect p k c wrote place value))

  -- ---- requests made

  abbrev pub Full : ℕ → RunOf Request Halt
  Full p = run_in processes p whole

  -- how many of its first requests are answered
  abbrev pub Needed : (p k : ℕ) → ℕ
  Needed p k = asks k (Full p).events

  -- the answers so far are the first ones of the run, and hold for all requests made but the last
  pub record Begun (p : ℕ) (past : List SourceEvent) : Type 0 where
    pub rest : List Answer
    pub prefix : answers_in (E processes whole known) p whole ≡ answers processes p past ++ rest
    pub enough : (k : ℕ) → k < made p past → Needed p k ≤ length (answers processes p past)
    pub waits : WaitsForAnswers (processes.starts p)

  pub same_so_far : (p : ℕ) (past : List SourceEvent) (b : Begun p past) (k : ℕ) → Needed p k ≤ length (answers processes p past) → slice_get (run_so_far processes p past).events k ≡ slice_get (Full p).events k
  same_so_far p past b k le =
      same_request (processes.starts p) b.waits (answers processes p past) b.rest k (subst (λ u. asks k (run_of (processes.starts p) u).events ≤ length (answers processes p past)) b.prefix le) ∙ ap (λ u. slice_get (run_of (processes.starts p) u).events k) (sym b.prefix)

  pub made_request : (p : ℕ) (past : List SourceEvent) → Begun p past → (k : ℕ) (r : Request) → k < made p past → slice_get (Full p).events k ≡ Some r → request_at processes p k past ≡ Some r
  made_request p past b k r lt h = if_true (nat_lt k (made p past)) _ _ (lt-ltb k (made p past) lt) ∙ same_so_far p past b k (b.enough k lt) ∙ h

  pub request_made : (p : ℕ) (past : List SourceEvent) → Begun p past → (k : ℕ) (r : Request) → request_at processes p k past ≡ Some r → (k < made p past) × (slice_get (Full p).events k ≡ Some r)
  request_made p past b k r h = by (nat_lt k (made p past)) refl h
    where
      by : (t : Bool) → nat_lt k (made p past) ≡ t → (if t then slice_get (run_so_far processes p past).events k else None) ≡ Some r → (k < made p past) × (slice_get (Full p).events k ≡ Some r)
      by true e i =
          let lt : k < made p past = ltb-true k (made p past) e in
          (lt, sym (same_so_far p past b k (b.enough k lt)) ∙ i)
      by false e i = absurd cc
