-- The source allows a part of a transfer exactly where all that it needs was taken, and it shows what its place holds.
use Rattle.std.proofs.Common.{◌≡◌, ℕ, ◌<◌, List, Option, Some, None, Bool, true, false, not, ◌==◌, ◌&&◌, refl, sym, ap, ◌∙◌, subst, arith, eqb-true}
use Rattle.std.specs.Prelude.{if◌then◌else◌, IsSome, slice_get, nat_lt}
use Rattle.std.proofs.lemmas.Bool.{and_parts, and_from}
use Rattle.sc_base.specs.declared.value.Place.{Place}
use Rattle.sc_base.specs.declared.value.Value.{Value}
use Rattle.effect_order.specs.Lists.{In}
use Rattle.sc_meaning.specs.declared.event.SourceEvent.{SourceEvent}
use Rattle.sc_meaning.specs.declared.event.SourceEvent.TheVariants.{Do, Issue, Effect, Sync, Arrive, Release, End as Over}
use Rattle.effect_order.specs.Transfer.{Transfer, part_place, part_value, or_read, written}
use Rattle.sc_meaning.specs.Parts.{transfer_of, is_issued}
use Rattle.sc_meaning.specs.Past.{Processes, effects as source_effects, made}
use Rattle.sc_meaning.specs.History.{EffectAllowed}
use Rattle.sc_isa.specs.declared.access.Access.{Access}
use Rattle.sc_isa.specs.declared.access.Access.TheVariants.{Read, Write, Copy}
use Rattle.sc_isa.specs.declared.journal.Entry.{Entry}
use Rattle.fabric.specs.Access.{transfer_of as moved_by}
use Rattle.source_order.specs.Needs.{part_needs}
use Rattle.source_order.proofs.Numbers.{eq_self}
use Rattle.source_order.proofs.Occurs.{as_part, some_from, some_is, found, part_of}
use Rattle.source_order.proofs.Character.{an_effect}
use Rattle.source_order.proofs.Matches.{Known, fits, issued_unlined}
use Rattle.source_order.proofs.Taken.{It, E, Took, taken_low, has_place, same_issue}
use Rattle.source_order.proofs.Parted.{Full, Begun, value_back, part_taken, taken_part, made_request, request_made}
use Rattle.source_order.proofs.Over.{Behind, behind}
use Rattle.source_order.proofs.Reached.{own_taken}
use Rattle.source_order.proofs.NextOnes.{start_of}
use Rattle.source_order.proofs.MetOwn.{holds, Met, Shown, written_by}

-- what both reads and writes is a copy, and writes what it read
both_sides : (access : Access) (c : ℕ) (p q : Place) → part_place (moved_by access) c false ≡ Some p → part_place (moved_by access) c true ≡ Some q → (moved_by access).value ≡ None
both_sides (Copy from to cells track) c p q h i = refl
both_sides (Read place track) c p q h i = absurd (by (nat_lt c 1) i)
  where
    by : (b : Bool) → (if b then None else None) ≡ Some q → ⊥
    by true e = absurd cc
    by false e = absurd cc
both_sides (Write place value track) c p q h i = absurd (by (nat_lt c 1) h)
  where
    by : (b : Bool) → (if b then None else None) ≡ Some p → ⊥
    by true e = absurd cc
    by false e = absurd cc

module _ (processes : Processes) (whole : List Entry) (known : Known processes whole) (past : List SourceEvent) (t : Took processes whole known past) where
  pub part_to : (p k c : ℕ) (wrote : Bool) (place : Place) (value : Value) → It processes whole known (Effect p k c wrote place value) → EffectAllowed processes past p k c wrote place value
      → Met processes whole known past t (Effect p k c wrote place value) × Shown processes whole known past t (Effect p k c wrote place value)
  part_to p k c wrote place value h a = (met, (λ e. a.reads e ∙ sym (holds processes.start place past), tt))
    where
      b : Behind processes whole known p k h.0.access
      b = behind processes whole known p k false h.0

      begun_p : Begun processes whole known p past
      begun_p = start_of processes whole known past t p a.node_within

      made_k : (k < made p past) × (slice_get (Full processes whole known p).events k ≡ Some a.request)
      made_k = request_made processes whole known p past begun_p k a.request a.made_before

      same : a.request ≡ b.request
      same = let x = made_k.1 in let y = b.its in cc

      read_first : (q j d : ℕ) (pl : Place) (v : Value) → It processes whole known (Effect q j d false pl v) → q ≡ p → j ≡ k → d ≡ c → wrote ≡ true → In (Effect q j d false pl v) past
      read_first q j d pl v i hp hk hc hw =
          let n = same_issue processes whole known q j p k false false hp hk i.0 h.0 in
          let rp = has_place processes whole known q j d false false pl v i.0 i.1 in
          let rp2 : part_place (moved_by h.0.access) c false ≡ Some pl = subst (λ u. part_place (moved_by u) c false ≡ Some pl) n.1 (subst (λ u. part_place (moved_by i.0.access) u false ≡ Some pl) hc rp) in
          let wp : part_place (moved_by h.0.access) c true ≡ Some place = subst (λ u. part_place (moved_by h.0.access) c u ≡ Some place) hw (has_place processes whole known p k c false wrote place value h.0 h.1) in
          let none : (transfer_of a.request).value ≡ None = ap (λ u. (transfer_of u).value) same ∙ ap (λ (u : Transfer). u.value) b.moves ∙ both_sides h.0.access c pl place rp2 wp in
          let got_it : or_read None p k c (source_effects past) ≡ Some value = subst (λ u. or_read u p k c (source_effects past) ≡ Some value) none (a.writes hw) in
          part_taken processes whole known past t q j d false pl v i (subst (λ u. IsSome (part_value u j d false (source_effects past))) (sym hp) (subst (λ u. IsSome (part_value p u d false (source_effects past))) (sym hk) (subst (λ u. IsSome (part_value p k u false (source_effects past))) (sym hc) (some_from _ value got_it))))

      met : Met processes whole known past t (Effect p k c wrote place value)
      met (Issue q j) i s =
          let z = and_parts (q == p) (j == k) s in
          let hp = eqb-true q p z.0 in let hk = eqb-true j k z.1 in
          own_taken processes whole known past t (Issue q j) i refl (let u = ap (λ v. made v past) hp in omega (arith, u, hk, made_k.0))
      met (Effect q j d w pl v) i s = by w wrote refl refl s i
        where
          by : (x y : Bool) → w ≡ x → wrote ≡ y → part_needs whole (Effect q j d x pl v) p k c y ≡ true → It processes whole known (Effect q j d w pl v) → In (Effect q j d w pl v) past
          by false true e f s i =
              let z = and_parts (q == p) ((j == k) && (d == c)) s in
              let y = and_parts (j == k) (d == c) z.1 in
              subst (λ u. In (Effect q j d u pl v) past) (sym e) (read_first q j d pl v (subst (λ u. It processes whole known (Effect q j d u pl v)) e i) (eqb-true q p z.0) (eqb-true j k y.0) (eqb-true d c y.1) f)
          by false false e f s i = absurd cc
          by true true e f s i = absurd cc
          by true false e f s i = absurd cc
      met (Do _ _ _ _ _) i s = absurd cc
      met (Sync _ _) i s = absurd cc
      met (Arrive _ _ _) i s = absurd cc
      met (Release _) i s = absurd cc
      met (Over _ _) i s = absurd cc

  pub part_from : (p k c : ℕ) (wrote : Bool) (place : Place) (value : Value) → It processes whole known (Effect p k c wrote place value) → (In (Effect p k c wrote place value) past → ⊥)
      → Met processes whole known past t (Effect p k c wrote place value) → Shown processes whole known past t (Effect p k c wrote place value) → EffectAllowed processes past p k c wrote place value
  part_from p k c wrote place value h out met s =
      let b = behind processes whole known p k false h.0 in
      let i = met (Issue p k) h.0 (and_from (p == p) (k == k) (eq_self p) (eq_self k)) in
      let lt = taken_low processes whole known past t (Issue p k) i refl in
      record {
        node_within = b.node_within;
        request = b.request;
        made_before = made_request processes whole known p past (start_of processes whole known past t p b.node_within) k b.request lt b.its;
        issued = sym (issued_unlined b.request) ∙ ap is_issued b.is ∙ (fits h.0.access b.sane).1 ∙ ap (λ u. not u) h.0.kind;
        its_place = ap (λ u. part_place u c wrote) b.moves ∙ has_place processes whole known p k c false wrote place value h.0 h.1;
        once = none (part_value p k c wrote (source_effects past)) refl;
        reads = λ e. s.0 e ∙ holds processes.start place past;
        writes = λ e. writes b e (moved_by h.0.access).value refl;
      }
    where
      none : (o : Option Value) → part_value p k c wrote (source_effects past) ≡ o → part_value p k c wrote (source_effects past) ≡ None
      none None e = e
      none (Some v) e = absurd (out (part_taken processes whole known past t p k c wrote place value h (some_from _ v e)))

      writes : (b : Behind processes whole known p k h.0.access) → wrote ≡ true → (o : Option Value) → (moved_by h.0.access).value ≡ o → written (transfer_of b.request) p k c (source_effects past) ≡ Some value
      writes b e o f = ap (λ u. written u p k c (source_effects past)) b.moves ∙ ap (λ u. or_read u p k c (source_effects past)) f ∙ by o (subst (λ u. or_read u p h.0.n c (E processes whole known) ≡ Some value) f
          (written_by processes whole known past t p k c false place value h.0 (subst (λ u. In (an_effect p h.0.n c u place value) (E processes whole known)) e h.1)))
        where
          by : (o : Option Value) → or_read o p h.0.n c (E processes whole known) ≡ Some value → or_read o p k c (source_effects past) ≡ Some value
          by (Some v) g = g
          by None g =
              let r = found p h.0.n c false (E processes whole known) value g in
              let q = part_of p h.0.n c false r.0 r.2 in
              let it : In (an_effect p h.0.n c false r.0.place r.0.value) (E processes whole known) = as_part p h.0.n c false r.0 (E processes whole known) r.1 r.2 in
              let i = met (Effect p k c false r.0.place r.0.value) (h.0, it) (subst (λ u. part_needs whole (Effect p k c false r.0.place r.0.value) p k c u ≡ true) (sym e) (and_from (p == p) ((k == k) && (c == c)) (eq_self p) (and_from (k == k) (c == c) (eq_self k) (eq_self c)))) in
              let v = some_is (part_value p k c false (source_effects past)) (taken_part processes whole known past p k c false r.0.place r.0.value i) in
              let back = value_back processes whole known past t p k c false false v.0 h.0 v.1 in
              v.1 ∙ sym back ∙ g
