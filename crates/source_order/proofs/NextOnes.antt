-- A node's own step is its next one exactly where all that it needs was taken.
use Rattle.std.proofs.Common.{◌≡◌, ℕ, zero, suc, ◌<◌, ◌≤◌, List, Option, Some, None, Bool, true, ◌==◌, ◌&&◌, refl, sym, ap, ◌∙◌, subst, ⊎_elim, arith, eqb-true, ltb-true, lt-ltb}
use Rattle.std.specs.Prelude.{slice_get, nat_lt, nat_le}
use Rattle.std.proofs.lemmas.Bool.{and_parts, and_from, cases_lt}
use Rattle.sc_base.specs.declared.value.Place.{Place}
use Rattle.sc_base.specs.declared.value.Value.{Value}
use Rattle.sc_base.specs.declared.value.End.{End}
use Rattle.effect_order.specs.Lists.{In}
use Rattle.sc_meaning.specs.declared.request.Request.{Request}
use Rattle.sc_meaning.specs.declared.event.SourceEvent.{SourceEvent}
use Rattle.sc_meaning.specs.declared.event.SourceEvent.TheVariants.{Do, Issue, Effect, Sync, Arrive, Release, End as Over}
use Rattle.sc_meaning.specs.Parts.{is_blocking_copy}
use Rattle.sc_meaning.specs.Past.{Processes, made, arrivals, releases, ended, run_so_far}
use Rattle.sc_meaning.specs.History.{AllDone, GoesOn, IsNext}
use Rattle.meaning_laws.proofs.Decided.{le_decides}
use Rattle.sc_isa.specs.declared.journal.Entry.{Entry}
use Rattle.fabric.specs.Barriers.{arrivals as run_arrivals, released}
use Rattle.source_order.specs.Steps.{requested, arrivals_among}
use Rattle.sc_meaning.specs.OfAccess.{is_blocking}
use Rattle.source_order.specs.Needs.{is_on, step_needs}
use Rattle.source_order.proofs.Stands.{wired_at, requested_below}
use Rattle.source_order.proofs.Numbers.{eq_self, among_before}
use Rattle.source_order.proofs.Occurs.{some_from}
use Rattle.source_order.proofs.Distinct.{num, at_node}
use Rattle.source_order.proofs.Standing.{own_running, level, released_since}
use Rattle.source_order.proofs.Matches.{Known}
use Rattle.source_order.proofs.Taken.{It, Took, is_own, taken_low, place_of}
use Rattle.source_order.proofs.Parted.{Full, Needed, Begun, same_so_far}
use Rattle.source_order.proofs.Over.{blocking_kind, parts_in, all_done}
use Rattle.source_order.proofs.Kept.{kept}
use Rattle.source_order.proofs.Progress.{Kept, begun, eq_is}
use Rattle.source_order.proofs.Reached.{release_low, low_release, own_taken, own_exists}

pub le_from : (a b : ℕ) → a ≤ b → nat_le a b ≡ true
le_from a b h = (le_decides a b).1 h

pub le_is : (a b : ℕ) → nat_le a b ≡ true → a ≤ b
le_is a b h = (le_decides a b).0 h

module _ (processes : Processes) (whole : List Entry) (known : Known processes whole) (past : List SourceEvent) (t : Took processes whole known past) where
  abbrev pub Kn : (p : ℕ) → p < processes.nodes → Type 0
  Kn p n = Kept processes whole known p n past

  pub know : (p : ℕ) (n : p < processes.nodes) → Kn p n
  know p n = kept processes whole known p n past t

  pub start_of : (p : ℕ) (n : p < processes.nodes) → Begun processes whole known p past
  start_of p n = begun processes whole known p n past (know p n)

  -- what a step with this number needs was taken
  abbrev pub StepMet : ℕ → ℕ → Type 0
  StepMet p k = (a : SourceEvent) → It processes whole known a → step_needs whole a p k ≡ true → In a past

  -- where as many requests are made, no barrier is unreleased, and blocking parts are over
  pub step_met : (p k : ℕ) (n : p < processes.nodes) → k ≤ made p past → arrivals_among p k whole ≤ releases past
      → ((j c : ℕ) (wrote : Bool) (place : Place) (value : Value) → j < k → It processes whole known (Effect p j c wrote place value) → is_on whole is_blocking p j ≡ true → In (Effect p j c wrote place value) past) → StepMet p k
  step_met p k n m r parts a h s = by a h s
    where
      own : (a : SourceEvent) (q j : ℕ) → It processes whole known a → is_own a ≡ true → at_node a ≡ q → num a ≡ j → ((q == p) && nat_lt j k) ≡ true → In a past
      own a q j h o e f s =
          let z = and_parts (q == p) (nat_lt j k) s in
          let y : q ≡ p = eqb-true q p z.0 in
          let l : j < k = ltb-true j k z.1 in
          own_taken processes whole known past t a h o (let u = ap (λ v. made v past) (e ∙ y) in omega (arith, u, l, f, m))

      by : (a : SourceEvent) → It processes whole known a → step_needs whole a p k ≡ true → In a past
      by (Do q j wrote place value) h s = own (Do q j wrote place value) q j h refl refl refl s
      by (Issue q j) h s = own (Issue q j) q j h refl refl refl s
      by (Sync q j) h s = own (Sync q j) q j h refl refl refl s
      by (Arrive q j st) h s = own (Arrive q j st) q j h refl refl refl s
      by (Effect q j c wrote place value) h s =
          let z = and_parts (q == p) (nat_lt j k && is_on whole is_blocking p j) s in
          let y = and_parts (nat_lt j k) (is_on whole is_blocking p j) z.1 in
          let e : q ≡ p = eqb-true q p z.0 in
          subst (λ u. In (Effect u j c wrote place value) past) (sym e) (parts j c wrote place value (ltb-true j k y.0) (subst (λ u. It processes whole known (Effect u j c wrote place value)) e h) y.1)
      by (Release m) h s = low_release processes whole known past t m h.0 h.1 (let z : m ≤ arrivals_among p k whole = le_is m (arrivals_among p k whole) s in omega (arith, r))
      by (Over q end) h s = absurd cc

  pub next_met : (p k : ℕ) (r : Request) → IsNext processes past p k r → StepMet p k
  next_met p k r g =
      let n = g.goes_on.node_within in
      let m = g.numbered in
      let i = (know p n).among in
      let e = ap (λ u. arrivals_among p u whole) m in
      let l = g.goes_on.released in
      step_met p k n (omega arith) (omega arith)
      (λ j c wrote place value lt h o. parts_in processes whole known is_blocking_copy is_blocking blocking_kind p past t (start_of p n) g.goes_on.copies_done j c wrote place value (omega (arith, lt, m)) h o)

  -- an item of the node with some number makes the releases up to it items
  pub number_made : (p k : ℕ) (n : p < processes.nodes) → k ≤ requested p whole → StepMet p k → k ≤ made p past
  number_made p k n le met = ⊎_elim
      (λ lt.
      let a = own_exists processes whole known p n (made p past) (omega arith) in
      let i = met a.0 a.1 (needed a.0 a.2 a.3 a.4 lt) in
      let l = taken_low processes whole known past t a.0 i a.2 in
      let u = ap (λ v. made v past) a.3 in let v = a.4 in absurd (omega arith))
      (λ ge. ge) (cases_lt (made p past) k)
    where
      needed : (a : SourceEvent) → is_own a ≡ true → at_node a ≡ p → num a ≡ made p past → made p past < k → step_needs whole a p k ≡ true
      needed (Do q j wrote place value) o e f lt = and_from (q == p) (nat_lt j k) (eq_is q p e) (lt-ltb j k (omega (arith, f, lt)))
      needed (Issue q j) o e f lt = and_from (q == p) (nat_lt j k) (eq_is q p e) (lt-ltb j k (omega (arith, f, lt)))
      needed (Sync q j) o e f lt = and_from (q == p) (nat_lt j k) (eq_is q p e) (lt-ltb j k (omega (arith, f, lt)))
      needed (Arrive q j s) o e f lt = and_from (q == p) (nat_lt j k) (eq_is q p e) (lt-ltb j k (omega (arith, f, lt)))
      needed (Effect _ _ _ _ _ _) o e f lt = absurd cc
      needed (Release _) o e f lt = absurd cc
      needed (Over _ _) o e f lt = absurd cc

  -- as many releases as arrivals, where those are items
  pub releases_met : (p k : ℕ) → arrivals_among p k whole ≤ released whole → StepMet p k → arrivals_among p k whole ≤ releases past
  releases_met p k le met = by (arrivals_among p k whole) refl
    where
      by : (m : ℕ) → arrivals_among p k whole ≡ m → arrivals_among p k whole ≤ releases past
      by zero e = omega arith
      by (suc r) e =
          let i = met (Release (suc r)) (r, refl, omega arith) (le_from (suc r) (arrivals_among p k whole) (omega arith)) in
          let l = release_low processes whole known past t (suc r) i in omega arith

  pub blocking_met : (p k : ℕ) (n : p < processes.nodes) → made p past ≤ k → StepMet p k → AllDone processes is_blocking_copy p past
  blocking_met p k n le met = all_done processes whole known is_blocking_copy is_blocking blocking_kind p past n (start_of p n)
      (λ j c wrote place value lt h o. met (Effect p j c wrote place value) h (and_from (p == p) (nat_lt j k && is_on whole is_blocking p j) (eq_self p) (and_from (nat_lt j k) (is_on whole is_blocking p j) (lt-ltb j k (omega (arith, lt, le))) o)))

  -- what follows where all that an own step needs was taken
  pub record Next (p k : ℕ) : Type 0 where
    pub within : p < processes.nodes
    pub goes_on : GoesOn processes past p
    pub numbered : k ≡ made p past
    pub next : (r : Request) → slice_get (Full processes whole known p).events k ≡ Some r → slice_get (run_so_far processes p past).events k ≡ Some r

  pub met_next : (x : SourceEvent) → It processes whole known x → is_own x ≡ true → (In x past → ⊥) → StepMet (at_node x) (num x) → Next (at_node x) (num x)
  met_next x h o out met =
      let pl = place_of processes whole known x h o in
      let w = wired_at processes.start processes.nodes pl.past pl.entry whole known.wired pl.stands in
      let ru = own_running processes.start processes.nodes (at_node x) pl.entry pl.past w.0 pl.request pl.by in
      let n = ru.2 in
      let kn = know (at_node x) n in
      let low : num x < requested (at_node x) whole = (let u = requested_below (at_node x) pl.past pl.entry whole pl.request pl.stands pl.by in let v = pl.numbered in omega arith) in
      let ge : num x ≤ made (at_node x) past = number_made (at_node x) (num x) n (omega arith) met in
      let le : made (at_node x) past ≤ num x = ⊎_elim (λ lt. absurd (out (own_taken processes whole known past t x h o lt))) (λ z. z) (cases_lt (num x) (made (at_node x) past)) in
      let m : num x ≡ made (at_node x) past = omega arith in
      let run : ended (at_node x) past ≡ None = not_ended n (ended (at_node x) past) refl low m in
      let lv = level processes.start processes.nodes (at_node x) pl.past w.1 in
      let am = subst (λ u. arrivals_among (at_node x) u whole ≡ run_arrivals (at_node x) pl.past) pl.numbered (among_before (at_node x) pl.past pl.entry whole pl.request pl.stands pl.by) in
      let rs = released_since processes.start processes.nodes pl.past pl.entry whole pl.stands in
      let b = lv.below in let eq = ru.1 in
      let rel = releases_met (at_node x) (num x) (omega arith) met in
      let am2 = kn.among in let am3 = ap (λ u. arrivals_among (at_node x) u whole) m in
      let ar : arrivals (at_node x) past ≤ releases past = omega arith in
      let lvl = kn.level run in let lo = kn.low in
      record {
        within = n;
        goes_on = record { node_within = n; running = run; copies_done = blocking_met (at_node x) (num x) n le met; released = ar };
        numbered = m;
        next = λ r e. same_so_far processes whole known (at_node x) past (start_of (at_node x) n) (num x) (let q = ap (Needed processes whole known (at_node x)) m in omega (arith, lvl, lo, ar, q)) ∙ e;
      }
    where
      not_ended : (n : at_node x < processes.nodes) (o : Option End) → ended (at_node x) past ≡ o → num x < requested (at_node x) whole → num x ≡ made (at_node x) past → ended (at_node x) past ≡ None
      not_ended n None e lt m = e
      not_ended n (Some end) e lt m = let f = ((know (at_node x) n).full (some_from _ end e)).0 in absurd (omega arith)
