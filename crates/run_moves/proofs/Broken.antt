-- A barrier that is broken is passed by no node that stands at it.
use Rattle.std.proofs.Common.{◌≡◌, ℕ, ◌+◌, ◌<◌, ◌≤◌, List, [], ◌∷◌, Option, Some, None, Bool, true, false, ◌==◌, refl, sym, subst, arith, eqb-true}
use Rattle.std.specs.Prelude.{if◌then◌else◌, IsSome}
use Rattle.sc_base.specs.declared.value.Value.{Value}
use Rattle.sc_base.specs.declared.value.Place.{Place}
use Rattle.sc_base.specs.declared.value.End.{End}
use Rattle.sc_base.specs.declared.value.End.TheVariants as kind
use Rattle.sc_isa.specs.declared.journal.Entry.{Entry}
use Rattle.sc_isa.specs.declared.journal.Entry.TheVariants.{Issued, Delivered, Waited, Arrived, Passed, Finished}
use Rattle.fabric.specs.Barriers.{arrivals, released, finished}
use Rattle.fabric.specs.Wired.{Wired, EntryWired, Going, PassWired, IsBroken}
use Rattle.fabric.proofs.Barrier.{stand}

-- some node has finished and never reached the next release
pub record Gone (nodes : ℕ) (past : List Entry) : Type 0 where
  pub node : ℕ
  pub within : node < nodes
  pub few : arrivals node past ≤ released past
  pub over : IsSome (finished node past)

-- nothing of a node that has finished is changed by an entry of the fabric
still : (start : Place → Value) (nodes : ℕ) (e : Entry) (past : List Entry) → EntryWired start nodes past e → (node : ℕ) → IsSome (finished node past)
    → (arrivals node (e ∷ past) ≡ arrivals node past) × IsSome (finished node (e ∷ past)) × (released past ≤ released (e ∷ past))
still start nodes (Issued q n a) past w node s = (refl, s, omega arith)
still start nodes (Delivered q n c v) past w node s = (refl, s, omega arith)
still start nodes (Waited q c) past w node s = (refl, s, omega arith)
still start nodes (Passed q) past w node s = (refl, s, omega arith)
still start nodes (Finished q end) past w node s = by (q == node)
  where
    by : (b : Bool) → (arrivals node past ≡ arrivals node past) × IsSome (if b then Some end else finished node past) × (released past ≤ released past)
    by true = (refl, refl, omega arith)
    by false = (refl, s, omega arith)
still start nodes (Arrived q t) past w node s = by (q == node) refl
  where
    none_some : (o : Option End) → o ≡ None → IsSome o → ⊥
    none_some None e i = cc
    none_some (Some x) e i = cc

    by : (b : Bool) → (q == node) ≡ b → ((if b then arrivals node past + 1 else arrivals node past) ≡ arrivals node past) × IsSome (finished node past) × (released past ≤ released past)
    by false h = (refl, s, omega arith)
    by true h = absurd (none_some (finished q past) w.running.not_finished (subst (λ k. IsSome (finished k past)) (sym (eqb-true q node h)) s))

onward : (start : Place → Value) (nodes : ℕ) (e : Entry) (past : List Entry) → EntryWired start nodes past e → Gone nodes past → Gone nodes (e ∷ past)
onward start nodes e past w g =
    let s = still start nodes e past w g.node g.over in
    let a = s.0 in let r = s.2 in let f = g.few in
    record { node = g.node; within = g.within; few = omega arith; over = s.1 }

-- a node that finishes otherwise than as waiting stands at no barrier
leaves : (start : Place → Value) (nodes q : ℕ) (end : End) (past : List Entry) → Wired start nodes past → Going nodes past q → Gone nodes (Finished q end ∷ past)
leaves start nodes q end past w g =
    let s = stand start nodes past w q g.running.node_within in
    let b = s.passed_below in let a = g.at_no_barrier in
    record { node = q; within = g.running.node_within; few = omega arith; over = rw (eq_self q) refl }
  where
    eq_self : (k : ℕ) → (k == k) ≡ true
    eq_self k = grind arith

has : (o : Option End) → o ≡ None → IsSome o → ⊥
has None e i = cc
has (Some x) e i = cc

pub gone : (start : Place → Value) (nodes : ℕ) (past : List Entry) → Wired start nodes past → (node : ℕ) → IsSome (finished node past) → Gone nodes past
gone start nodes [] w node s = absurd cc
gone start nodes (Issued q n a ∷ past) w node s = onward start nodes (Issued q n a) past w.0 (gone start nodes past w.1 node s)
gone start nodes (Delivered q n c v ∷ past) w node s = onward start nodes (Delivered q n c v) past w.0 (gone start nodes past w.1 node s)
gone start nodes (Waited q c ∷ past) w node s = onward start nodes (Waited q c) past w.0 (gone start nodes past w.1 node s)
gone start nodes (Arrived q t ∷ past) w node s = onward start nodes (Arrived q t) past w.0 (gone start nodes past w.1 node s)
gone start nodes (Passed q ∷ past) w node s = onward start nodes (Passed q) past w.0 (gone start nodes past w.1 node s)
gone start nodes (Finished q kind.Waiting ∷ past) w node s =
    onward start nodes (Finished q kind.Waiting) past w.0 (gone start nodes past w.1 w.0.broken.gone w.0.broken.is_gone)
gone start nodes (Finished q kind.Ended ∷ past) w node s = leaves start nodes q kind.Ended past w.1 w.0
gone start nodes (Finished q kind.Cut ∷ past) w node s = leaves start nodes q kind.Cut past w.1 w.0
gone start nodes (Finished q (kind.Fault k l) ∷ past) w node s = leaves start nodes q (kind.Fault k l) past w.1 w.0

-- so a node that stands at a broken barrier does not pass it
pub broken_not_passed : (start : Place → Value) (nodes : ℕ) (past : List Entry) (node : ℕ) → Wired start nodes past → IsBroken nodes past node → PassWired start nodes past node → ⊥
broken_not_passed start nodes past node w b p =
    let g = gone start nodes past w b.gone b.is_gone in
    let s = stand start nodes past w node p.running.node_within in
    let reached = p.all_arrived node p.running.node_within in
    let all = p.all_arrived g.node g.within in
    let few = g.few in let at = b.stands in let once = s.arrived_once in omega arith
