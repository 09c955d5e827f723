-- How arrivals, passes and releases go together in a journal that the fabric keeps.
use Rattle.std.proofs.Common.{◌≡◌, ℕ, ◌+◌, ◌<◌, ◌≤◌, max, List, [], ◌∷◌, Bool, true, false, ◌==◌, refl, sym, subst, arith}
use Rattle.std.specs.Prelude.{if◌then◌else◌}
use Rattle.std.proofs.lemmas.Bool.{eq-eqb, ne_eqb}
use Rattle.sc_base.specs.declared.value.Value.{Value}
use Rattle.sc_base.specs.declared.value.Place.{Place}
use Rattle.sc_isa.specs.declared.journal.Entry.{Entry}
use Rattle.sc_isa.specs.declared.journal.Entry.TheVariants.{Issued, Delivered, Waited, Arrived, Passed, Finished}
use Rattle.fabric.specs.Barriers.{arrivals, passes, released}
use Rattle.fabric.specs.Wired.{Going, Wired}
use Rattle.fabric.proofs.Deciding.{decide_eq}

-- where the nodes stand
pub record Stand (nodes : ℕ) (past : List Entry) (node : ℕ) : Type 0 where
  pub reached : released past ≤ arrivals node past  -- each release was reached by each node
  pub passed_below : passes node past ≤ released past
  pub passed_arrived : passes node past ≤ arrivals node past
  pub arrived_once : arrivals node past ≤ passes node past + 1

more_if : (b : Bool) (n : ℕ) → n ≤ (if b then n + 1 else n)
more_if true n = omega arith
more_if false n = omega arith

-- an arrival of a node that stands at no barrier
after_arrival : (q node : ℕ) (s : Bool) (nodes : ℕ) (past : List Entry) → Going nodes past q → Stand nodes past node → Stand nodes (Arrived q s ∷ past) node
after_arrival q node s nodes past g h =
    decide_eq q node
    (λ same. let here : (q == node) ≡ true = eq-eqb q node same in
    let free : arrivals node past ≡ passes node past = subst (λ x. arrivals x past ≡ passes x past) same g.at_no_barrier in
    record { reached = rw here (omega (arith, h.reached)); passed_below = h.passed_below; passed_arrived = rw here (omega (arith, h.passed_arrived)); arrived_once = rw here (omega (arith, free)) })
    (λ differ. let off : (q == node) ≡ false = ne_eqb q node differ in
    record { reached = rw off h.reached; passed_below = h.passed_below; passed_arrived = rw off h.passed_arrived; arrived_once = rw off h.arrived_once })

after_pass : (q node nodes : ℕ) (past : List Entry) → passes q past + 1 ≤ arrivals node past → Stand nodes past node → Stand nodes (Passed q ∷ past) node
after_pass q node nodes past arrived h =
    decide_eq q node
    (λ same. let here : (q == node) ≡ true = eq-eqb q node same in
    let own : passes node past + 1 ≤ arrivals node past = subst (λ x. passes x past + 1 ≤ arrivals node past) same arrived in
    record {
      reached = omega (arith, h.reached);
      passed_below = rw here (subst (λ x. passes node past + 1 ≤ max (released past) (passes x past + 1)) (sym same) (omega arith));
      passed_arrived = rw here own;
      arrived_once = rw here (omega (arith, h.arrived_once));
    })
    (λ differ. let off : (q == node) ≡ false = ne_eqb q node differ in
    record {
      reached = omega (arith, h.reached);
      passed_below = rw off (omega (arith, h.passed_below));
      passed_arrived = rw off h.passed_arrived;
      arrived_once = rw off h.arrived_once;
    })

same_stand : (nodes : ℕ) (past : List Entry) (e : Entry) (node : ℕ) → arrivals node (e ∷ past) ≡ arrivals node past → passes node (e ∷ past) ≡ passes node past
    → released (e ∷ past) ≡ released past → Stand nodes past node → Stand nodes (e ∷ past) node
same_stand nodes past e node a p r h = record {
  reached = rw (a, r) h.reached;
  passed_below = rw (p, r) h.passed_below;
  passed_arrived = rw (a, p) h.passed_arrived;
  arrived_once = rw (a, p) h.arrived_once;
}

pub stand : (start : Place → Value) (nodes : ℕ) (past : List Entry) → Wired start nodes past → (node : ℕ) → node < nodes → Stand nodes past node
stand start nodes [] h node within = record { reached = omega arith; passed_below = omega arith; passed_arrived = omega arith; arrived_once = omega arith }
stand start nodes (Issued q k a ∷ past) h node within = same_stand nodes past (Issued q k a) node refl refl refl (stand start nodes past h.1 node within)
stand start nodes (Delivered q k c v ∷ past) h node within = same_stand nodes past (Delivered q k c v) node refl refl refl (stand start nodes past h.1 node within)
stand start nodes (Waited q c ∷ past) h node within = same_stand nodes past (Waited q c) node refl refl refl (stand start nodes past h.1 node within)
stand start nodes (Arrived q s ∷ past) h node within = after_arrival q node s nodes past h.0 (stand start nodes past h.1 node within)
stand start nodes (Passed q ∷ past) h node within = after_pass q node nodes past (h.0.all_arrived node within) (stand start nodes past h.1 node within)
stand start nodes (Finished q e ∷ past) h node within = same_stand nodes past (Finished q e) node refl refl refl (stand start nodes past h.1 node within)
