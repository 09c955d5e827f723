-- What a test knows of the nodes stays through each call.
use Rattle.std.proofs.Common.{◌≡◌, ℕ, zero, suc, ◌+◌, ◌<◌, List, [], ◌∷◌, length, Some, Bool, true, false, sym, ap, ◌∙◌, subst, arith}
use Rattle.std.specs.Prelude.{if◌then◌else◌, slice_get, slice_set, replicate}
use Rattle.std.proofs.lemmas.Bool.{eq-eqb, ne_eqb}
use Rattle.std.proofs.lemmas.Option.{slice_get_within, get_or_from_slice_get}
use Rattle.std.proofs.lemmas.List.{length-set, length-replicate, get_or-replicate}
use Rattle.sc_base.specs.declared.value.Value.{Value}
use Rattle.sc_base.specs.declared.value.End.{End}
use Rattle.sc_layout.specs.Layout.{Arrangement}
use Rattle.sc_isa.specs.declared.access.Access.{Access}
use Rattle.sc_isa.specs.declared.journal.Entry.{Entry}
use Rattle.sc_isa.specs.declared.journal.Entry.TheVariants.{Issued, Delivered, Waited, Arrived, Passed, Finished}
use Rattle.fabric.specs.Barriers.{arrivals, passes, finished}
use Rattle.fabric.specs.Wired.{Running, Going}
use Rattle.fabric.specs.State.{State, nodes_of, start_of}
use Rattle.fabric.specs.Kept.{IsOfJournal}
use Rattle.fabric.specs.Known.{Knows}
use Rattle.node_memory.proofs.Written.{get_set_other}
use Rattle.fabric.proofs.Deciding.{decide_eq}
use Rattle.fabric.proofs.Barrier.{stand}

-- ---- what may be asked

pub node_runs : (s : State) (r a : List Bool) (l : Arrangement) (n node : ℕ) → Knows s r a l n → slice_get r node ≡ Some true → Running (nodes_of s) s.past node
node_runs s r a l n node k is = record { node_within = subst (λ x. node < x) k.nodes (slice_get_within r node true is); not_finished = k.runs node is }

pub node_goes : (s : State) (r a : List Bool) (l : Arrangement) (n node : ℕ) → Knows s r a l n → slice_get r node ≡ Some true → slice_get a node ≡ Some true → Going (nodes_of s) s.past node
node_goes s r a l n node k is free = record { running = node_runs s r a l n node k is; at_no_barrier = k.is_away node free }

-- ---- entries that leave the nodes where they are

pub record SameNodes (old new : List Entry) : Type 0 where
  pub finished_same : (node : ℕ) → finished node new ≡ finished node old
  pub arrivals_same : (node : ℕ) → arrivals node new ≡ arrivals node old
  pub passes_same : (node : ℕ) → passes node new ≡ passes node old

pub same_past : (old new : List Entry) → new ≡ old → SameNodes old new
same_past old new is = record { finished_same = λ node. ap (finished node) is; arrivals_same = λ node. ap (arrivals node) is; passes_same = λ node. ap (passes node) is }

pub issued_past : (old new : List Entry) (p k : ℕ) (a : Access) → new ≡ Issued p k a ∷ old → SameNodes old new
issued_past old new p k a is = record { finished_same = λ node. ap (finished node) is; arrivals_same = λ node. ap (arrivals node) is; passes_same = λ node. ap (passes node) is }

pub delivered_past : (old new : List Entry) (p k c : ℕ) (v : Value) → new ≡ Delivered p k c v ∷ old → SameNodes old new
delivered_past old new p k c v is = record { finished_same = λ node. ap (finished node) is; arrivals_same = λ node. ap (arrivals node) is; passes_same = λ node. ap (passes node) is }

pub waited_past : (old new : List Entry) (p c : ℕ) → new ≡ Waited p c ∷ old → SameNodes old new
waited_past old new p c is = record { finished_same = λ node. ap (finished node) is; arrivals_same = λ node. ap (arrivals node) is; passes_same = λ node. ap (passes node) is }

pub knows_same : (s s' : State) (r a : List Bool) (l : Arrangement) (n : ℕ) → Knows s r a l n → SameNodes s.past s'.past → s'.memory.layout ≡ s.memory.layout → s'.book.sites ≡ s.book.sites
    → Knows s' r a l n
knows_same s s' r a l n k q layout sites = record {
  nodes = k.nodes ∙ ap (λ (x : Arrangement). x.nodes) (sym layout);
  runs = λ node is. q.finished_same node ∙ k.runs node is;
  is_away = λ node is. q.arrivals_same node ∙ k.is_away node is ∙ sym (q.passes_same node);
  arrived = λ node is. (let a = q.arrivals_same node in let b = q.passes_same node in let c = k.arrived node is in omega (arith, a, b, c));
  its_layout = layout ∙ k.its_layout;
  its_sites = sites ∙ k.its_sites;
}

-- ---- entries that move one node

set_own : (xs : List Bool) (i : ℕ) (v w : Bool) → slice_get (slice_set xs i v) i ≡ Some w → v ≡ w
set_own [] i v w h = cc
set_own (x ∷ xs) zero v w h = cc
set_own (x ∷ xs) (suc i) v w h = set_own xs i v w h

at_own : (xs ys : List Bool) (i j : ℕ) (v w : Bool) → ys ≡ slice_set xs i v → i ≡ j → slice_get ys j ≡ Some w → v ≡ w
at_own xs ys i j v w is same h =
    set_own xs i v w (subst (λ k. slice_get (slice_set xs i v) k ≡ Some w) (sym same) (subst (λ l. slice_get l j ≡ Some w) is h))

at_other : (xs ys : List Bool) (i j : ℕ) (v w : Bool) → ys ≡ slice_set xs i v → (i ≡ j → ⊥) → slice_get ys j ≡ Some w → slice_get xs j ≡ Some w
at_other xs ys i j v w is ne h = sym (get_set_other xs i j v ne) ∙ subst (λ l. slice_get l j ≡ Some w) is h

pub knows_arrived : (s s' : State) (r a a' : List Bool) (l : Arrangement) (n p : ℕ) (st : Bool) → Knows s r a l n → s'.past ≡ Arrived p st ∷ s.past → arrivals p s.past ≡ passes p s.past
    → a' ≡ slice_set a p false → s'.memory.layout ≡ s.memory.layout → s'.book.sites ≡ s.book.sites → Knows s' r a' l n
knows_arrived s s' r a a' l n p st k is free a_is layout sites = record {
  nodes = k.nodes ∙ ap (λ (x : Arrangement). x.nodes) (sym layout);
  runs = λ node t. ap (finished node) is ∙ k.runs node t;
  is_away = λ node t.
      decide_eq p node
      (λ same. let e : false ≡ true = at_own a a' p node false true a_is same t in cc)
      (λ ne. ap (arrivals node) is ∙ ap (λ b. if b then arrivals node s.past + 1 else arrivals node s.past) (ne_eqb p node ne)
      ∙ k.is_away node (at_other a a' p node false true a_is ne t) ∙ sym (ap (passes node) is));
  arrived = λ node t.
      let q : passes node s'.past ≡ passes node s.past = ap (passes node) is in
      decide_eq p node
      (λ same. let h : arrivals node s'.past ≡ arrivals node s.past + 1 = ap (arrivals node) is ∙ ap (λ b. if b then arrivals node s.past + 1 else arrivals node s.past) (eq-eqb p node same) in
      let f : arrivals node s.past ≡ passes node s.past = subst (λ x. arrivals x s.past ≡ passes x s.past) same free in
      omega (arith, q, h, f))
      (λ ne. let h : arrivals node s'.past ≡ arrivals node s.past = ap (arrivals node) is ∙ ap (λ b. if b then arrivals node s.past + 1 else arrivals node s.past) (ne_eqb p node ne) in
      let f = k.arrived node (at_other a a' p node false false a_is ne t) in
      omega (arith, q, h, f));
  its_layout = layout ∙ k.its_layout;
  its_sites = sites ∙ k.its_sites;
}

pub knows_passed : (s s' : State) (r a a' : List Bool) (l : Arrangement) (n p : ℕ) → Knows s r a l n → IsOfJournal s → p < nodes_of s → s'.past ≡ Passed p ∷ s.past → passes p s.past < arrivals p s.past
    → a' ≡ slice_set a p true → s'.memory.layout ≡ s.memory.layout → s'.book.sites ≡ s.book.sites → Knows s' r a' l n
knows_passed s s' r a a' l n p k j within is stood a_is layout sites = record {
  nodes = k.nodes ∙ ap (λ (x : Arrangement). x.nodes) (sym layout);
  runs = λ node t. ap (finished node) is ∙ k.runs node t;
  is_away = λ node t.
      let q : arrivals node s'.past ≡ arrivals node s.past = ap (arrivals node) is in
      decide_eq p node
      (λ same. let h : passes node s'.past ≡ passes node s.past + 1 = ap (passes node) is ∙ ap (λ b. if b then passes node s.past + 1 else passes node s.past) (eq-eqb p node same) in
      let once : arrivals node s.past ≡ passes node s.past + 1 =
      subst (λ x. arrivals x s.past ≡ passes x s.past + 1) same
      (let o = (stand (start_of s) (nodes_of s) s.past j.wired p within).arrived_once in omega (arith, o, stood)) in
      omega (arith, q, h, once))
      (λ ne. let h : passes node s'.past ≡ passes node s.past = ap (passes node) is ∙ ap (λ b. if b then passes node s.past + 1 else passes node s.past) (ne_eqb p node ne) in
      let f = k.is_away node (at_other a a' p node true true a_is ne t) in
      omega (arith, q, h, f));
  arrived = λ node t.
      let q : arrivals node s'.past ≡ arrivals node s.past = ap (arrivals node) is in
      decide_eq p node
      (λ same. absurd (let e : true ≡ false = at_own a a' p node true false a_is same t in cc))
      (λ ne. let h : passes node s'.past ≡ passes node s.past = ap (passes node) is ∙ ap (λ b. if b then passes node s.past + 1 else passes node s.past) (ne_eqb p node ne) in
      let f = k.arrived node (at_other a a' p node true false a_is ne t) in
      omega (arith, q, h, f));
  its_layout = layout ∙ k.its_layout;
  its_sites = sites ∙ k.its_sites;
}

pub knows_finished : (s s' : State) (r r' a : List Bool) (l : Arrangement) (n p : ℕ) (end : End) → Knows s r a l n → s'.past ≡ Finished p end ∷ s.past
    → r' ≡ slice_set r p false → s'.memory.layout ≡ s.memory.layout → s'.book.sites ≡ s.book.sites → Knows s' r' a l n
knows_finished s s' r r' a l n p end k is r_is layout sites = record {
  nodes = ap length r_is ∙ length-set r p false ∙ k.nodes ∙ ap (λ (x : Arrangement). x.nodes) (sym layout);
  runs = λ node t.
      decide_eq p node
      (λ same. let e : false ≡ true = at_own r r' p node false true r_is same t in cc)
      (λ ne. ap (finished node) is ∙ ap (λ b. if b then Some end else finished node s.past) (ne_eqb p node ne) ∙ k.runs node (at_other r r' p node false true r_is ne t));
  is_away = λ node t. ap (arrivals node) is ∙ k.is_away node t ∙ sym (ap (passes node) is);
  arrived = λ node t. (let x : arrivals node s'.past ≡ arrivals node s.past = ap (arrivals node) is in let y : passes node s'.past ≡ passes node s.past = ap (passes node) is in let c = k.arrived node t in omega (arith, x, y, c));
  its_layout = layout ∙ k.its_layout;
  its_sites = sites ∙ k.its_sites;
}

-- ---- the beginning

pub knows_new : (s : State) (r a : List Bool) (l : Arrangement) (n : ℕ) → s.memory.layout ≡ l → s.book.sites ≡ n → s.past ≡ [] → r ≡ replicate l.nodes true → a ≡ replicate l.nodes true → Knows s r a l n
knows_new s r a l n layout sites none r_is a_is = record {
  nodes = ap length r_is ∙ length-replicate l.nodes true ∙ ap (λ (x : Arrangement). x.nodes) (sym layout);
  runs = λ node t. ap (finished node) none;
  is_away = λ node t. ap (arrivals node) none ∙ sym (ap (passes node) none);
  arrived = λ node t.
      let h : slice_get (replicate l.nodes true) node ≡ Some false = subst (λ xs. slice_get xs node ≡ Some false) a_is t in
      let below : node < l.nodes = subst (λ k. node < k) (length-replicate l.nodes true) (slice_get_within (replicate l.nodes true) node false h) in
      let e : true ≡ false = sym (get_or-replicate l.nodes node true true below) ∙ get_or_from_slice_get (replicate l.nodes true) node false true h in
      absurd (let x : true ≡ false = e in cc);
  its_layout = layout;
  its_sites = sites;
}
