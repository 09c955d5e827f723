-- The answers that a journal shows to the code are those of an oracle that holds the values of the node's accesses.
use Rattle.std.proofs.Common.{◌≡◌, ◌⊎◌, inl, inr, ⊎_elim, ℕ, zero, suc, ◌+◌, ◌<◌, ◌==◌, ◌&&◌, List, [], ◌∷◌, ◌++◌, map, filter, not, Option, Some, None, Bool, true, false, if◌then◌else◌, refl, sym, ap, ◌∙◌, subst, arith}
use Rattle.std.proofs.lemmas.Bool.Decides.{Decides-eqb}
use Rattle.effect_order.specs.Effect.{Effect}
use Rattle.effect_order.specs.Lists.{In}
use Rattle.effect_order.specs.Transfer.{Transfer, part_value}
use Rattle.sc_base.specs.declared.value.End.{End}
use Rattle.sc_base.specs.declared.value.End.TheVariants as kind
use Rattle.sc_base.specs.declared.value.Place.{Place}
use Rattle.sc_base.specs.declared.value.Value.{Value}
use Rattle.sc_isa.specs.declared.access.Access.{Access}
use Rattle.sc_isa.specs.declared.access.Access.TheVariants as access
use Rattle.sc_isa.specs.declared.access.Track.{Track}
use Rattle.sc_isa.specs.declared.access.Track.TheVariants.{Counter, Store, Covered}
use Rattle.sc_isa.specs.declared.journal.Entry.{Entry}
use Rattle.sc_isa.specs.declared.journal.Entry.TheVariants.{Issued, Delivered, Waited, Arrived, Passed, Finished}
use Rattle.sc_isa.specs.Run.{Ask, Issue, Wait, Arrive, Pass, Answer}
use Rattle.fabric.specs.Access.{is_read_on, transfer_of}
use Rattle.fabric.specs.Effects.{issues, access_at, awaited, effects, due, occurs_on, cell_at_issue, at_issue, and_effect, at_delivery}
use Rattle.fabric.specs.Barriers.{passes, finished}
use Rattle.fabric.specs.Wired.{Wired}
use Rattle.fabric.specs.Asked.{Machine}
use Rattle.source_order.proofs.Occurs.{found, part_of, its_value}
use Rattle.source_order.proofs.Once.{each_part_once}
use Rattle.node_emit.specs.Oracles.{Oracle, Flying, Progress, at_first, issued, flying_by, is_on, waited, landing, passing}
use Rattle.code_requests.proofs.Listed.{and_ask, asks_in, same_node}

-- ---- what has occurred stays

module _ (start : Place → Value) where
  occurs_keeps : (node : ℕ) (o : Option Effect) (es : List Effect) (e : Effect) → In e es → In e (occurs_on node o es)
  occurs_keeps node None es e i = i
  occurs_keeps node (Some d) es e i = go (d.place.node == node)
    where
      go : (b : Bool) → In e (if b then d ∷ es else es)
      go true = inr i
      go false = i

  cell_keeps : (t : Transfer) (node number cell : ℕ) (es : List Effect) (e : Effect) → In e es → In e (cell_at_issue start t node number cell es)
  cell_keeps t node number cell es e i =
      let once : List Effect = occurs_on node (due start t node number cell es) es in
      occurs_keeps node (due start t node number cell once) once e (occurs_keeps node (due start t node number cell es) es e i)

  issue_keeps : (t : Transfer) (node number cells : ℕ) (es : List Effect) (e : Effect) → In e es → In e (at_issue start t node number cells es)
  issue_keeps t node number zero es e i = i
  issue_keeps t node number (suc cell) es e i = cell_keeps t node number cell (at_issue start t node number cell es) e (issue_keeps t node number cell es e i)

  and_keeps : (o : Option Effect) (es : List Effect) (e : Effect) → In e es → In e (and_effect o es)
  and_keeps None es e i = i
  and_keeps (Some d) es e i = inr i

  entry_keeps : (entry : Entry) (past : List Entry) (e : Effect) → In e (effects start past) → In e (effects start (entry ∷ past))
  entry_keeps (Issued node number a) past e i = issue_keeps (transfer_of a) node number (transfer_of a).cells (effects start past) e i
  entry_keeps (Delivered node number cell value) past e i = and_keeps (at_delivery start (access_at node number past) node number cell (effects start past)) (effects start past) e i
  entry_keeps (Waited node counter) past e i = i
  entry_keeps (Arrived node stores) past e i = i
  entry_keeps (Passed node) past e i = i
  entry_keeps (Finished node end) past e i = i

  newer_keeps : (newer past : List Entry) (e : Effect) → In e (effects start past) → In e (effects start (newer ++ past))
  newer_keeps [] past e i = i
  newer_keeps (entry ∷ newer) past e i = entry_keeps entry (newer ++ past) e (newer_keeps newer past e i)

  -- the value of a part stays
  pub value_keeps : (newer past : List Entry) (p n c : ℕ) (wrote : Bool) (v : Value) → part_value p n c wrote (effects start past) ≡ Some v
      → part_value p n c wrote (effects start (newer ++ past)) ≡ Some v
  value_keeps newer past p n c wrote v h =
      let f = found p n c wrote (effects start past) v h in
      let q = part_of p n c wrote f.0 f.2 in
      let es = effects start (newer ++ past) in
      let g : part_value f.0.node f.0.number f.0.cell f.0.wrote es ≡ Some f.0.value = its_value f.0 es (each_part_once start (newer ++ past)) (newer_keeps newer past f.0 f.1) in
      subst (λ p. part_value p n c wrote es ≡ Some v) q.0
      (subst (λ n. part_value f.0.node n c wrote es ≡ Some v) q.1
      (subst (λ c. part_value f.0.node f.0.number c wrote es ≡ Some v) q.2
      (subst (λ w. part_value f.0.node f.0.number f.0.cell w es ≡ Some v) q.3 (g ∙ ap (λ x. Some x) f.3))))

-- ---- the reads that were not waited for

abbrev pub In_ : ℕ → List ℕ → Type 0
In_ n [] = ⊥
In_ n (x ∷ xs) = (n ≡ x) ⊎ In_ n xs

in_end : (n : ℕ) (xs : List ℕ) (x : ℕ) → In_ n (xs ++ x ∷ []) → In_ n xs ⊎ (n ≡ x)
in_end n [] x (inl e) = inr e
in_end n [] x (inr i) = absurd i
in_end n (y ∷ xs) x (inl e) = inl (inl e)
in_end n (y ∷ xs) x (inr i) = ⊎_elim (λ j. inl (inr j)) (λ e. inr e) (in_end n xs x i)

not_equal : (m n : ℕ) → n < m → (m == n) ≡ false
not_equal m n lt = go (m == n) (λ e. (Decides-eqb m n).0 e)
  where
    go : (b : Bool) → (b ≡ true → m ≡ n) → b ≡ false
    go true h = absurd (let e = h refl in omega (arith, e, lt))
    go false h = refl

-- a read on the counter among so many accesses
pub record IsRead (counter n count : ℕ) (o : Option Access) : Type 0 where
  pub below : n < count
  pub place : Place
  pub is : o ≡ Some (access.Read place (Counter counter))

-- what was a read still is, behind an issue
kept_read : (counter n number count : ℕ) (a : Access) (o : Option Access) → number ≡ count → IsRead counter n count o
    → IsRead counter n (count + 1) (if number == n then Some a else o)
kept_read counter n number count a o same h = record {
  below = let lt = h.below in omega (arith, lt);
  place = h.place;
  is = ap (λ b. if b then Some a else o) (not_equal number n (let lt = h.below in omega (arith, lt, same))) ∙ h.is;
}

new_read : (counter k n number count : ℕ) (place : Place) (o : Option Access) → number ≡ count → k ≡ counter → n ≡ number
    → IsRead counter n (count + 1) (if number == n then Some (access.Read place (Counter k)) else o)
new_read counter k n number count place o same e is = record {
  below = omega (arith, same, is);
  place = place;
  is = ap (λ b. if b then Some (access.Read place (Counter k)) else o) ((Decides-eqb number n).1 (sym is)) ∙ ap (λ c. Some (access.Read place (Counter c))) e;
}

issue_read : (counter n number count : ℕ) (b : Bool) (a : Access) (awaited_ : List ℕ) (o : Option Access) → (b ≡ true → number ≡ count)
    → (In_ n awaited_ → IsRead counter n count o) → In_ n (if b && is_read_on counter a then awaited_ ++ number ∷ [] else awaited_)
    → IsRead counter n (if b then count + 1 else count) (if b && (number == n) then Some a else o)
issue_read counter n number count false a awaited_ o same ih i = ih i
issue_read counter n number count true (access.Read place (Counter k)) awaited_ o same ih i = go (k == counter) (λ e. (Decides-eqb k counter).0 e) i
  where
    go : (z : Bool) → (z ≡ true → k ≡ counter) → In_ n (if z then awaited_ ++ number ∷ [] else awaited_) → IsRead counter n (count + 1) (if number == n then Some (access.Read place (Counter k)) else o)
    go true f i = ⊎_elim (λ j. kept_read counter n number count (access.Read place (Counter k)) o (same refl) (ih j)) (λ e. new_read counter k n number count place o (same refl) (f refl) e) (in_end n awaited_ number i)
    go false f i = kept_read counter n number count (access.Read place (Counter k)) o (same refl) (ih i)
issue_read counter n number count true (access.Read place Store) awaited_ o same ih i = kept_read counter n number count (access.Read place Store) o (same refl) (ih i)
issue_read counter n number count true (access.Read place Covered) awaited_ o same ih i = kept_read counter n number count (access.Read place Covered) o (same refl) (ih i)
issue_read counter n number count true (access.Write place v track) awaited_ o same ih i = kept_read counter n number count (access.Write place v track) o (same refl) (ih i)
issue_read counter n number count true (access.Copy from to cells track) awaited_ o same ih i = kept_read counter n number count (access.Copy from to cells track) o (same refl) (ih i)

waited_read : (b : Bool) (n counter count : ℕ) (o : Option Access) (awaited_ : List ℕ) → (In_ n awaited_ → IsRead counter n count o) → In_ n (if b then [] else awaited_) → IsRead counter n count o
waited_read true n counter count o awaited_ ih i = absurd i
waited_read false n counter count o awaited_ ih i = ih i

module _ (start : Place → Value) (nodes node : ℕ) where
  pub issued_as : (other number : ℕ) (past : List Entry) → number ≡ issues other past → (other == node) ≡ true → number ≡ issues node past
  issued_as other number past e h = subst (λ p. number ≡ issues p past) (same_node other node h) e

  -- what is awaited was issued as a read on the counter
  pub awaited_is : (counter n : ℕ) (past : List Entry) → Wired start nodes past → In_ n (awaited node counter past) → IsRead counter n (issues node past) (access_at node n past)
  awaited_is counter n [] w i = absurd i
  awaited_is counter n (Issued other number a ∷ past) w i =
      issue_read counter n number (issues node past) (other == node) a (awaited node counter past) (access_at node n past) (issued_as other number past w.0.numbered)
      (λ j. awaited_is counter n past w.1 j) i
  awaited_is counter n (Delivered other number cell value ∷ past) w i = awaited_is counter n past w.1 i
  awaited_is counter n (Waited other c ∷ past) w i =
      waited_read ((other == node) && (c == counter)) n counter (issues node past) (access_at node n past) (awaited node counter past) (λ j. awaited_is counter n past w.1 j) i
  awaited_is counter n (Arrived other stores ∷ past) w i = awaited_is counter n past w.1 i
  awaited_is counter n (Passed other ∷ past) w i = awaited_is counter n past w.1 i
  awaited_is counter n (Finished other end ∷ past) w i = awaited_is counter n past w.1 i

-- ---- what an oracle answers to asks

abbrev pub step_by : Progress → Ask → Progress
step_by p (Issue a) = issued a p
step_by p (Wait counter) = waited counter p
step_by p (Arrive stores) = p
step_by p Pass = record p { barriers = suc p.barriers }

abbrev pub after_asks : Progress → List Ask → Progress
after_asks p [] = p
after_asks p (ask ∷ asks) = after_asks (step_by p ask) asks

abbrev pub answers_to : Oracle → Progress → Ask → List Answer
answers_to oracle p (Issue a) = []
answers_to oracle p (Wait counter) = landing oracle counter p ∷ []
answers_to oracle p (Arrive stores) = []
answers_to oracle p Pass = passing oracle p ∷ []

abbrev pub answers_of : Oracle → Progress → List Ask → List Answer
answers_of oracle p [] = []
answers_of oracle p (ask ∷ asks) = answers_to oracle p ask ++ answers_of oracle (step_by p ask) asks

abbrev pub step_if : Progress → Option Ask → Progress
step_if p None = p
step_if p (Some ask) = step_by p ask

abbrev pub answers_if : Oracle → Progress → Option Ask → List Answer
answers_if oracle p None = []
answers_if oracle p (Some ask) = answers_to oracle p ask

pub append_none : {A : Type 0} (xs : List A) → xs ++ [] ≡ xs
append_none [] = refl
append_none (x ∷ xs) = ap (λ l. x ∷ l) (append_none xs)

append_all : {A : Type 0} (xs ys zs : List A) → (xs ++ ys) ++ zs ≡ xs ++ (ys ++ zs)
append_all [] ys zs = refl
append_all (x ∷ xs) ys zs = ap (λ l. x ∷ l) (append_all xs ys zs)

after_one : (p : Progress) (asks : List Ask) (ask : Ask) → after_asks p (asks ++ ask ∷ []) ≡ step_by (after_asks p asks) ask
after_one p [] ask = refl
after_one p (x ∷ asks) ask = after_one (step_by p x) asks ask

pub after_if : (p : Progress) (asks : List Ask) (o : Option Ask) → after_asks p (and_ask asks o) ≡ step_if (after_asks p asks) o
after_if p asks None = refl
after_if p asks (Some ask) = after_one p asks ask

answers_one : (oracle : Oracle) (p : Progress) (asks : List Ask) (ask : Ask) → answers_of oracle p (asks ++ ask ∷ []) ≡ answers_of oracle p asks ++ answers_to oracle (after_asks p asks) ask
answers_one oracle p [] ask = append_none (answers_to oracle p ask)
answers_one oracle p (x ∷ asks) ask =
    ap (λ l. answers_to oracle p x ++ l) (answers_one oracle (step_by p x) asks ask)
    ∙ sym (append_all (answers_to oracle p x) (answers_of oracle (step_by p x) asks) (answers_to oracle (after_asks (step_by p x) asks) ask))

pub answers_more : (oracle : Oracle) (p : Progress) (asks : List Ask) (o : Option Ask) → answers_of oracle p (and_ask asks o) ≡ answers_of oracle p asks ++ answers_if oracle (after_asks p asks) o
answers_more oracle p asks None = sym (append_none (answers_of oracle p asks))
answers_more oracle p asks (Some ask) = answers_one oracle p asks ask

-- ---- how far a node is

abbrev pub numbers_on : ℕ → List Flying → List ℕ
numbers_on counter fs = map (λ (f : Flying). f.number) (filter (λ (f : Flying). is_on counter f.track) fs)

pub numbers_append : (counter : ℕ) (xs ys : List Flying) → numbers_on counter (xs ++ ys) ≡ numbers_on counter xs ++ numbers_on counter ys
numbers_append counter [] ys = refl
numbers_append counter (x ∷ xs) ys = go (is_on counter x.track) (numbers_append counter xs ys)
  where
    go : (b : Bool) → numbers_on counter (xs ++ ys) ≡ numbers_on counter xs ++ numbers_on counter ys
        → map (λ (f : Flying). f.number) (if b then x ∷ filter (λ (f : Flying). is_on counter f.track) (xs ++ ys) else filter (λ (f : Flying). is_on counter f.track) (xs ++ ys))
        ≡ map (λ (f : Flying). f.number) (if b then x ∷ filter (λ (f : Flying). is_on counter f.track) xs else filter (λ (f : Flying). is_on counter f.track) xs) ++ numbers_on counter ys
    go true h = ap (λ l. x.number ∷ l) h
    go false h = h

flying_numbers : (counter number : ℕ) (a : Access) (ns : List ℕ) → ns ++ numbers_on counter (flying_by number a) ≡ (if is_read_on counter a then ns ++ number ∷ [] else ns)
flying_numbers counter number (access.Read place (Counter k)) ns = go (k == counter)
  where
    go : (b : Bool) → ns ++ map (λ (f : Flying). f.number) (if b then record { number = number; track = Counter k } ∷ [] else []) ≡ (if b then ns ++ number ∷ [] else ns)
    go true = refl
    go false = append_none ns
flying_numbers counter number (access.Read place Store) ns = append_none ns
flying_numbers counter number (access.Read place Covered) ns = append_none ns
flying_numbers counter number (access.Write place v track) ns = append_none ns
flying_numbers counter number (access.Copy from to cells track) ns = append_none ns

-- a wait lands what is on its counter, and nothing else
waited_same : (counter : ℕ) (fs : List Flying) → numbers_on counter (filter (λ f. not (is_on counter f.track)) fs) ≡ []
waited_same counter [] = refl
waited_same counter (f ∷ fs) = go (is_on counter f.track) refl (waited_same counter fs)
  where
    go : (b : Bool) → is_on counter f.track ≡ b → numbers_on counter (filter (λ f. not (is_on counter f.track)) fs) ≡ []
        → numbers_on counter (if not b then f ∷ filter (λ f. not (is_on counter f.track)) fs else filter (λ f. not (is_on counter f.track)) fs) ≡ []
    go true e h = h
    go false e h =
        ap (λ b. map (λ (f : Flying). f.number) (if b then f ∷ filter (λ (f : Flying). is_on counter f.track) (filter (λ f. not (is_on counter f.track)) fs)
        else filter (λ (f : Flying). is_on counter f.track) (filter (λ f. not (is_on counter f.track)) fs))) e ∙ h

off_track : (k counter : ℕ) (track : Track) → (k ≡ counter → ⊥) → is_on k track ≡ true → is_on counter track ≡ false
off_track k counter (Counter j) n e = go (j == counter) (λ f. (Decides-eqb j counter).0 f)
  where
    go : (b : Bool) → (b ≡ true → j ≡ counter) → b ≡ false
    go true h = absurd (n (sym ((Decides-eqb j k).0 e) ∙ h refl))
    go false h = refl
off_track k counter Store n e = refl
off_track k counter Covered n e = refl

waited_other : (k counter : ℕ) (fs : List Flying) → (k ≡ counter → ⊥) → numbers_on counter (filter (λ f. not (is_on k f.track)) fs) ≡ numbers_on counter fs
waited_other k counter [] n = refl
waited_other k counter (f ∷ fs) n = go (is_on k f.track) refl (waited_other k counter fs n)
  where
    go : (b : Bool) → is_on k f.track ≡ b → numbers_on counter (filter (λ f. not (is_on k f.track)) fs) ≡ numbers_on counter fs
        → numbers_on counter (if not b then f ∷ filter (λ f. not (is_on k f.track)) fs else filter (λ f. not (is_on k f.track)) fs) ≡ numbers_on counter (f ∷ fs)
    go true e h =
        h ∙ sym (ap (λ b. map (λ (f : Flying). f.number) (if b then f ∷ filter (λ (f : Flying). is_on counter f.track) fs else filter (λ (f : Flying). is_on counter f.track) fs))
        (off_track k counter f.track n e))
    go false e h = by_test (is_on counter f.track)
      where
        by_test : (b : Bool) → map (λ (f : Flying). f.number) (if b then f ∷ filter (λ (f : Flying). is_on counter f.track) (filter (λ f. not (is_on k f.track)) fs)
            else filter (λ (f : Flying). is_on counter f.track) (filter (λ f. not (is_on k f.track)) fs))
            ≡ map (λ (f : Flying). f.number) (if b then f ∷ filter (λ (f : Flying). is_on counter f.track) fs else filter (λ (f : Flying). is_on counter f.track) fs)
        by_test true = ap (λ l. f.number ∷ l) h
        by_test false = h

pub waited_numbers : (k counter : ℕ) (fs : List Flying) (ns : List ℕ) → numbers_on counter fs ≡ ns
    → numbers_on counter (filter (λ f. not (is_on k f.track)) fs) ≡ (if k == counter then [] else ns)
waited_numbers k counter fs ns e = go (k == counter) (λ h. (Decides-eqb k counter).0 h) (λ h. (Decides-eqb k counter).1 h)
  where
    go : (b : Bool) → (b ≡ true → k ≡ counter) → (k ≡ counter → b ≡ true) → numbers_on counter (filter (λ f. not (is_on k f.track)) fs) ≡ (if b then [] else ns)
    go true h _ = subst (λ c. numbers_on c (filter (λ f. not (is_on k f.track)) fs) ≡ []) (h refl) (waited_same k fs)
    go false _ h = waited_other k counter fs (λ f. let g = h f in absurd (cc)) ∙ e

module _ (machine : Machine) (node : ℕ) where
  -- how far the node's asks came
  pub record HasCome (p : Progress) (past : List Entry) : Type 0 where
    pub accesses : p.accesses ≡ issues node past
    pub barriers : p.barriers ≡ passes node past
    pub flying : (counter : ℕ) → numbers_on counter p.flying ≡ awaited node counter past

  come_issue : (b : Bool) (a : Access) (number : ℕ) (p : Progress) (other : ℕ) (past : List Entry) → (other == node) ≡ b → (b ≡ true → number ≡ issues node past) → HasCome p past
      → HasCome (step_if p (if b then Some (Issue a) else None)) (Issued other number a ∷ past)
  come_issue true a number p other past e same h = record {
    accesses = ap suc h.accesses ∙ (let f : suc (issues node past) ≡ issues node past + 1 = omega arith in f) ∙ ap (λ b. if b then issues node past + 1 else issues node past) (sym e);
    barriers = h.barriers;
    flying = λ counter.
        numbers_append counter p.flying (flying_by p.accesses a)
        ∙ ap (λ l. l ++ numbers_on counter (flying_by p.accesses a)) (h.flying counter)
        ∙ flying_numbers counter p.accesses a (awaited node counter past)
        ∙ ap (λ n. if is_read_on counter a then awaited node counter past ++ n ∷ [] else awaited node counter past) (h.accesses ∙ sym (same refl))
        ∙ ap (λ b. if b && is_read_on counter a then awaited node counter past ++ number ∷ [] else awaited node counter past) (sym e);
  }
  come_issue false a number p other past e same h = record {
    accesses = h.accesses ∙ ap (λ b. if b then issues node past + 1 else issues node past) (sym e);
    barriers = h.barriers;
    flying = λ counter. h.flying counter ∙ ap (λ b. if b && is_read_on counter a then awaited node counter past ++ number ∷ [] else awaited node counter past) (sym e);
  }

  come_wait : (b : Bool) (k : ℕ) (p : Progress) (other : ℕ) (past : List Entry) → (other == node) ≡ b → HasCome p past
      → HasCome (step_if p (if b then Some (Wait k) else None)) (Waited other k ∷ past)
  come_wait true k p other past e h = record {
    accesses = h.accesses;
    barriers = h.barriers;
    flying = λ counter.
        waited_numbers k counter p.flying (awaited node counter past) (h.flying counter)
        ∙ ap (λ b. if b && (k == counter) then [] else awaited node counter past) (sym e);
  }
  come_wait false k p other past e h = record {
    accesses = h.accesses;
    barriers = h.barriers;
    flying = λ counter. h.flying counter ∙ ap (λ b. if b && (k == counter) then [] else awaited node counter past) (sym e);
  }

  come_pass : (b : Bool) (p : Progress) (other : ℕ) (past : List Entry) → (other == node) ≡ b → HasCome p past → HasCome (step_if p (if b then Some Pass else None)) (Passed other ∷ past)
  come_pass true p other past e h = record {
    accesses = h.accesses;
    barriers = ap suc h.barriers ∙ (let f : suc (passes node past) ≡ passes node past + 1 = omega arith in f) ∙ ap (λ b. if b then passes node past + 1 else passes node past) (sym e);
    flying = h.flying;
  }
  come_pass false p other past e h = record {
    accesses = h.accesses;
    barriers = h.barriers ∙ ap (λ b. if b then passes node past + 1 else passes node past) (sym e);
    flying = h.flying;
  }

  come_arrive : (b stores : Bool) (p : Progress) (other : ℕ) (past : List Entry) → HasCome p past → HasCome (step_if p (if b then Some (Arrive stores) else None)) (Arrived other stores ∷ past)
  come_arrive true stores p other past h = record { accesses = h.accesses; barriers = h.barriers; flying = h.flying }
  come_arrive false stores p other past h = record { accesses = h.accesses; barriers = h.barriers; flying = h.flying }

  come_end : (end : End) (p : Progress) (other : ℕ) (past : List Entry) → HasCome p past → HasCome p (Finished other end ∷ past)
  come_end end p other past h = record { accesses = h.accesses; barriers = h.barriers; flying = h.flying }

  here_not : (b : Bool) (end : End) (o : Option End) → (if b then Some end else o) ≡ None → b ≡ false
  here_not true end o e = absurd (cc)
  here_not false end o e = refl

  behind : (b : Bool) (end : End) (o : Option End) → (if b then Some end else o) ≡ None → o ≡ None
  behind true end o e = absurd (cc)
  behind false end o e = e

  step_is : (past : List Entry) (o : Option Ask) (whole : List Entry) → HasCome (step_if (after_asks at_first (asks_in node past)) o) whole
      → HasCome (after_asks at_first (and_ask (asks_in node past) o)) whole
  step_is past o whole h = subst (λ p. HasCome p whole) (sym (after_if at_first (asks_in node past) o)) h

  pub has_come : (past : List Entry) → Wired machine.start machine.nodes past → finished node past ≡ None → HasCome (after_asks at_first (asks_in node past)) past
  has_come [] w e = record { accesses = refl; barriers = refl; flying = λ counter. refl }
  has_come (Issued other number a ∷ past) w e =
      step_is past (if other == node then Some (Issue a) else None) (Issued other number a ∷ past)
      (come_issue (other == node) a number (after_asks at_first (asks_in node past)) other past refl (issued_as machine.start machine.nodes node other number past w.0.numbered) (has_come past w.1 e))
  has_come (Delivered other number cell value ∷ past) w e = let h = has_come past w.1 e in record { accesses = h.accesses; barriers = h.barriers; flying = h.flying }
  has_come (Waited other k ∷ past) w e =
      step_is past (if other == node then Some (Wait k) else None) (Waited other k ∷ past)
      (come_wait (other == node) k (after_asks at_first (asks_in node past)) other past refl (has_come past w.1 e))
  has_come (Arrived other stores ∷ past) w e =
      step_is past (if other == node then Some (Arrive stores) else None) (Arrived other stores ∷ past)
      (come_arrive (other == node) stores (after_asks at_first (asks_in node past)) other past (has_come past w.1 e))
  has_come (Passed other ∷ past) w e =
      step_is past (if other == node then Some Pass else None) (Passed other ∷ past)
      (come_pass (other == node) (after_asks at_first (asks_in node past)) other past refl (has_come past w.1 e))
  has_come (Finished other kind.Ended ∷ past) w e =
      come_end kind.Ended (after_asks at_first (asks_in node past)) other past (has_come past w.1 (behind (other == node) kind.Ended (finished node past) e))
  has_come (Finished other (kind.Fault f line) ∷ past) w e =
      come_end (kind.Fault f line) (after_asks at_first (asks_in node past)) other past (has_come past w.1 (behind (other == node) (kind.Fault f line) (finished node past) e))
  has_come (Finished other kind.Cut ∷ past) w e =
      come_end kind.Cut (after_asks at_first (asks_in node past)) other past (has_come past w.1 (behind (other == node) kind.Cut (finished node past) e))
  has_come (Finished other kind.Waiting ∷ past) w e =
      subst (λ b. HasCome (after_asks at_first (and_ask (asks_in node past) (if b then Some Pass else None))) (Finished other kind.Waiting ∷ past))
      (sym (here_not (other == node) kind.Waiting (finished node past) e))
      (come_end kind.Waiting (after_asks at_first (asks_in node past)) other past (has_come past w.1 (behind (other == node) kind.Waiting (finished node past) e)))
