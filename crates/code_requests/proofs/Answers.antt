-- The answers that a whole journal shows to the code of a node are its oracle's.
use Rattle.std.proofs.Common.{◌≡◌, inl, inr, ℕ, ◌+◌, ◌<◌, ◌≤◌, ◌==◌, nat_lt, List, [], ◌∷◌, ◌++◌, map, filter, Option, Some, None, Bool, true, false, if◌then◌else◌, refl, sym, ap, ◌∙◌, subst, arith, le_refl}
use Rattle.std.proofs.lemmas.Bool.Decides.{Decides-eqb, Decides-ltb}
use Rattle.effect_order.specs.Transfer.{part_value}
use Rattle.sc_base.specs.declared.value.End.{End}
use Rattle.sc_base.specs.declared.value.End.TheVariants as kind
use Rattle.sc_base.specs.declared.value.Place.{Place}
use Rattle.sc_base.specs.declared.value.Value.{Value}
use Rattle.sc_isa.specs.declared.access.Access.{Access}
use Rattle.sc_isa.specs.declared.access.Access.TheVariants as access
use Rattle.sc_isa.specs.declared.access.Track.TheVariants.{Counter}
use Rattle.sc_isa.specs.declared.journal.Entry.{Entry}
use Rattle.sc_isa.specs.declared.journal.Entry.TheVariants.{Issued, Delivered, Waited, Arrived, Passed, Finished}
use Rattle.sc_isa.specs.Run.{Ask, Issue, Wait, Arrive, Pass, Answer, Landed, Broken}
use Rattle.sc_isa.specs.Run as run
use Rattle.fabric.specs.Access.{is_counter}
use Rattle.fabric.specs.Effects.{awaited, effects, or_zero, landed}
use Rattle.fabric.specs.Barriers.{passes, finished}
use Rattle.fabric.specs.Wired.{Wired, AllDone}
use Rattle.fabric.specs.Asked.{Machine, answers}
use Rattle.source_order.proofs.Occurs.{some_is}
use Rattle.node_emit.specs.Oracles.{Oracle, Flying, Progress, at_first, is_on, landing, passing}
use Rattle.code_requests.proofs.Listed.{and_ask, asks_in, same_node}
use Rattle.code_requests.proofs.Oracled.{value_keeps, In_, awaited_is, after_asks, answers_of, answers_if, answers_more, append_none, numbers_on, has_come}

map_in : (f g : ℕ → Value) (ns : List ℕ) → ((n : ℕ) → In_ n ns → f n ≡ g n) → map f ns ≡ map g ns
map_in f g [] h = refl
map_in f g (n ∷ ns) h = ap (λ v. v ∷ map f ns) (h n (inl refl)) ∙ ap (λ l. g n ∷ l) (map_in f g ns (λ m i. h m (inr i)))

map_numbers : (value : ℕ → Value) (fs : List Flying) → map (λ (f : Flying). value f.number) fs ≡ map value (map (λ (f : Flying). f.number) fs)
map_numbers value [] = refl
map_numbers value (f ∷ fs) = ap (λ l. value f.number ∷ l) (map_numbers value fs)

passes_grow : (node : ℕ) (newer past : List Entry) → passes node past ≤ passes node (newer ++ past)
passes_grow node [] past = le_refl (passes node past)
passes_grow node (Issued other number a ∷ newer) past = passes_grow node newer past
passes_grow node (Delivered other number cell value ∷ newer) past = passes_grow node newer past
passes_grow node (Waited other counter ∷ newer) past = passes_grow node newer past
passes_grow node (Arrived other stores ∷ newer) past = passes_grow node newer past
passes_grow node (Passed other ∷ newer) past = go (other == node) (passes_grow node newer past)
  where
    go : (b : Bool) → passes node past ≤ passes node (newer ++ past) → passes node past ≤ (if b then passes node (newer ++ past) + 1 else passes node (newer ++ past))
    go true h = omega (arith, h)
    go false h = h
passes_grow node (Finished other end ∷ newer) past = passes_grow node newer past

-- a node that has finished passes no more barriers, and has finished still
pub record IsOver (node : ℕ) (newer past : List Entry) : Type 0 where
  pub end : End
  pub still : finished node (newer ++ past) ≡ Some end
  pub same : passes node (newer ++ past) ≡ passes node past

pub is_over : (start : Place → Value) (nodes node : ℕ) (newer past : List Entry) (end : End) → Wired start nodes (newer ++ past) → finished node past ≡ Some end → IsOver node newer past
is_over start nodes node [] past end w e = record { end = end; still = e; same = refl }
is_over start nodes node (Issued other number a ∷ newer) past end w e = let h = is_over start nodes node newer past end w.1 e in record { end = h.end; still = h.still; same = h.same }
is_over start nodes node (Delivered other number cell value ∷ newer) past end w e = let h = is_over start nodes node newer past end w.1 e in record { end = h.end; still = h.still; same = h.same }
is_over start nodes node (Waited other counter ∷ newer) past end w e = let h = is_over start nodes node newer past end w.1 e in record { end = h.end; still = h.still; same = h.same }
is_over start nodes node (Arrived other stores ∷ newer) past end w e = let h = is_over start nodes node newer past end w.1 e in record { end = h.end; still = h.still; same = h.same }
is_over start nodes node (Passed other ∷ newer) past end w e =
    let h = is_over start nodes node newer past end w.1 e in
    record { end = h.end; still = h.still; same = go (other == node) (λ f. same_node other node f) h.end h.still ∙ h.same }
  where
    go : (b : Bool) → (b ≡ true → other ≡ node) → (x : End) → finished node (newer ++ past) ≡ Some x → (if b then passes node (newer ++ past) + 1 else passes node (newer ++ past)) ≡ passes node (newer ++ past)
    go true f x h = absurd (let g = subst (λ p. finished p (newer ++ past) ≡ None) (f refl) w.0.running.not_finished in cc)
    go false f x h = refl
is_over start nodes node (Finished other x ∷ newer) past end w e =
    let h = is_over start nodes node newer past end w.1 e in go (other == node) refl h
  where
    go : (b : Bool) → (other == node) ≡ b → IsOver node newer past → IsOver node (Finished other x ∷ newer) past
    go true f h = record { end = x; still = ap (λ b. if b then Some x else finished node (newer ++ past)) f; same = h.same }
    go false f h = record { end = h.end; still = ap (λ b. if b then Some x else finished node (newer ++ past)) f ∙ h.still; same = h.same }

pub append_one : (xs : List Entry) (x : Entry) (ys : List Entry) → (xs ++ x ∷ []) ++ ys ≡ xs ++ x ∷ ys
append_one [] x ys = refl
append_one (y ∷ xs) x ys = ap (λ l. y ∷ l) (append_one xs x ys)

module _ (machine : Machine) (node : ℕ) (whole : List Entry) (wired : Wired machine.start machine.nodes whole) where
  -- the values of the node's accesses in the whole run, and which barriers it passes
  abbrev pub oracle_of : Oracle
  oracle_of = record { value = λ n. or_zero (part_value node n 0 false (effects machine.start whole)); passes = λ k. nat_lt k (passes node whole) }

  landed_is : (newer past : List Entry) (counter : ℕ) → whole ≡ newer ++ past → Wired machine.start machine.nodes past → AllDone machine.start past (is_counter counter) node
      → landed machine.start node counter past ≡ map oracle_of.value (awaited node counter past)
  landed_is newer past counter e w done = map_in _ oracle_of.value (awaited node counter past) (λ n i. value_is n i)
    where
      value_is : (n : ℕ) → In_ n (awaited node counter past) → or_zero (part_value node n 0 false (effects machine.start past)) ≡ or_zero (part_value node n 0 false (effects machine.start whole))
      value_is n i =
          let r = awaited_is machine.start machine.nodes node counter n past w i in
          let s = some_is (part_value node n 0 false (effects machine.start past)) (done n (access.Read r.place (Counter counter)) r.is ((Decides-eqb counter counter).1 refl) 0 false refl) in
          let k = value_keeps machine.start newer past node n 0 false s.0 s.1 in
          ap or_zero s.1 ∙ sym (ap or_zero (ap (λ l. part_value node n 0 false (effects machine.start l)) e ∙ k))

  answers_on : (past : List Entry) (o : Option Ask) (extra : List Answer) → answers machine node past ≡ answers_of oracle_of at_first (asks_in node past)
      → extra ≡ answers_if oracle_of (after_asks at_first (asks_in node past)) o → answers machine node past ++ extra ≡ answers_of oracle_of at_first (and_ask (asks_in node past) o)
  answers_on past o extra h e =
      ap (λ l. l ++ extra) h ∙ ap (λ l. answers_of oracle_of at_first (asks_in node past) ++ l) e ∙ sym (answers_more oracle_of at_first (asks_in node past) o)

  none_on : (past : List Entry) (o : Option Ask) → answers machine node past ≡ answers_of oracle_of at_first (asks_in node past)
      → [] ≡ answers_if oracle_of (after_asks at_first (asks_in node past)) o → answers machine node past ≡ answers_of oracle_of at_first (and_ask (asks_in node past) o)
  none_on past o h e = sym (append_none (answers machine node past)) ∙ answers_on past o [] h e

  issue_none : (b : Bool) (a : Access) (p : Progress) → [] ≡ answers_if oracle_of p (if b then Some (Issue a) else None)
  issue_none true a p = refl
  issue_none false a p = refl

  arrive_none : (b stores : Bool) (p : Progress) → [] ≡ answers_if oracle_of p (if b then Some (Arrive stores) else None)
  arrive_none true stores p = refl
  arrive_none false stores p = refl

  landing_is : (p : Progress) (counter : ℕ) (ns : List ℕ) → numbers_on counter p.flying ≡ ns → Landed (map oracle_of.value ns) ≡ landing oracle_of counter p
  landing_is p counter ns e =
      ap (λ vs. Landed vs) (ap (map oracle_of.value) (sym e) ∙ sym (map_numbers oracle_of.value (filter (λ (f : Flying). is_on counter f.track) p.flying)))

  wait_on : (newer past : List Entry) (other counter : ℕ) (b : Bool) → (b ≡ true → other ≡ node) → whole ≡ newer ++ past → Wired machine.start machine.nodes (Waited other counter ∷ past)
      → answers machine node past ≡ answers_of oracle_of at_first (asks_in node past)
      → (if b then answers machine node past ++ Landed (landed machine.start node counter past) ∷ [] else answers machine node past)
      ≡ answers_of oracle_of at_first (and_ask (asks_in node past) (if b then Some (Wait counter) else None))
  wait_on newer past other counter true f e w h =
      let same = f refl in
      let c = has_come machine node past w.1 (subst (λ p. finished p past ≡ None) same w.0.going.running.not_finished) in
      answers_on past (Some (Wait counter)) (Landed (landed machine.start node counter past) ∷ []) h
      (ap (λ a. a ∷ []) (ap (λ vs. Landed vs) (landed_is newer past counter e w.1 (subst (λ p. AllDone machine.start past (is_counter counter) p) same w.0.all_done))
      ∙ landing_is (after_asks at_first (asks_in node past)) counter (awaited node counter past) (c.flying counter)))
  wait_on newer past other counter false f e w h = h

  -- a barrier that has a pass is passed
  pub passes_here : (newer past : List Entry) (other : ℕ) → (other == node) ≡ true → whole ≡ newer ++ Passed other ∷ past
      → Wired machine.start machine.nodes (Passed other ∷ past) → oracle_of.passes (after_asks at_first (asks_in node past)).barriers ≡ true
  passes_here newer past other f e w =
      let same = same_node other node f in
      let c = has_come machine node past w.1 (subst (λ p. finished p past ≡ None) same w.0.running.not_finished) in
      let p = after_asks at_first (asks_in node past) in
      let grow = passes_grow node newer (Passed other ∷ past) in
      let one : passes node (Passed other ∷ past) ≡ passes node past + 1 = ap (λ b. if b then passes node past + 1 else passes node past) f in
      let all : passes node whole ≡ passes node (newer ++ Passed other ∷ past) = ap (passes node) e in
      let less : p.barriers < passes node whole = let bar = c.barriers in omega (arith, grow, one, all, bar) in
      (Decides-ltb p.barriers (passes node whole)).1 less

  pass_on : (newer past : List Entry) (other : ℕ) (b : Bool) → (other == node) ≡ b → whole ≡ newer ++ Passed other ∷ past → Wired machine.start machine.nodes (Passed other ∷ past)
      → answers machine node past ≡ answers_of oracle_of at_first (asks_in node past)
      → (if b then answers machine node past ++ run.Passed ∷ [] else answers machine node past) ≡ answers_of oracle_of at_first (and_ask (asks_in node past) (if b then Some Pass else None))
  pass_on newer past other true f e w h =
      answers_on past (Some Pass) (run.Passed ∷ []) h (ap (λ a. a ∷ []) (sym (ap (λ b. if b then run.Passed else Broken) (passes_here newer past other f e w))))
  pass_on newer past other false f e w h = h

  not_less : (a b : ℕ) → a ≡ b → nat_lt a b ≡ false
  not_less a b e = go (nat_lt a b) (λ h. (Decides-ltb a b).0 h)
    where
      go : (z : Bool) → (z ≡ true → a < b) → z ≡ false
      go true h = absurd (let l = h refl in omega (arith, l, e))
      go false h = refl

  -- the barrier that the node stands at in the end is not passed
  pub unpassed_here : (newer past : List Entry) (other : ℕ) → (other == node) ≡ true → whole ≡ newer ++ Finished other kind.Waiting ∷ past
      → Wired machine.start machine.nodes (Finished other kind.Waiting ∷ past) → oracle_of.passes (after_asks at_first (asks_in node past)).barriers ≡ false
  unpassed_here newer past other f e w =
      let same = same_node other node f in
      let c = has_come machine node past w.1 (subst (λ p. finished p past ≡ None) same w.0.running.not_finished) in
      let p = after_asks at_first (asks_in node past) in
      let over = is_over machine.start machine.nodes node newer (Finished other kind.Waiting ∷ past) kind.Waiting (subst (λ l. Wired machine.start machine.nodes l) e wired)
      (ap (λ b. if b then Some kind.Waiting else finished node past) f) in
      not_less p.barriers (passes node whole) (c.barriers ∙ sym over.same ∙ ap (passes node) (sym e))

  pub breaks_here : (newer past : List Entry) (other : ℕ) → (other == node) ≡ true → whole ≡ newer ++ Finished other kind.Waiting ∷ past
      → Wired machine.start machine.nodes (Finished other kind.Waiting ∷ past) → passing oracle_of (after_asks at_first (asks_in node past)) ≡ Broken
  breaks_here newer past other f e w = ap (λ b. if b then run.Passed else Broken) (unpassed_here newer past other f e w)

  break_on : (newer past : List Entry) (other : ℕ) (b : Bool) → (other == node) ≡ b → whole ≡ newer ++ Finished other kind.Waiting ∷ past → Wired machine.start machine.nodes (Finished other kind.Waiting ∷ past)
      → answers machine node past ≡ answers_of oracle_of at_first (asks_in node past)
      → (if b then answers machine node past ++ Broken ∷ [] else answers machine node past) ≡ answers_of oracle_of at_first (and_ask (asks_in node past) (if b then Some Pass else None))
  break_on newer past other true f e w h =
      answers_on past (Some Pass) (Broken ∷ []) h (ap (λ a. a ∷ []) (sym (breaks_here newer past other f e w)))
  break_on newer past other false f e w h = h

  pub answers_are : (past newer : List Entry) → whole ≡ newer ++ past → Wired machine.start machine.nodes past → answers machine node past ≡ answers_of oracle_of at_first (asks_in node past)
  answers_are [] newer e w = refl
  answers_are (Issued other number a ∷ past) newer e w =
      none_on past (if other == node then Some (Issue a) else None) (answers_are past (newer ++ Issued other number a ∷ []) (e ∙ sym (append_one newer (Issued other number a) past)) w.1)
      (issue_none (other == node) a (after_asks at_first (asks_in node past)))
  answers_are (Delivered other number cell value ∷ past) newer e w =
      answers_are past (newer ++ Delivered other number cell value ∷ []) (e ∙ sym (append_one newer (Delivered other number cell value) past)) w.1
  answers_are (Waited other counter ∷ past) newer e w =
      let f = e ∙ sym (append_one newer (Waited other counter) past) in
      wait_on (newer ++ Waited other counter ∷ []) past other counter (other == node) (λ g. same_node other node g) f w (answers_are past (newer ++ Waited other counter ∷ []) f w.1)
  answers_are (Arrived other stores ∷ past) newer e w =
      none_on past (if other == node then Some (Arrive stores) else None) (answers_are past (newer ++ Arrived other stores ∷ []) (e ∙ sym (append_one newer (Arrived other stores) past)) w.1)
      (arrive_none (other == node) stores (after_asks at_first (asks_in node past)))
  answers_are (Passed other ∷ past) newer e w =
      pass_on newer past other (other == node) refl e w (answers_are past (newer ++ Passed other ∷ []) (e ∙ sym (append_one newer (Passed other) past)) w.1)
  answers_are (Finished other kind.Ended ∷ past) newer e w = answers_are past (newer ++ Finished other kind.Ended ∷ []) (e ∙ sym (append_one newer (Finished other kind.Ended) past)) w.1
  answers_are (Finished other (kind.Fault k line) ∷ past) newer e w =
      answers_are past (newer ++ Finished other (kind.Fault k line) ∷ []) (e ∙ sym (append_one newer (Finished other (kind.Fault k line)) past)) w.1
  answers_are (Finished other kind.Cut ∷ past) newer e w = answers_are past (newer ++ Finished other kind.Cut ∷ []) (e ∙ sym (append_one newer (Finished other kind.Cut) past)) w.1
  answers_are (Finished other kind.Waiting ∷ past) newer e w =
      break_on newer past other (other == node) refl e w (answers_are past (newer ++ Finished other kind.Waiting ∷ []) (e ∙ sym (append_one newer (Finished other kind.Waiting) past)) w.1)
