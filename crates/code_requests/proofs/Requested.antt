-- In each whole run of the code of a source its nodes make the requests of the source.
use Rattle.std.proofs.Common.{◌≡◌, ◌⊎◌, inl, inr, ℕ, ◌==◌, ◌&&◌, List, [], ◌∷◌, ◌++◌, Option, Some, None, Bool, true, false, if◌then◌else◌, refl, sym, ◌∙◌, subst}
use Rattle.std.specs.List.{All}
use Rattle.std.proofs.lemmas.List.Elements.{All-head, All-tail}
use Rattle.effect_order.specs.Transfer.{part_value}
use Rattle.sc_base.specs.declared.value.End.TheVariants as kind
use Rattle.sc_base.specs.declared.value.Place.{Place}
use Rattle.sc_layout.specs.Layout.{Arrangement}
use Rattle.sc_layout.specs.Start.{start}
use Rattle.sc_isa.specs.declared.access.Access.{Access}
use Rattle.sc_isa.specs.declared.access.Access.TheVariants as access
use Rattle.sc_isa.specs.declared.access.Track.{Track}
use Rattle.sc_isa.specs.declared.access.Track.TheVariants.{Counter, Store, Covered}
use Rattle.sc_isa.specs.declared.journal.Entry.{Entry}
use Rattle.sc_isa.specs.declared.journal.Entry.TheVariants.{Issued, Delivered, Waited, Arrived, Passed, Finished}
use Rattle.sc_isa.specs.Fitting.{fits}
use Rattle.sc_isa.specs.Laws.{IsPlacedAsk}
use Rattle.sc_isa.specs.Run.{Ask, Issue, Wait, Arrive, Pass}
use Rattle.sc_isa.specs.Sound.{IsPlaced}
use Rattle.fabric.specs.Effects.{access_at, effects, or_zero}
use Rattle.fabric.specs.Barriers.{finished}
use Rattle.fabric.specs.Wired.{Wired}
use Rattle.fabric.specs.Asked.{Machine}
use Rattle.source_order.proofs.Numbers.{access_is}
use Rattle.source_order.proofs.Stands.{Stands}
use Rattle.node_emit.specs.Oracles.{Oracle, Progress, at_first}
use Rattle.code_requests.specs.Laws.{oracle_in}
use Rattle.code_requests.proofs.Listed.{and_ask, asks_in, Front, same_node}
use Rattle.code_requests.proofs.Oracled.{step_by, after_asks, has_come, issued_as}
use Rattle.code_requests.proofs.Answers.{append_one}
use Rattle.code_requests.proofs.SourceAnswers.{IsPaired}
use Rattle.code_requests.proofs.Telling.{FitAsks}

-- ---- an access that was issued is among the asks

abbrev pub InAsks : Ask → List Ask → Type 0
InAsks ask [] = ⊥
InAsks ask (x ∷ asks) = (ask ≡ x) ⊎ InAsks ask asks

in_front : (ask : Ask) (xs ys : List Ask) → InAsks ask xs → InAsks ask (xs ++ ys)
in_front ask [] ys i = absurd i
in_front ask (x ∷ xs) ys (inl e) = inl e
in_front ask (x ∷ xs) ys (inr i) = inr (in_front ask xs ys i)

in_last : (ask : Ask) (xs : List Ask) → InAsks ask (xs ++ ask ∷ [])
in_last ask [] = inl refl
in_last ask (x ∷ xs) = inr (in_last ask xs)

in_more : (ask : Ask) (xs : List Ask) (o : Option Ask) → InAsks ask xs → InAsks ask (and_ask xs o)
in_more ask xs None i = i
in_more ask xs (Some x) i = in_front ask xs (x ∷ []) i

module _ (node : ℕ) where
  issued_in : (b : Bool) (z : Bool) (x a : Access) (o : Option Access) (asks : List Ask) → (if b && z then Some x else o) ≡ Some a → (o ≡ Some a → InAsks (Issue a) asks)
      → InAsks (Issue a) (and_ask asks (if b then Some (Issue x) else None))
  issued_in true true x a o asks e ih = let same : x ≡ a = cc in subst (λ y. InAsks (Issue a) (asks ++ Issue y ∷ [])) (sym same) (in_last (Issue a) asks)
  issued_in true false x a o asks e ih = in_front (Issue a) asks (Issue x ∷ []) (ih e)
  issued_in false z x a o asks e ih = ih e

  pub access_asked : (past : List Entry) (n : ℕ) (a : Access) → access_at node n past ≡ Some a → InAsks (Issue a) (asks_in node past)
  access_asked [] n a e = absurd (cc)
  access_asked (Issued other number x ∷ past) n a e = issued_in (other == node) (number == n) x a (access_at node n past) (asks_in node past) e (λ f. access_asked past n a f)
  access_asked (Delivered other number cell value ∷ past) n a e = access_asked past n a e
  access_asked (Waited other counter ∷ past) n a e = in_more (Issue a) (asks_in node past) (if other == node then Some (Wait counter) else None) (access_asked past n a e)
  access_asked (Arrived other stores ∷ past) n a e = in_more (Issue a) (asks_in node past) (if other == node then Some (Arrive stores) else None) (access_asked past n a e)
  access_asked (Passed other ∷ past) n a e = in_more (Issue a) (asks_in node past) (if other == node then Some Pass else None) (access_asked past n a e)
  access_asked (Finished other kind.Ended ∷ past) n a e = access_asked past n a e
  access_asked (Finished other (kind.Fault k line) ∷ past) n a e = access_asked past n a e
  access_asked (Finished other kind.Cut ∷ past) n a e = access_asked past n a e
  access_asked (Finished other kind.Waiting ∷ past) n a e = in_more (Issue a) (asks_in node past) (if other == node then Some Pass else None) (access_asked past n a e)

pub asks_placed : (layout : Arrangement) (asks : List Ask) (a : Access) → All (IsPlacedAsk layout) asks → InAsks (Issue a) asks → IsPlaced layout a
asks_placed layout [] a h i = absurd i
asks_placed layout (x ∷ asks) a h (inl e) = subst (IsPlacedAsk layout) (sym e) (All-head (IsPlacedAsk layout) x asks h)
asks_placed layout (x ∷ asks) a h (inr i) = asks_placed layout asks a (All-tail (IsPlacedAsk layout) x asks h) i

pub front_in : (ask : Ask) (xs ys : List Ask) → Front xs ys → InAsks ask xs → InAsks ask ys
front_in ask xs ys f i = subst (InAsks ask) (sym f.is) (in_front ask xs f.more i)

-- no read is a store
pub not_stored : (asks : List Ask) (place : Place) → IsPaired asks → InAsks (Issue (access.Read place Store)) asks → ⊥
not_stored [] place p i = i
not_stored (Issue (access.Read q (Counter k)) ∷ asks) place p (inl e) = cc
not_stored (Issue (access.Read q (Counter k)) ∷ asks) place p (inr i) = not_stored asks place p i
not_stored (Issue (access.Read q Store) ∷ asks) place p i = p
not_stored (Issue (access.Read q Covered) ∷ asks) place p (inl e) = cc
not_stored (Issue (access.Read q Covered) ∷ asks) place p (inr i) = not_stored asks place p i
not_stored (Issue (access.Write q v track) ∷ asks) place p (inl e) = cc
not_stored (Issue (access.Write q v track) ∷ asks) place p (inr i) = not_stored asks place p i
not_stored (Issue (access.Copy from to cells track) ∷ asks) place p (inl e) = cc
not_stored (Issue (access.Copy from to cells track) ∷ asks) place p (inr i) = not_stored asks place p i
not_stored (Wait counter ∷ asks) place p (inl e) = cc
not_stored (Wait counter ∷ asks) place p (inr i) = not_stored asks place p i
not_stored (Arrive stores ∷ Pass ∷ asks) place p (inl e) = cc
not_stored (Arrive stores ∷ Pass ∷ asks) place p (inr (inl e)) = cc
not_stored (Arrive stores ∷ Pass ∷ asks) place p (inr (inr i)) = not_stored asks place p i
not_stored (Arrive stores ∷ []) place p i = p
not_stored (Arrive stores ∷ Issue a ∷ asks) place p i = p
not_stored (Arrive stores ∷ Wait counter ∷ asks) place p i = p
not_stored (Arrive stores ∷ Arrive again ∷ asks) place p i = p
not_stored (Pass ∷ asks) place p i = p

-- ---- the values of the reads among the asks fit

stands_in : (entry : Entry) (newer past : List Entry) → Stands past entry (newer ++ entry ∷ past)
stands_in entry [] past = inl (refl, refl)
stands_in entry (x ∷ newer) past = inr (stands_in entry newer past)

module _ (layout : Arrangement) (oracle : Oracle) where
  fit_on : (asks : List Ask) (p : Progress) (ask : Ask) → FitAsks layout oracle p asks → FitAsks layout oracle (after_asks p asks) (ask ∷ []) → FitAsks layout oracle p (asks ++ ask ∷ [])
  fit_on [] p ask h k = k
  fit_on (Issue (access.Read place track) ∷ asks) p ask h k = (h.0, fit_on asks (step_by p (Issue (access.Read place track))) ask h.1 k)
  fit_on (Issue (access.Write place v track) ∷ asks) p ask h k = fit_on asks (step_by p (Issue (access.Write place v track))) ask h k
  fit_on (Issue (access.Copy from to cells track) ∷ asks) p ask h k = fit_on asks (step_by p (Issue (access.Copy from to cells track))) ask h k
  fit_on (Wait counter ∷ asks) p ask h k = fit_on asks (step_by p (Wait counter)) ask h k
  fit_on (Arrive stores ∷ asks) p ask h k = fit_on asks (step_by p (Arrive stores)) ask h k
  fit_on (Pass ∷ asks) p ask h k = fit_on asks (step_by p Pass) ask h k

  fit_if : (b : Bool) (asks : List Ask) (p : Progress) (ask : Ask) → FitAsks layout oracle p asks → (b ≡ true → FitAsks layout oracle (after_asks p asks) (ask ∷ []))
      → FitAsks layout oracle p (and_ask asks (if b then Some ask else None))
  fit_if true asks p ask h k = fit_on asks p ask h (k refl)
  fit_if false asks p ask h k = h

module _ (layout : Arrangement) (machine : Machine) (starts : machine.start ≡ start layout) (node : ℕ) (whole : List Entry) (wired : Wired machine.start machine.nodes whole)
    (reads : (n : ℕ) (place : Place) (track : Track) → access_at node n whole ≡ Some (access.Read place track)
    → fits layout place (or_zero (part_value node n 0 false (effects (start layout) whole))) ≡ true) where
  abbrev oracle_ : Oracle
  oracle_ = oracle_in (start layout) node whole

  read_there : (x : Access) (number n : ℕ) (p : Progress) → access_at node number whole ≡ Some x → number ≡ p.accesses → FitAsks layout oracle_ p (Issue x ∷ [])
  read_there (access.Read place track) number n p at_ e = (subst (λ k. fits layout place (oracle_.value k) ≡ true) e (reads number place track at_), tt)
  read_there (access.Write place v track) number n p at_ e = tt
  read_there (access.Copy from to cells track) number n p at_ e = tt

  issue_fits : (newer past : List Entry) (other number : ℕ) (x : Access) → whole ≡ newer ++ Issued other number x ∷ past → Wired machine.start machine.nodes (Issued other number x ∷ past)
      → (other == node) ≡ true → FitAsks layout oracle_ (after_asks at_first (asks_in node past)) (Issue x ∷ [])
  issue_fits newer past other number x e w b =
      let same = same_node other node b in
      let c = has_come machine node past w.1 (subst (λ p. finished p past ≡ None) same w.0.going.running.not_finished) in
      let stands : Stands past (Issued node number x) whole =
      subst (λ p. Stands past (Issued p number x) whole) same (subst (Stands past (Issued other number x)) (sym e) (stands_in (Issued other number x) newer past)) in
      read_there x number 0 (after_asks at_first (asks_in node past)) (access_is machine.start machine.nodes node number x past whole wired stands).0
      (issued_as machine.start machine.nodes node other number past w.0.numbered b ∙ sym c.accesses)

  pub asks_fit_in : (past newer : List Entry) → whole ≡ newer ++ past → Wired machine.start machine.nodes past → FitAsks layout oracle_ at_first (asks_in node past)
  asks_fit_in [] newer e w = tt
  asks_fit_in (Issued other number x ∷ past) newer e w =
      fit_if layout oracle_ (other == node) (asks_in node past) at_first (Issue x) (asks_fit_in past (newer ++ Issued other number x ∷ []) (e ∙ sym (append_one newer (Issued other number x) past)) w.1)
      (issue_fits newer past other number x e w)
  asks_fit_in (Delivered other number cell value ∷ past) newer e w =
      asks_fit_in past (newer ++ Delivered other number cell value ∷ []) (e ∙ sym (append_one newer (Delivered other number cell value) past)) w.1
  asks_fit_in (Waited other counter ∷ past) newer e w =
      fit_if layout oracle_ (other == node) (asks_in node past) at_first (Wait counter) (asks_fit_in past (newer ++ Waited other counter ∷ []) (e ∙ sym (append_one newer (Waited other counter) past)) w.1) (λ b. tt)
  asks_fit_in (Arrived other stores ∷ past) newer e w =
      fit_if layout oracle_ (other == node) (asks_in node past) at_first (Arrive stores) (asks_fit_in past (newer ++ Arrived other stores ∷ []) (e ∙ sym (append_one newer (Arrived other stores) past)) w.1) (λ b. tt)
  asks_fit_in (Passed other ∷ past) newer e w =
      fit_if layout oracle_ (other == node) (asks_in node past) at_first Pass (asks_fit_in past (newer ++ Passed other ∷ []) (e ∙ sym (append_one newer (Passed other) past)) w.1) (λ b. tt)
  asks_fit_in (Finished other kind.Ended ∷ past) newer e w = asks_fit_in past (newer ++ Finished other kind.Ended ∷ []) (e ∙ sym (append_one newer (Finished other kind.Ended) past)) w.1
  asks_fit_in (Finished other (kind.Fault k line) ∷ past) newer e w =
      asks_fit_in past (newer ++ Finished other (kind.Fault k line) ∷ []) (e ∙ sym (append_one newer (Finished other (kind.Fault k line)) past)) w.1
  asks_fit_in (Finished other kind.Cut ∷ past) newer e w = asks_fit_in past (newer ++ Finished other kind.Cut ∷ []) (e ∙ sym (append_one newer (Finished other kind.Cut) past)) w.1
  asks_fit_in (Finished other kind.Waiting ∷ past) newer e w =
      fit_if layout oracle_ (other == node) (asks_in node past) at_first Pass
      (asks_fit_in past (newer ++ Finished other kind.Waiting ∷ []) (e ∙ sym (append_one newer (Finished other kind.Waiting) past)) w.1) (λ b. tt)
