-- What the source needs of items with numbers.
use Rattle.std.proofs.Common.{◌≡◌, ℕ, zero, suc, ◌+◌, ◌<◌, ◌≤◌, List, length, Option, Some, None, Bool, true, false, ◌==◌, ◌&&◌, ◌||◌, refl, sym, ap, subst, ◌∙◌, arith, eqb-true, eq-eqb}
use Rattle.std.specs.Prelude.{nat_lt, nat_le}
use Rattle.std.proofs.lemmas.Bool.{and_parts, and_from, or_left}
use Rattle.sc_base.specs.declared.value.Place.{Place}
use Rattle.sc_base.specs.declared.value.Value.{Value}
use Rattle.sc_base.specs.declared.value.End.{End}
use Rattle.sc_meaning.specs.declared.event.SourceEvent.{SourceEvent}
use Rattle.sc_meaning.specs.declared.event.SourceEvent.TheVariants.{Do, Issue, Effect, Sync, Arrive, Release, End as Over}
use Rattle.sc_isa.specs.declared.journal.Entry.{Entry}
use Rattle.fabric.specs.Barriers.{released}
use Rattle.source_order.specs.Steps.{requested, arrivals_among}
use Rattle.source_order.specs.Needs.{step_needs, needs, is_on}
use Rattle.order_edges.specs.declared.line.Kind.TheVariants.{Own, Issues, Syncs, Arrivals, Effects, Releases}
use Rattle.order_edges.specs.declared.line.Line.{Line}
use Rattle.order_edges.specs.Lines.{belongs, node_of, number_of, number_in}
use Rattle.order_edges.specs.Tables.{line_in, all_releases_line}
use Rattle.order_edges.proofs.Places.{Numbered, numbered}
use Rattle.order_edges.proofs.Numbers.{lt_from}

module _ (past : List Entry) where
  both_from : (p q a b : ℕ) → q ≡ p → a < b → ((q == p) && nat_lt a b) ≡ true
  both_from p q a b e w = and_from _ _ (eq-eqb q p e) (lt_from a b w)

  -- an own step needs the own items before it
  pub own_needs : (p a k : ℕ) (x : SourceEvent) → number_in (line_in past p Own) x ≡ Some a → a < k → k ≤ requested p past → step_needs past x p k ≡ true
  own_needs p a k x h w low = by x (numbered (line_in past p Own) x a h)
    where
      by : (x : SourceEvent) → Numbered (line_in past p Own) x a → step_needs past x p k ≡ true
      by (Do q j wrote place value) n = both_from p q j k n.on (let e = n.is in omega (arith, e, w))
      by (Issue q j) n = both_from p q j k n.on (let e = n.is in omega (arith, e, w))
      by (Sync q j) n = both_from p q j k n.on (let e = n.is in omega (arith, e, w))
      by (Arrive q j stores) n = both_from p q j k n.on (let e = n.is in omega (arith, e, w))
      by (Over q end) n = absurd (let e = n.is in omega (arith, e, w, low))
      by (Effect q j c wrote place value) n = absurd (let e = n.kind in cc)
      by (Release m) n = absurd (let e = n.kind in cc)

  -- what an own step needs is needed by the own item with the number
  pub needs_own : (p k : ℕ) (x y : SourceEvent) → number_in (line_in past p Own) y ≡ Some k → step_needs past x p k ≡ true → needs past x y ≡ true
  needs_own p k x y h s = by y (numbered (line_in past p Own) y k h)
    where
      moved : (q j : ℕ) → q ≡ p → j ≡ k → step_needs past x q j ≡ true
      moved q j e f = subst (λ u. step_needs past x u j ≡ true) (sym e) (subst (λ u. step_needs past x p u ≡ true) (sym f) s)

      by : (y : SourceEvent) → Numbered (line_in past p Own) y k → needs past x y ≡ true
      by (Do q j wrote place value) n = moved q j n.on n.is
      by (Issue q j) n = moved q j n.on n.is
      by (Sync q j) n = or_left _ _ (moved q j n.on n.is)
      by (Arrive q j stores) n = moved q j n.on n.is
      by (Over q end) n = moved q (requested q past) n.on (ap (λ u. requested u past) n.on ∙ n.is)
      by (Effect q j c wrote place value) n = absurd (let e = n.kind in cc)
      by (Release m) n = absurd (let e = n.kind in cc)

  -- ---- what items of one kind are

  pub issue_is : (p k : ℕ) (x : SourceEvent) → number_in (line_in past p Issues) x ≡ Some k → x ≡ Issue p k
  issue_is p k x h = by x (numbered (line_in past p Issues) x k h)
    where
      by : (x : SourceEvent) → Numbered (line_in past p Issues) x k → x ≡ Issue p k
      by (Issue q j) n = ap (λ u. Issue u j) n.on ∙ ap (λ u. Issue p u) n.is
      by (Do q j wrote place value) n = absurd (let e = n.kind in cc)
      by (Sync q j) n = absurd (let e = n.kind in cc)
      by (Arrive q j stores) n = absurd (let e = n.kind in cc)
      by (Over q end) n = absurd (let e = n.kind in cc)
      by (Effect q j c wrote place value) n = absurd (let e = n.kind in cc)
      by (Release m) n = absurd (let e = n.kind in cc)

  pub sync_is : (p k : ℕ) (x : SourceEvent) → number_in (line_in past p Syncs) x ≡ Some k → x ≡ Sync p k
  sync_is p k x h = by x (numbered (line_in past p Syncs) x k h)
    where
      by : (x : SourceEvent) → Numbered (line_in past p Syncs) x k → x ≡ Sync p k
      by (Sync q j) n = ap (λ u. Sync u j) n.on ∙ ap (λ u. Sync p u) n.is
      by (Do q j wrote place value) n = absurd (let e = n.kind in cc)
      by (Issue q j) n = absurd (let e = n.kind in cc)
      by (Arrive q j stores) n = absurd (let e = n.kind in cc)
      by (Over q end) n = absurd (let e = n.kind in cc)
      by (Effect q j c wrote place value) n = absurd (let e = n.kind in cc)
      by (Release m) n = absurd (let e = n.kind in cc)

  pub arrival_is : (p k : ℕ) (x : SourceEvent) → number_in (line_in past p Arrivals) x ≡ Some k → (stores : Bool) × (x ≡ Arrive p k stores)
  arrival_is p k x h = by x (numbered (line_in past p Arrivals) x k h)
    where
      by : (x : SourceEvent) → Numbered (line_in past p Arrivals) x k → (stores : Bool) × (x ≡ Arrive p k stores)
      by (Arrive q j stores) n = (stores, ap (λ u. Arrive u j stores) n.on ∙ ap (λ u. Arrive p u stores) n.is)
      by (Do q j wrote place value) n = absurd (let e = n.kind in cc)
      by (Issue q j) n = absurd (let e = n.kind in cc)
      by (Sync q j) n = absurd (let e = n.kind in cc)
      by (Over q end) n = absurd (let e = n.kind in cc)
      by (Effect q j c wrote place value) n = absurd (let e = n.kind in cc)
      by (Release m) n = absurd (let e = n.kind in cc)

  pub record AnEffect (p k : ℕ) (x : SourceEvent) : Type 0 where
    pub cell : ℕ
    pub wrote : Bool
    pub place : Place
    pub value : Value
    pub is : x ≡ Effect p k cell wrote place value

  pub effect_is : (p k : ℕ) (x : SourceEvent) → number_in (line_in past p Effects) x ≡ Some k → AnEffect p k x
  effect_is p k x h = by x (numbered (line_in past p Effects) x k h)
    where
      by : (x : SourceEvent) → Numbered (line_in past p Effects) x k → AnEffect p k x
      by (Effect q j c wrote place value) n = record {
        cell = c;
        wrote = wrote;
        place = place;
        value = value;
        is = ap (λ u. Effect u j c wrote place value) n.on ∙ ap (λ u. Effect p u c wrote place value) n.is;
      }
      by (Do q j wrote place value) n = absurd (let e = n.kind in cc)
      by (Issue q j) n = absurd (let e = n.kind in cc)
      by (Sync q j) n = absurd (let e = n.kind in cc)
      by (Arrive q j stores) n = absurd (let e = n.kind in cc)
      by (Over q end) n = absurd (let e = n.kind in cc)
      by (Release m) n = absurd (let e = n.kind in cc)

  pub release_is : (m : ℕ) (x : SourceEvent) → number_in (all_releases_line past) x ≡ Some m → x ≡ Release m
  release_is m x h = by x (numbered (all_releases_line past) x m h)
    where
      by : (x : SourceEvent) → Numbered (all_releases_line past) x m → x ≡ Release m
      by (Release n) e = ap Release e.is
      by (Do q j wrote place value) n = absurd (let e = n.kind in cc)
      by (Issue q j) n = absurd (let e = n.kind in cc)
      by (Sync q j) n = absurd (let e = n.kind in cc)
      by (Arrive q j stores) n = absurd (let e = n.kind in cc)
      by (Over q end) n = absurd (let e = n.kind in cc)
      by (Effect q j c wrote place value) n = absurd (let e = n.kind in cc)
