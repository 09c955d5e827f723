-- What is left of a node's requests: the tests of parts, of requests that are over, and of the next request are exact.
use Rattle.std.proofs.Common.{◌≡◌, ℕ, suc, ◌<◌, ⊎_elim, List, Option, Some, None, Bool, true, false, ◌&&◌, refl, arith}
use Rattle.std.specs.Prelude.{IsSome, is_some, nat_lt, if◌then◌else◌, slice_get}
use Rattle.std.specs.Option.{option_map_or}
use Rattle.std.specs.Bool.{Decides}
use Rattle.std.proofs.lemmas.Bool.Decides.{leb_tells, Decides-ltb, Decides-eqb, Decides-and, Decides-like}
use Rattle.sc_base.specs.declared.value.Value.{Value}
use Rattle.sc_base.specs.declared.value.Place.{Place}
use Rattle.effect_order.specs.Effect.{Effect as CellEffect, same_place, same_value}
use Rattle.effect_order.proofs.Equal.{place_is, place_self, value_is, value_self}
use Rattle.sc_meaning.specs.declared.request.Request.{Request}
use Rattle.sc_meaning.specs.declared.event.SourceEvent.{SourceEvent}
use Rattle.effect_order.specs.Transfer.{Transfer, part_place, part_value, side, cell_past, AllOccurred}
use Rattle.sc_meaning.specs.Parts.{transfer_of, is_blocking_copy}
use Rattle.sc_meaning.specs.Past.{Processes, effects, releases, arrivals, made, ended, run_so_far, request_at}
use Rattle.sc_meaning.specs.History.{AllDone, GoesOn, IsNext}
use Rattle.sc_meaning.specs.Test.{part_over, all_occurred, is_over, all_done, goes_on, is_next}
use Rattle.meaning_laws.proofs.Decided.{le_decides, none_decides, some_decides, all_decides, below_decides, or_none_decides, only_if_decides, some_is}

pub place_decides : (p q : Place) → Decides (same_place p q) (p ≡ q)
place_decides p q = (place_is p q, place_self p q)

pub value_decides : (v w : Value) → Decides (same_value v w) (v ≡ w)
value_decides v w = (value_is v w, value_self v w)

-- ---- parts

by_flag : (b : Bool) (o : Option Place) → b ≡ false → (if b then o else None) ≡ None
by_flag true o e = absurd cc
by_flag false o e = refl

not_below : (a b : ℕ) → (a < b → ⊥) → nat_lt a b ≡ false
not_below a b n = ⊎_elim (λ t. absurd (n t.1)) (λ f. f.0) (leb_tells (suc a) b)

no_part : (transfer : Transfer) (cell : ℕ) (wrote : Bool) → (cell < transfer.cells → ⊥) → part_place transfer cell wrote ≡ None
no_part transfer cell wrote n = by_flag (nat_lt cell transfer.cells) (cell_past cell (side transfer wrote)) (not_below cell transfer.cells n)

module _ (transfer : Transfer) (node number : ℕ) (earlier : List CellEffect) where
  abbrev Has : ℕ → Bool → Type 0
  Has cell wrote = IsSome (part_place transfer cell wrote) → IsSome (part_value node number cell wrote earlier)

  has_decides : (cell : ℕ) (wrote : Bool) → Decides (part_over transfer node number cell wrote earlier) (Has cell wrote)
  has_decides cell wrote =
      or_none_decides (part_place transfer cell wrote) (is_some (part_value node number cell wrote earlier))
      (IsSome (part_value node number cell wrote earlier)) (some_is (part_value node number cell wrote earlier))

  of_flag : (cell : ℕ) → Has cell false → Has cell true → (wrote : Bool) → Has cell wrote
  of_flag cell f t true = t
  of_flag cell f t false = f

  everywhere : ((cell : ℕ) → cell < transfer.cells → Has cell false × Has cell true) → AllOccurred transfer node number earlier
  everywhere h cell wrote =
      ⊎_elim (λ t. of_flag cell (h cell t.1).0 (h cell t.1).1 wrote)
      (λ f. λ some. let e = no_part transfer cell wrote (λ lt. let g = f.1 in omega arith) in absurd (none_some (part_place transfer cell wrote) e some))
      (leb_tells (suc cell) transfer.cells)
    where
      none_some : (o : Option Place) → o ≡ None → IsSome o → ⊥
      none_some None e h = cc
      none_some (Some p) e h = cc

  pub occurred_decides : Decides (all_occurred transfer node number earlier) (AllOccurred transfer node number earlier)
  occurred_decides =
      Decides-like (all_occurred transfer node number earlier) everywhere (λ h cell lt. (h cell false, h cell true))
      (below_decides (λ cell. part_over transfer node number cell false earlier && part_over transfer node number cell true earlier)
      (λ cell. Has cell false × Has cell true)
      (λ cell. Decides-and (part_over transfer node number cell false earlier) (part_over transfer node number cell true earlier)
      (has_decides cell false) (has_decides cell true))
      transfer.cells)

-- ---- requests

module _ (processes : Processes) (past : List SourceEvent) where
  module _ (kind : Request → Bool) (node : ℕ) where
    abbrev IsOver : ℕ → Request → Type 0
    IsOver number request = kind request ≡ true → AllOccurred (transfer_of request) node number (effects past)

    over_decides : (number : ℕ) (request : Request) → Decides (is_over kind node number (effects past) request) (IsOver number request)
    over_decides number request =
        only_if_decides (kind request) (all_occurred (transfer_of request) node number (effects past)) _
        (occurred_decides (transfer_of request) node number (effects past))

    no_request : (number : ℕ) (b : Bool) (o : Option Request) (request : Request) → b ≡ false → (if b then o else None) ≡ Some request → ⊥
    no_request number true o request e h = cc
    no_request number false o request e h = cc

    pub done_decides : Decides (all_done processes kind node past) (AllDone processes kind node past)
    done_decides =
        Decides-like (all_done processes kind node past)
        (λ h number request e. ⊎_elim (λ t. h number t.1 request e)
        (λ f. absurd (no_request number (nat_lt number (made node past)) (slice_get (run_so_far processes node past).events number) request f.0 e))
        (leb_tells (suc number) (made node past)))
        (λ h number lt request e. h number request e)
        (below_decides (λ number. option_map_or (is_over kind node number (effects past)) (request_at processes node number past) true)
        (λ number. (request : Request) → request_at processes node number past ≡ Some request → IsOver number request)
        (λ number. all_decides (is_over kind node number (effects past)) (IsOver number) (over_decides number) (request_at processes node number past))
        (made node past))

  pub goes_decides : (node : ℕ) → Decides (goes_on processes past node) (GoesOn processes past node)
  goes_decides node =
      Decides-like (goes_on processes past node)
      (λ h. record { node_within = h.0; running = h.1.0; copies_done = h.1.1.0; released = h.1.1.1 })
      (λ h. (h.node_within, (h.running, (h.copies_done, h.released))))
      (Decides-and _ _ (Decides-ltb node processes.nodes)
      (Decides-and _ _ (none_decides (ended node past))
      (Decides-and _ _ (done_decides is_blocking_copy node) (le_decides (arrivals node past) (releases past)))))

  pub next_decides : (node number : ℕ) (test : Request → Bool) (P : Request → Type 0) → ((r : Request) → Decides (test r) (P r))
      → Decides (is_next processes past node number test) ((request : Request) × IsNext processes past node number request × P request)
  next_decides node number test P d =
      Decides-like (is_next processes past node number test)
      (λ h. (h.1.1.0, record { goes_on = h.0; numbered = h.1.0; next = h.1.1.1 }, h.1.1.2))
      (λ h. (h.1.goes_on, (h.1.numbered, (h.0, h.1.next, h.2))))
      (Decides-and _ _ (goes_decides node)
      (Decides-and _ _ (Decides-eqb number (made node past))
      (some_decides test P d (slice_get (run_so_far processes node past).events number))))
