-- How many of a node's first requests are answered, by its run and by the journal.
use Rattle.std.proofs.Common.{◌≡◌, ℕ, suc, ◌+◌, ◌<◌, ◌≤◌, List, [], ◌∷◌, length, Option, Some, None, refl, sym, ap, ◌∙◌, subst, inl, inr, arith}
use Rattle.sc_meaning.specs.declared.request.Request.{Request}
use Rattle.sc_meaning.specs.Past.{Processes}
use Rattle.sc_isa.specs.declared.journal.Entry.{Entry}
use Rattle.source_order.specs.Steps.{request_by, and_request, own_requests, requested}
use Rattle.sc_meaning.specs.Answering.{is_answered}
use Rattle.source_order.proofs.Stands.{Stands, own_length, own_at, requested_below}
use Rattle.source_order.proofs.Asked.{one_if, asks, asks_front, asks_next, asks_unlined}
use Rattle.source_order.proofs.Matches.{Known}
use Rattle.source_order.proofs.Parted.{Full, Needed}

and_front : (k : ℕ) (xs : List Request) (o : Option Request) → k ≤ length xs → asks k (and_request xs o) ≡ asks k xs
and_front k xs None le = refl
and_front k xs (Some r) le = asks_front k xs (r ∷ []) le

-- the requests before an entry, among all
before : (p : ℕ) (past : List Entry) (entry : Entry) (whole : List Entry) (r : Request) → Stands past entry whole → request_by p entry ≡ Some r
    → asks (requested p past) (own_requests p whole) ≡ asks (requested p past) (own_requests p past)
before p past entry [] r s h = absurd s
before p past entry (e ∷ rest) r (inl q) h =
    subst (λ u. asks (requested p u) (own_requests p (e ∷ rest)) ≡ asks (requested p u) (own_requests p u)) (sym q.0)
    (and_front (requested p rest) (own_requests p rest) (request_by p e) (let l = own_length p rest in omega arith))
before p past entry (e ∷ rest) r (inr s) h =
    and_front (requested p past) (own_requests p rest) (request_by p e) (let l = own_length p rest in let b = requested_below p past entry rest r s h in omega arith)
    ∙ before p past entry rest r s h

module _ (processes : Processes) (whole : List Entry) (known : Known processes whole) (p : ℕ) (within : p < processes.nodes) where
  by_journal : (k : ℕ) → asks k (own_requests p whole) ≡ Needed processes whole known p k
  by_journal k = ap (asks k) (known.requests p within) ∙ asks_unlined k (Full processes whole known p).events

  -- those before an entry
  pub needed_before : (past : List Entry) (entry : Entry) (r : Request) → Stands past entry whole → request_by p entry ≡ Some r
      → Needed processes whole known p (requested p past) ≡ asks (requested p past) (own_requests p past)
  needed_before past entry r s h = sym (by_journal (requested p past)) ∙ before p past entry whole r s h

  -- and with it
  pub needed_with : (past : List Entry) (entry : Entry) (r : Request) → Stands past entry whole → request_by p entry ≡ Some r
      → Needed processes whole known p (suc (requested p past)) ≡ Needed processes whole known p (requested p past) + one_if (is_answered r)
  needed_with past entry r s h =
      sym (by_journal (suc (requested p past)))
      ∙ asks_next (requested p past) (own_requests p whole) r (own_at p past entry whole r s h)
      ∙ ap (λ n. n + one_if (is_answered r)) (by_journal (requested p past))
