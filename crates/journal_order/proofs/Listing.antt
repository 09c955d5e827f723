-- The items of a run listed entry by entry.
use Rattle.std.proofs.Common.{◌≡◌, ℕ, zero, suc, ◌+◌, ◌<◌, ◌≤◌, List, [], ◌∷◌, ◌++◌, length, get_or, take, reverse, Option, Some, None, Bool, true, false, not, ◌==◌, ◌&&◌, if◌then◌else◌, refl, sym, ap, ap₂, ◌∙◌, arith, add-one, option_to_list, append_assoc}
use Rattle.std.proofs.lemmas.List.{reverse-append}
use Rattle.sc_meaning.specs.declared.event.SourceEvent.{SourceEvent}
use Rattle.sc_meaning.specs.declared.event.SourceEvent.TheVariants.{Release}
use Rattle.sc_meaning.specs.declared.request.Request.{Request}
use Rattle.sc_meaning.specs.OfAccess.{is_done_at_once}
use Rattle.sc_isa.specs.declared.journal.Entry.{Entry}
use Rattle.sc_isa.specs.declared.journal.Entry.TheVariants.{Issued, Delivered, Waited, Arrived, Passed, Finished}
use Rattle.source_order.specs.Steps.{request_by, requested, count_one}
use Rattle.source_order.specs.Items.{step_by, own_steps, all_steps, all_releases}
use Rattle.journal_order.specs.Listed.{step_with}

take_next : {X : Type 0} (xs : List X) (i : ℕ) (d : X) → i < length xs → take (i + 1) xs ≡ take i xs ++ get_or xs i d ∷ []
take_next {X} xs i d w = ap (λ n. take n xs) (add-one i) ∙ by xs i w
  where
    by : (ys : List X) (k : ℕ) → k < length ys → take (suc k) ys ≡ take k ys ++ get_or ys k d ∷ []
    by [] k w = absurd (omega (arith, w))
    by (y ∷ ys) zero w = refl
    by (y ∷ ys) (suc k) w = ap (λ zs. y ∷ zs) (by ys k (omega (arith, w)))

-- one entry more
pub past_next : {X : Type 0} (xs : List X) (i : ℕ) (d : X) → i < length xs →
    reverse (take (i + 1) xs) ≡ get_or xs i d ∷ reverse (take i xs)
past_next xs i d w = ap reverse (take_next xs i d w) ∙ reverse-append (take i xs) (get_or xs i d ∷ [])

list_if : (b : Bool) (event : SourceEvent) →
    option_to_list (if b then Some event else None) ≡ (if b then event ∷ [] else [])
list_if true event = refl
list_if false event = refl

-- the step that is added
pub step_is : (node : ℕ) (past : List Entry) (entry : Entry) →
    option_to_list (step_with node (requested node past) entry) ≡ step_by node past entry
step_is node past (Issued other number access) = list_if ((other == node) && not (is_done_at_once access)) _
step_is node past (Waited other counter) = list_if ((other == node) && (counter == 0)) _
step_is node past (Arrived other stores) = list_if (other == node) _
step_is node past (Finished other end) = list_if (other == node) _
step_is node past (Delivered other number cell value) = refl
step_is node past (Passed other) = refl

pub own_more : (node : ℕ) (journal : List Entry) (i : ℕ) (d : Entry) (new old : List SourceEvent) (step : Option SourceEvent)
    (request : ℕ) → i < length journal → new ≡ old ++ option_to_list step → step ≡ step_with node request (get_or journal i d) →
    request ≡ requested node (reverse (take i journal)) → old ≡ own_steps node (reverse (take i journal)) →
    new ≡ own_steps node (reverse (take (i + 1) journal))
own_more node journal i d new old step request w added is counted listed =
    added ∙ ap₂ (λ a b. a ++ b) listed
    (ap option_to_list (is ∙ ap (λ n. step_with node n (get_or journal i d)) counted)
    ∙ step_is node (reverse (take i journal)) (get_or journal i d))
    ∙ ap (own_steps node) (sym (past_next journal i d w))

pub counted_more : (node : ℕ) (journal : List Entry) (i : ℕ) (d : Entry) (after request : ℕ) → i < length journal →
    after ≡ count_one (request_by node (get_or journal i d)) request → request ≡ requested node (reverse (take i journal)) →
    after ≡ requested node (reverse (take (i + 1) journal))
counted_more node journal i d after request w is counted =
    is ∙ ap (count_one (request_by node (get_or journal i d))) counted ∙ ap (requested node) (sym (past_next journal i d w))

count_low : (o : Option Request) (n : ℕ) → count_one o n ≤ n + 1
count_low None n = omega arith
count_low (Some request) n = omega arith

pub low_more : (o : Option Request) (after request i : ℕ) → after ≡ count_one o request → request ≤ i → after ≤ i + 1
low_more o after request i is low = let h = count_low o request in omega (arith, h, is, low)

-- one node more
pub steps_more : (node : ℕ) (past : List Entry) (new old begun : List SourceEvent) → new ≡ old ++ own_steps node past →
    old ≡ begun ++ all_steps node past → new ≡ begun ++ all_steps (node + 1) past
steps_more node past new old begun added so_far =
    added ∙ ap (λ r. r ++ own_steps node past) so_far ∙ append_assoc begun (all_steps node past) (own_steps node past)
    ∙ ap (λ n. begun ++ all_steps n past) (sym (add-one node))

-- one release more
pub releases_more : (number : ℕ) (new old begun : List SourceEvent) → new ≡ old ++ Release (number + 1) ∷ [] →
    old ≡ begun ++ all_releases number → new ≡ begun ++ all_releases (number + 1)
releases_more number new old begun added so_far =
    added ∙ ap₂ (λ r n. r ++ Release n ∷ []) so_far (add-one number)
    ∙ append_assoc begun (all_releases number) (Release (suc number) ∷ [])
    ∙ ap (λ n. begun ++ all_releases n) (sym (add-one number))
