-- The tables of issues along a journal, and what is read of them.
use Rattle.std.proofs.Common.{◌++◌, ◌≡◌, ◌⊎◌, ◌≢◌, ℕ, ◌+◌, ◌<◌, ◌≤◌, ◌^◌, take, get_or, length-take, List, [], ◌∷◌, map, reverse, length, Option, Some, None, Bool, true, false, eqb, ◌==◌, ◌&&◌, if◌then◌else◌, refl, sym, ap, ap₂, ◌∙◌, subst, inl, inr, arith}
use Rattle.std.proofs.lemmas.List.{take_more, take_all, length-reverse, reverse-reverse, reverse-append, map-append}
use Rattle.std.specs.Option.{option_map, option_map_or, IfSome}
use Rattle.std.proofs.lemmas.Bool.Decides.{eqb_tells}
use Rattle.sc_base.specs.declared.value.Place.{Place}
use Rattle.sc_base.specs.declared.value.Value.{Value}
use Rattle.effect_order.specs.Effect.{Effect as CellEffectOf}
use Rattle.sc_meaning.specs.declared.request.Request.{Request}
use Rattle.sc_meaning.specs.declared.request.Request.TheVariants.{Sync}
use Rattle.sc_meaning.specs.History.{barrier_of}
use Rattle.sc_meaning.specs.OfAccess.{is_done_at_once, request_in}
use Rattle.sc_isa.specs.declared.access.Access.{Access}
use Rattle.sc_isa.specs.declared.journal.Entry.{Entry}
use Rattle.sc_isa.specs.declared.journal.Entry.TheVariants.{Issued, Delivered, Waited, Arrived, Passed, Finished}
use Rattle.fabric.specs.Effects.{access_at, effects, at_delivery, and_effect}
use Rattle.source_order.specs.Steps.{request_by, count_one, requested, request_of}
use Rattle.source_order.specs.Moments.{event_of}
use Rattle.source_order.specs.Items.{all_effects}
use Rattle.journal_effects.specs.declared.effect.CellEffect.{CellEffect}
use Rattle.journal_effects.specs.declared.issues.Issue.{Issue}
use Rattle.journal_effects.specs.declared.issues.Issues.{Issues}
use Rattle.journal_effects.specs.Numbered.{HasNumberedCells}
use Rattle.journal_effects.specs.Occurred.{effect_of, newest_first}
use Rattle.journal_effects.specs.Issues.{issue_at, same_issue, issue_in, requests_in, AreIssuesOf, FewRequests, HaveNumberedCells, with_entry, event_as, event_with, event_in}

-- ---- requests

count_if : (b : Bool) (request : Request) (n : ℕ) → count_one (if b then Some request else None) n ≡ (if b then n + 1 else n)
count_if true request n = refl
count_if false request n = refl

same_node : (f g : ℕ → ℕ) (node other : ℕ) → ((n : ℕ) → f n ≡ g n) →
    (if node == other then f node + 1 else f other) ≡ (if node == other then g other + 1 else g other)
same_node f g node other same = by (eqb_tells node other)
  where
    by : ((eqb node other ≡ true) × (node ≡ other)) ⊎ ((eqb node other ≡ false) × (node ≢ other)) →
        (if node == other then f node + 1 else f other) ≡ (if node == other then g other + 1 else g other)
    by (inl p) =
        ap (λ b. if b then f node + 1 else f other) p.0
        ∙ ap (λ n. n + 1) (ap f p.1 ∙ same other)
        ∙ ap (λ b. if b then g other + 1 else g other) (sym p.0)
    by (inr p) =
        ap (λ b. if b then f node + 1 else f other) p.0 ∙ same other
        ∙ ap (λ b. if b then g other + 1 else g other) (sym p.0)

requested_low : (o : Option Request) (n : ℕ) → count_one o n ≤ n + 1
requested_low None n = omega arith
requested_low (Some request) n = omega arith

pub requested_few : (node : ℕ) (past : List Entry) → requested node past ≤ length past
requested_few node [] = omega arith
requested_few node (entry ∷ past) =
    let one = requested_low (request_by node entry) (requested node past) in
    let rest = requested_few node past in omega (arith, one, rest)

pub requests_few : (issues : Issues) (journal : List Entry) (i : ℕ) → AreIssuesOf issues (reverse (take i journal)) → i < 2 ^ 63 →
    FewRequests issues
requests_few issues journal i are low = λ node.
    let few = requested_few node (reverse (take i journal)) in
    let same = are.requests node in
    let turned = length-reverse (take i journal) in
    let taken = length-take i journal in
    omega (arith, few, same, turned, taken, low)

-- ---- one entry more

issue_noted : (node number : ℕ) (access : Access) (request : ℕ) (past : List Entry) → request ≡ requested node past →
    (other n : ℕ) → (if same_issue (node, number) (other, n) then Some (record { access = access; request = request }) else issue_at other n past)
    ≡ issue_at other n (Issued node number access ∷ past)
issue_noted node number access request past is other n = by (eqb_tells node other)
  where
    made : ℕ → Issue
    made k = record { access = access; request = k }

    by : ((eqb node other ≡ true) × (node ≡ other)) ⊎ ((eqb node other ≡ false) × (node ≢ other)) →
        (if (node == other) && (number == n) then Some (made request) else issue_at other n past)
        ≡ (if (node == other) && (number == n) then Some (made (requested other past)) else issue_at other n past)
    by (inl p) =
        ap (λ k. if (node == other) && (number == n) then Some (made k) else issue_at other n past)
        (is ∙ ap (λ q. requested q past) p.1)
    by (inr p) =
        ap (λ b. if b && (number == n) then Some (made request) else issue_at other n past) p.0
        ∙ ap (λ b. if b && (number == n) then Some (made (requested other past)) else issue_at other n past) (sym p.0)

-- what `issues` and `requests` say of a table after a note
abbrev pub Notes : Issues → Issues → (node number : ℕ) → Issue → Type 0
Notes old new node number issue =
    (other n : ℕ) → issue_in new.issues other n ≡ (if same_issue (node, number) (other, n) then Some issue else issue_in old.issues other n)

abbrev pub Counts : Issues → Issues → (node : ℕ) → Type 0
Counts old new node =
    (other : ℕ) → requests_in new.requests other ≡ (if node == other then requests_in old.requests node + 1 else requests_in old.requests other)

pub issued_more : (old new : Issues) (node number : ℕ) (access : Access) (request : ℕ) →
    request ≡ requests_in old.requests node → Notes old new node number (record { access = access; request = request }) →
    Counts old new node → (past : List Entry) → AreIssuesOf old past → AreIssuesOf new (Issued node number access ∷ past)
issued_more old new node number access request is notes counts past are = record {
  issues = λ other n. notes other n
      ∙ ap (λ rest. if same_issue (node, number) (other, n) then Some (record { access = access; request = request }) else rest) (are.issues other n)
      ∙ issue_noted node number access request past (is ∙ are.requests node) other n;
  requests = λ other. counts other
      ∙ same_node (requests_in old.requests) (λ n. requested n past) node other are.requests
      ∙ sym (count_if (node == other) (request_in access) (requested other past));
}

pub arrived_more : (old new : Issues) (node : ℕ) (stores : Bool) → new.issues ≡ old.issues → Counts old new node →
    (past : List Entry) → AreIssuesOf old past → AreIssuesOf new (Arrived node stores ∷ past)
arrived_more old new node stores same counts past are = record {
  issues = λ other n. ap (λ t. issue_in t other n) same ∙ are.issues other n;
  requests = λ other. counts other
      ∙ same_node (requests_in old.requests) (λ n. requested n past) node other are.requests
      ∙ sym (count_if (node == other) (barrier_of stores 0) (requested other past));
}

pub waited_more : (old new : Issues) (node counter : ℕ) → counter ≡ 0 → new.issues ≡ old.issues → Counts old new node →
    (past : List Entry) → AreIssuesOf old past → AreIssuesOf new (Waited node counter ∷ past)
waited_more old new node counter none same counts past are = record {
  issues = λ other n. ap (λ t. issue_in t other n) same ∙ are.issues other n;
  requests = λ other. counts other
      ∙ same_node (requests_in old.requests) (λ n. requested n past) node other are.requests
      ∙ sym (by other (node == other));
}
  where
    by : (other : ℕ) (b : Bool) →
        count_one (if b && (counter == 0) then Some (Sync 0) else None) (requested other past)
        ≡ (if b then requested other past + 1 else requested other past)
    by other true = ap (λ c. count_one (if c == 0 then Some (Sync 0) else None) (requested other past)) none
    by other false = refl

pub waited_same : (old : Issues) (node counter : ℕ) → (counter == 0) ≡ false → (past : List Entry) → AreIssuesOf old past →
    AreIssuesOf old (Waited node counter ∷ past)
waited_same old node counter some past are = record {
  issues = are.issues;
  requests = λ other. are.requests other ∙ sym (by other (node == other));
}
  where
    by : (other : ℕ) (b : Bool) →
        count_one (if b && (counter == 0) then Some (Sync 0) else None) (requested other past) ≡ requested other past
    by other true = ap (λ c. count_one (if c then Some (Sync 0) else None) (requested other past)) some
    by other false = refl

pub other_same : (old : Issues) (entry : Entry) →
    ((node number : ℕ) (access : Access) → entry ≡ Issued node number access → ⊥) →
    ((node counter : ℕ) → entry ≡ Waited node counter → ⊥) →
    ((node : ℕ) (stores : Bool) → entry ≡ Arrived node stores → ⊥) →
    (past : List Entry) → AreIssuesOf old past → AreIssuesOf old (entry ∷ past)
other_same old (Issued node number access) a b c past are = absurd (a node number access refl)
other_same old (Waited node counter) a b c past are = absurd (b node counter refl)
other_same old (Arrived node stores) a b c past are = absurd (c node stores refl)
other_same old (Delivered node number cell value) a b c past are = record { issues = are.issues; requests = are.requests }
other_same old (Passed node) a b c past are = record { issues = are.issues; requests = are.requests }
other_same old (Finished node end) a b c past are = record { issues = are.issues; requests = are.requests }

-- the noted access has numbered cells, and so has each other
pub numbered_more : (old new : Issues) (node number : ℕ) (issue : Issue) → Notes old new node number issue →
    HasNumberedCells issue.access → HaveNumberedCells old → HaveNumberedCells new
numbered_more old new node number issue notes here all = λ other n.
    subst (λ o. IfSome o (λ i. HasNumberedCells i.access)) (sym (notes other n)) (by other n (same_issue (node, number) (other, n)))
  where
    by : (other n : ℕ) (b : Bool) → IfSome (if b then Some issue else issue_in old.issues other n) (λ i. HasNumberedCells i.access)
    by other n true = here
    by other n false = all other n

pub numbered_same : (old new : Issues) → new.issues ≡ old.issues → HaveNumberedCells old → HaveNumberedCells new
numbered_same old new same all = λ other n.
    subst (λ o. IfSome o (λ i. HasNumberedCells i.access)) (sym (ap (λ t. issue_in t other n) same)) (all other n)

-- ---- what is read of the tables

map_if : {A B : Type 0} (f : A → B) (b : Bool) (x : A) (rest : Option A) → (more : Option B) → option_map f rest ≡ more →
    option_map f (if b then Some x else rest) ≡ (if b then Some (f x) else more)
map_if f true x rest more e = refl
map_if f false x rest more e = e

or_if : {A : Type 0} (f : A → ℕ) (b : Bool) (x : A) (rest : Option A) (more : ℕ) → option_map_or f rest 0 ≡ more →
    option_map_or f (if b then Some x else rest) 0 ≡ (if b then f x else more)
or_if f true x rest more e = refl
or_if f false x rest more e = e

pub access_is : (node number : ℕ) (past : List Entry) → option_map (λ i. i.access) (issue_at node number past) ≡ access_at node number past
access_is node number [] = refl
access_is node number (Issued other n access ∷ past) =
    map_if (λ i. i.access) ((other == node) && (n == number)) _ (issue_at node number past) (access_at node number past) (access_is node number past)
access_is node number (Delivered other n cell value ∷ past) = access_is node number past
access_is node number (Waited other counter ∷ past) = access_is node number past
access_is node number (Arrived other stores ∷ past) = access_is node number past
access_is node number (Passed other ∷ past) = access_is node number past
access_is node number (Finished other end ∷ past) = access_is node number past

pub request_is : (node number : ℕ) (past : List Entry) → option_map_or (λ i. i.request) (issue_at node number past) 0 ≡ request_of node number past
request_is node number [] = refl
request_is node number (Issued other n access ∷ past) =
    or_if (λ i. i.request) ((other == node) && (n == number)) _ (issue_at node number past) (request_of node number past) (request_is node number past)
request_is node number (Delivered other n cell value ∷ past) = request_is node number past
request_is node number (Waited other counter ∷ past) = request_is node number past
request_is node number (Arrived other stores ∷ past) = request_is node number past
request_is node number (Passed other ∷ past) = request_is node number past
request_is node number (Finished other end ∷ past) = request_is node number past

event_with_is : (o : Option Issue) (e : CellEffectOf) →
    event_with o e ≡ event_as (option_map_or (λ i. is_done_at_once i.access) o false) (option_map_or (λ i. i.request) o 0) e
event_with_is None e = refl
event_with_is (Some i) e = refl

at_once_is : (o : Option Issue) → option_map_or (λ i. is_done_at_once i.access) o false ≡ option_map_or is_done_at_once (option_map (λ i. i.access) o) false
at_once_is None = refl
at_once_is (Some i) = refl

pub event_is : (issues : Issues) (past : List Entry) → AreIssuesOf issues past → (e : CellEffectOf) → event_in issues e ≡ event_of past e
event_is issues past are e =
    ap (λ o. event_with o e) (are.issues e.node e.number) ∙ event_with_is (issue_at e.node e.number past) e
    ∙ ap₂ (λ b k. event_as b k e)
    (at_once_is (issue_at e.node e.number past) ∙ ap (λ o. option_map_or is_done_at_once o false) (access_is e.node e.number past))
    (request_is e.node e.number past)

pub entry_more : (start : Place → Value) (issues : Issues) (past : List Entry) → AreIssuesOf issues past → (entry : Entry) →
    with_entry start issues entry (effects start past) ≡ effects start (entry ∷ past)
entry_more start issues past are (Issued node number access) = refl
entry_more start issues past are (Delivered node number cell value) =
    ap (λ o. and_effect (at_delivery start o node number cell (effects start past)) (effects start past))
    (ap (option_map (λ i. i.access)) (are.issues node number) ∙ access_is node number past)
entry_more start issues past are (Waited node counter) = refl
entry_more start issues past are (Arrived node stores) = refl
entry_more start issues past are (Passed node) = refl
entry_more start issues past are (Finished node end) = refl

-- ---- along a journal

past_next : (journal : List Entry) (i : ℕ) (d : Entry) → i < length journal →
    reverse (take (i + 1) journal) ≡ get_or journal i d ∷ reverse (take i journal)
past_next journal i d within =
    ap reverse (take_more journal i d within) ∙ reverse-append (take i journal) (get_or journal i d ∷ [])

pub issues_next : (old new : Issues) (journal : List Entry) (i : ℕ) (d : Entry) → i < length journal →
    ((past : List Entry) → AreIssuesOf old past → AreIssuesOf new (get_or journal i d ∷ past)) →
    AreIssuesOf old (reverse (take i journal)) → AreIssuesOf new (reverse (take (i + 1) journal))
issues_next old new journal i d within more are =
    subst (AreIssuesOf new) (sym (past_next journal i d within)) (more (reverse (take i journal)) are)

pub effects_next : (start : Place → Value) (kept : Issues) (journal : List Entry) (i : ℕ) (d : Entry) (before after : List CellEffectOf) →
    i < length journal → after ≡ with_entry start kept (get_or journal i d) before →
    AreIssuesOf kept (reverse (take i journal)) → before ≡ effects start (reverse (take i journal)) →
    after ≡ effects start (reverse (take (i + 1) journal))
effects_next start kept journal i d before after within is are so_far =
    is ∙ ap (with_entry start kept (get_or journal i d)) so_far
    ∙ entry_more start kept (reverse (take i journal)) are (get_or journal i d)
    ∙ ap (effects start) (sym (past_next journal i d within))

-- ---- all of them

map_reverse : {A B : Type 0} (f : A → B) (xs : List A) → map f (reverse xs) ≡ reverse (map f xs)
map_reverse f [] = refl
map_reverse f (x ∷ xs) =
    ap (map f) (reverse-append (x ∷ []) xs) ∙ map-append f (reverse xs) (x ∷ [])
    ∙ ap (λ r. r ++ f x ∷ []) (map_reverse f xs) ∙ sym (reverse-append (f x ∷ []) (map f xs))

shown_each : (issues : Issues) (past : List Entry) → AreIssuesOf issues past → (all : List CellEffect) →
    map (λ e. event_in issues (effect_of e)) all ≡ map (event_of past) (map effect_of all)
shown_each issues past are [] = refl
shown_each issues past are (e ∷ all) = ap₂ (λ x xs. x ∷ xs) (event_is issues past are (effect_of e)) (shown_each issues past are all)

pub shown_all : (issues : Issues) (past : List Entry) → AreIssuesOf issues past → (start : Place → Value) (all : List CellEffect) →
    effects start past ≡ newest_first all → map (λ e. event_in issues (effect_of e)) all ≡ all_effects start past
shown_all issues past are start all is =
    shown_each issues past are all ∙ sym (reverse-reverse (map (event_of past) (map effect_of all)))
    ∙ ap reverse (sym (map_reverse (event_of past) (map effect_of all)))
    ∙ ap (λ es. reverse (map (event_of past) es)) (sym is)

-- at the end of the journal
pub shown_whole : (kept : Issues) (journal : List Entry) (i : ℕ) → length journal ≤ i → AreIssuesOf kept (reverse (take i journal)) →
    (start : Place → Value) (occurred : List CellEffectOf) (all : List CellEffect) →
    occurred ≡ effects start (reverse (take i journal)) → occurred ≡ newest_first all →
    map (λ e. event_in kept (effect_of e)) all ≡ all_effects start (reverse journal)
shown_whole kept journal i over are start occurred all so_far seen =
    shown_all kept (reverse (take i journal)) are start all (sym so_far ∙ seen)
    ∙ ap (λ xs. all_effects start (reverse xs)) (take_all i journal over)
