-- What a past shows to a node, and how many of its asks have an entry. A past is a list of entries, the newest first.
use Rattle.std.proofs.Common.{◌≡◌, ℕ, ◌+◌, List, [], ◌∷◌, ◌++◌, length, Bool, true, false, ◌==◌, refl, ap, ◌∙◌, arith, length-append}
use Rattle.std.specs.Prelude.{if◌then◌else◌}
use Rattle.sc_base.specs.declared.value.End.TheVariants as kind
use Rattle.sc_layout.specs.Layout.{Arrangement}
use Rattle.sc_layout.specs.Start.{start}
use Rattle.sc_isa.specs.declared.code.Code.{Code}
use Rattle.sc_isa.specs.declared.journal.Entry.{Entry}
use Rattle.sc_isa.specs.declared.journal.Entry.TheVariants.{Issued, Delivered, Waited, Arrived, Passed, Finished}
use Rattle.sc_isa.specs.Run.{Ask, Issue, Wait, Arrive, Pass, Landed, Passed as PassedIt, Broken}
use Rattle.fabric.specs.Effects.{landed}
use Rattle.fabric.specs.Barriers.{arrivals, passes}
use Rattle.fabric.specs.Asked.{answers, asked}
use Rattle.run_moves.proofs.Orderly.{arrives, passes_by, total}
use Rattle.run_moves.specs.OfCode.{machine_of}
use Rattle.code_sim.specs.Asking.{asks_of}

-- it does not depend on a number of instructions
pub same_shown : (code : Code) (layout : Arrangement) (budget many node : ℕ) (past : List Entry)
    → answers (machine_of layout code budget many) node past ≡ answers (machine_of layout code budget 0) node past
same_shown code layout budget many node [] = refl
same_shown code layout budget many node (Issued q n a ∷ past) = same_shown code layout budget many node past
same_shown code layout budget many node (Delivered q n c v ∷ past) = same_shown code layout budget many node past
same_shown code layout budget many node (Arrived q s ∷ past) = same_shown code layout budget many node past
same_shown code layout budget many node (Waited q c ∷ past) =
    ap (λ l. if q == node then l ++ Landed (landed (start layout) node c past) ∷ [] else l) (same_shown code layout budget many node past)
same_shown code layout budget many node (Passed q ∷ past) =
    ap (λ l. if q == node then l ++ PassedIt ∷ [] else l) (same_shown code layout budget many node past)
same_shown code layout budget many node (Finished q kind.Waiting ∷ past) =
    ap (λ l. if q == node then l ++ Broken ∷ [] else l) (same_shown code layout budget many node past)
same_shown code layout budget many node (Finished q kind.Ended ∷ past) = same_shown code layout budget many node past
same_shown code layout budget many node (Finished q kind.Cut ∷ past) = same_shown code layout budget many node past
same_shown code layout budget many node (Finished q (kind.Fault k l) ∷ past) = same_shown code layout budget many node past

-- ---- counts over asks

abbrev pub sum_of : (Ask → ℕ) → List Ask → ℕ
sum_of f xs = total f (length xs) xs

sum_last : (f : Ask → ℕ) (xs : List Ask) (y : Ask) → sum_of f (xs ++ y ∷ []) ≡ sum_of f xs + f y
sum_last f [] y = omega arith
sum_last f (x ∷ xs) y = let i = sum_last f xs y in omega (arith, i)

long_last : (b : Bool) (xs : List Ask) (y : Ask) (n : ℕ) → length xs ≡ n → length (if b then xs ++ y ∷ [] else xs) ≡ (if b then n + 1 else n)
long_last true xs y n h = length-append xs (y ∷ []) ∙ ap (λ k. k + 1) h
long_last false xs y n h = h

pub asks_length : (node : ℕ) (past : List Entry) → length (asks_of node past) ≡ asked node past
asks_length node [] = refl
asks_length node (Issued q n a ∷ past) = long_last (q == node) (asks_of node past) (Issue a) (asked node past) (asks_length node past)
asks_length node (Delivered q n c v ∷ past) = asks_length node past
asks_length node (Arrived q s ∷ past) = long_last (q == node) (asks_of node past) (Arrive s) (asked node past) (asks_length node past)
asks_length node (Waited q c ∷ past) = long_last (q == node) (asks_of node past) (Wait c) (asked node past) (asks_length node past)
asks_length node (Passed q ∷ past) = long_last (q == node) (asks_of node past) Pass (asked node past) (asks_length node past)
asks_length node (Finished q e ∷ past) = asks_length node past

counts : (f : Ask → ℕ) (b : Bool) (xs : List Ask) (y : Ask) (n m : ℕ) → n ≡ sum_of f xs → (b ≡ true → m ≡ n + f y) → (b ≡ false → m ≡ n)
    → m ≡ sum_of f (if b then xs ++ y ∷ [] else xs)
counts f true xs y n m h t e = let i = sum_last f xs y in let j = t refl in omega (arith, i, j, h)
counts f false xs y n m h t e = e refl ∙ h

pub arrivals_asked : (node : ℕ) (past : List Entry) → arrivals node past ≡ sum_of arrives (asks_of node past)
arrivals_asked node [] = refl
arrivals_asked node (Issued q n a ∷ past) = counts arrives (q == node) (asks_of node past) (Issue a) (arrivals node past) (arrivals node past) (arrivals_asked node past) (λ e. omega arith) (λ e. refl)
arrivals_asked node (Delivered q n c v ∷ past) = arrivals_asked node past
arrivals_asked node (Arrived q s ∷ past) =
    counts arrives (q == node) (asks_of node past) (Arrive s) (arrivals node past) (arrivals node (Arrived q s ∷ past)) (arrivals_asked node past) (λ e. rw e refl) (λ e. rw e refl)
arrivals_asked node (Waited q c ∷ past) = counts arrives (q == node) (asks_of node past) (Wait c) (arrivals node past) (arrivals node past) (arrivals_asked node past) (λ e. omega arith) (λ e. refl)
arrivals_asked node (Passed q ∷ past) = counts arrives (q == node) (asks_of node past) Pass (arrivals node past) (arrivals node past) (arrivals_asked node past) (λ e. omega arith) (λ e. refl)
arrivals_asked node (Finished q e ∷ past) = arrivals_asked node past

pub passes_asked : (node : ℕ) (past : List Entry) → passes node past ≡ sum_of passes_by (asks_of node past)
passes_asked node [] = refl
passes_asked node (Issued q n a ∷ past) = counts passes_by (q == node) (asks_of node past) (Issue a) (passes node past) (passes node past) (passes_asked node past) (λ e. omega arith) (λ e. refl)
passes_asked node (Delivered q n c v ∷ past) = passes_asked node past
passes_asked node (Arrived q s ∷ past) = counts passes_by (q == node) (asks_of node past) (Arrive s) (passes node past) (passes node past) (passes_asked node past) (λ e. omega arith) (λ e. refl)
passes_asked node (Waited q c ∷ past) = counts passes_by (q == node) (asks_of node past) (Wait c) (passes node past) (passes node past) (passes_asked node past) (λ e. omega arith) (λ e. refl)
passes_asked node (Passed q ∷ past) =
    counts passes_by (q == node) (asks_of node past) Pass (passes node past) (passes node (Passed q ∷ past)) (passes_asked node past) (λ e. rw e refl) (λ e. rw e refl)
passes_asked node (Finished q e ∷ past) = passes_asked node past
