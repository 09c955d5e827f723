-- A node has issued no more accesses than there are entries.
use Rattle.std.proofs.Common.{◌≡◌, ℕ, ◌+◌, ◌<◌, ◌≤◌, ◌^◌, List, [], ◌∷◌, length, Bool, true, false, ◌==◌, ◌∙◌, arith}
use Rattle.std.proofs.lemmas.List.{get_or_default}
use Rattle.std.specs.Prelude.{if◌then◌else◌, slice_index_or}
use Rattle.sc_isa.specs.declared.journal.Entry.{Entry}
use Rattle.sc_isa.specs.declared.journal.Entry.TheVariants.{Issued, Delivered, Waited, Arrived, Passed, Finished}
use Rattle.fabric.specs.Effects.{issues}
use Rattle.fabric.specs.Log.{AreIssues}

more_or_same : (b : Bool) (n k : ℕ) → n ≤ k → (if b then n + 1 else n) ≤ k + 1
more_or_same true n k h = omega arith
more_or_same false n k h = omega arith

later : (n k : ℕ) → n ≤ k → n ≤ k + 1
later n k h = omega arith

pub issues_few : (node : ℕ) (past : List Entry) → issues node past ≤ length past
issues_few node [] = omega arith
issues_few node (Issued q k a ∷ past) = let h = more_or_same (q == node) (issues node past) (length past) (issues_few node past) in omega (arith, h)
issues_few node (Delivered q k c v ∷ past) = let h = issues_few node past in omega (arith, h)
issues_few node (Waited q c ∷ past) = let h = issues_few node past in omega (arith, h)
issues_few node (Arrived q s ∷ past) = let h = issues_few node past in omega (arith, h)
issues_few node (Passed q ∷ past) = let h = issues_few node past in omega (arith, h)
issues_few node (Finished q e ∷ past) = let h = issues_few node past in omega (arith, h)

pub next_few : (counts : List ℕ) (past : List Entry) (node n room : ℕ) → AreIssues counts past → node < length counts → n ≡ slice_index_or counts node n
    → length past + room + 1 < 2 ^ 64 → n + 1 < 2 ^ 64
next_few counts past node n room are within is short =
    let own : n ≡ issues node past = is ∙ get_or_default counts node n 0 within ∙ are node within in
    let few : issues node past ≤ length past = issues_few node past in
    omega (arith, own, few, short)
