-- A number of instructions that is enough for each node of sound code.
use Rattle.std.proofs.Common.{◌≡◌, ℕ, zero, suc, ◌+◌, ◌<◌, ◌≤◌, List, sym, ◌∙◌, subst, ⊎_elim, arith}
use Rattle.std.proofs.lemmas.Bool.{cases_lt}
use Rattle.sc_layout.specs.Layout.{Arrangement}
use Rattle.sc_isa.specs.declared.code.Code.{Code}
use Rattle.sc_isa.specs.Sound.{IsSound}
use Rattle.sc_isa.specs.Run.{Answer, code_run}
use Rattle.sc_isa.proofs.Settling.{settles}
use Rattle.code_sim.specs.Enough.{Suffices}

pub more_suffices : (code : Code) (layout : Arrangement) (budget many more : ℕ) → Suffices code layout budget many → many ≤ more → Suffices code layout budget more
more_suffices code layout budget many more s le = record {
  same = λ node most answers within up. s.same node most answers within (omega arith) ∙ sym (s.same node more answers within le);
}

-- enough for the first nodes
record Upto (code : Code) (layout : Arrangement) (budget n : ℕ) : Type 0 where
  pub many : ℕ
  pub same : (node more : ℕ) (answers : List Answer) → node < n → many ≤ more → code_run code layout node budget more answers ≡ code_run code layout node budget many answers

upto : (code : Code) (layout : Arrangement) → IsSound code layout → (budget n : ℕ) → n ≤ layout.nodes → Upto code layout budget n
upto code layout sound budget zero le = record { many = 0; same = λ node more answers lt up. absurd (omega arith) }
upto code layout sound budget (suc n) le =
    let below = upto code layout sound budget n (omega arith) in
    let here = settles code layout sound n budget (omega arith) in
    let many : ℕ = below.many + here.many in
    record {
      many = many;
      same = λ node more answers lt up.
          ⊎_elim (λ l. below.same node more answers l (omega arith) ∙ sym (below.same node many answers l (omega arith)))
          (λ ge. let e : n ≡ node = omega arith in
          subst (λ k. code_run code layout k budget more answers ≡ code_run code layout k budget many answers) e
          (here.same more answers (omega arith) ∙ sym (here.same many answers (omega arith))))
          (cases_lt node n);
    }

pub enough : (code : Code) (layout : Arrangement) → IsSound code layout → (budget : ℕ) → (many : ℕ) × Suffices code layout budget many
enough code layout sound budget =
    let all = upto code layout sound budget layout.nodes (omega arith) in
    (all.many, record { same = all.same })
