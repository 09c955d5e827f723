use Rattle.std.proofs.Common.{◌≡◌, ℕ, ap, add-one}
use Rattle.rand_pcg.specs.Lcg.{Lcg}
use Rattle.rand_pcg.specs.Pcg.{pcg32}
use Rattle.code_sim.specs.Picks.{word_of}
use Rattle.code_sim.proofs.picks.SeedPicksPicks.pick.Goals as goal

pub returns-clause-rest : goal.returns-clause-rest
returns-clause-rest c k =
    let next : c.next_word.new.self ≡ (pcg32 c.args.self.now.generator).1 = ap (λ (p : ℕ × Lcg). p.1) c.next_word.ensures in
    rw add-one (ap (λ (g : Lcg). word_of g k) next)
