-- What an `if` is where no further `else` follows.
use Rattle.std.proofs.Common.{◌≡◌, ap, sym, ◌∙◌, ℕ, ◌-◌, ◌<◌, ◌≤◌, List, None, false, map}
use Rattle.sc_tree.specs.Plain.{Expression}
use Rattle.sc_tree.specs.PlainStmt.{Statement}
use Rattle.sc_tree.specs.declared.stmt.Arm.{Arm as CodeArm}
use Rattle.sc_tree.specs.declared.stmt.Stmt.TheVariants as stmt
use Rattle.sc_tree.specs.declared.token.Word.TheVariants as words
use Rattle.sc_tree.specs.ViewStmt.{plain_stmt, plain_arm}
use Rattle.sc_tree.proofs.ViewStmtLaws.{stmt-choose}
use Rattle.sc_grammar.proofs.Reading.{Parser, got, takes_word}
use Rattle.sc_grammar.proofs.ReadingStatements.{if_after, elses_by}
use Rattle.sc_grammar.proofs.ElsesLaws.{with_arms, if_all, elses_end, elses_stop}
use Rattle.sc_parser.specs.declared.reader.Reader.{Reader}
use Rattle.sc_parser.specs.Returned.{Moves}

module _ (value : Parser Expression) (inner : Parser Statement) (all : List CodeArm) (i end : ℕ) where
  abbrev pub Reads : Reader → Reader → Type 0
  Reads old here =
      if_after value inner old.tokens.now old.next ≡ if_all (with_arms (map plain_arm all) (elses_by value inner (end - i) old.tokens.now here.next))

  without_else : (n : ℕ) → if_all (got (record { arms = map plain_arm all; last = None }) n) ≡ got (plain_stmt (stmt.If all None)) n
  without_else n = ap (λ s. got s n) (sym (stmt-choose all))

  pub moves_at_end : {old here : Reader} → here.tokens ≡ old.tokens → Reads old here → end ≤ i → Moves (plain_stmt (stmt.If all None)) old here (if_after value inner)
  moves_at_end {old = old} {here = here} same reads h =
      record { reads = reads ∙ ap if_all (elses_end value inner (map plain_arm all) old.tokens.now i end here.next h) ∙ without_else here.next; stays = same }

  pub moves_at_stop : {old here new : Reader} → here.tokens ≡ old.tokens → Reads old here → i < end → Moves false here new (takes_word words.Else) → Moves (plain_stmt (stmt.If all None)) old new (if_after value inner)
  moves_at_stop {old = old} {here = here} {new = new} same reads h stop =
      let none : takes_word words.Else old.tokens.now here.next ≡ got false new.next = ap (λ t. takes_word words.Else t.now here.next) (sym same) ∙ stop.reads in
      record { reads = reads ∙ ap if_all (elses_stop value inner (map plain_arm all) old.tokens.now i end here.next new.next h none) ∙ without_else new.next; stays = stop.stays ∙ same }
