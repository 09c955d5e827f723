-- What is read of a source, from what lexing and parsing say.
use Rattle.std.proofs.Common.{ℕ, ◌+◌, ◌≡◌, sym, subst, List, length}
use Rattle.sc_tree.specs.PlainTree.{PlainTree}
use Rattle.sc_tree.specs.declared.token.Token.{Token}
use Rattle.sc_tree.specs.declared.lexed.Lexed.{Lexed}
use Rattle.sc_lexer.specs.Text.{IsLexed}
use Rattle.sc_grammar.specs.Sentence.{Sentence, Shallow}
use Rattle.front_end.specs.Accepted.{IsRead}

read_of : (source : List ℕ) (lexed : Lexed) (tree : PlainTree) → IsLexed source lexed → Sentence lexed.tokens tree → Shallow 64 lexed.tokens (length lexed.tokens + 1) → IsRead source lexed tree
read_of source lexed tree tokens sentence shallow = record { tokens = tokens; sentence = sentence; shallow = shallow }

pub is_read : (source : List ℕ) (lexed : Lexed) (tree : PlainTree) (tokens : List Token) → tokens ≡ lexed.tokens → IsLexed source lexed → Sentence tokens tree → Shallow 64 tokens (length tokens + 1) → IsRead source lexed tree
is_read source lexed tree tokens e is =
    subst (λ (ts : List Token). Sentence ts tree → Shallow 64 ts (length ts + 1) → IsRead source lexed tree) (sym e) (read_of source lexed tree is)
