use Rattle.std.proofs.Common.{◌≡◌, subst, sym, arith, ℕ}
use Rattle.sc_grammar.proofs.Reading.{syntax, deep, refused, Fails}
use Rattle.sc_grammar.proofs.ReadingItems.{items}
use Rattle.sc_grammar.specs.declared.error.Refused.{Refused}
use Rattle.sc_grammar.specs.declared.error.Refused.TheVariants as kind
use Rattle.sc_parser.specs.declared.whole.TheConstants.{DEPTH}
use Rattle.sc_grammar.specs.Sentence.{IsSyntax, IsTooDeep}
use Rattle.sc_grammar.proofs.Parsed.{read-sentence, read-shallow, read-accepts, fails-memory, fails-syntax, fails-deep, syntax-near, deep-near}
use Rattle.sc_parser.proofs.whole.parse.Goals as goal

pub returns-in-Ok-clause-tree : goal.returns-in-Ok-clause-tree
returns-in-Ok-clause-tree c = read-sentence DEPTH c.args.tokens.now _ c.in-Ok.ensures

pub returns-in-Ok-clause-shallow : goal.returns-in-Ok-clause-shallow
returns-in-Ok-clause-shallow c = read-shallow DEPTH c.args.tokens.now _ c.in-Ok.ensures

pub returns-in-Ok-clause-accepted : goal.returns-in-Ok-clause-accepted
returns-in-Ok-clause-accepted c = read-accepts DEPTH c.args.tokens.now _ c.in-Ok.ensures

pub returns-in-Err-Syntax-clause-accepted : goal.returns-in-Err-Syntax-clause-accepted
returns-in-Err-Syntax-clause-accepted c us t w z s =
    let f : items DEPTH c.args.tokens.now 0 ≡ refused (syntax c.in-Err-Syntax.at) = subst (λ (x : Refused). Fails x (items DEPTH c.args.tokens.now 0)) c.in-Err-Syntax.field-0-is c.in-Err-Syntax.ensures in
    let m = fails-memory DEPTH c.args.tokens.now (kind.Syntax c.in-Err-Syntax.at) f us t w z s in cc

pub returns-in-Err-Syntax-clause-refused : goal.returns-in-Err-Syntax-clause-refused
returns-in-Err-Syntax-clause-refused c =
    let f : items DEPTH c.args.tokens.now 0 ≡ refused (syntax c.in-Err-Syntax.at) = subst (λ (x : Refused). Fails x (items DEPTH c.args.tokens.now 0)) c.in-Err-Syntax.field-0-is c.in-Err-Syntax.ensures in
    subst (λ (n : ℕ). IsSyntax DEPTH c.args.tokens.now n) (sym c.counted.ensures) (fails-syntax DEPTH c.args.tokens.now c.in-Err-Syntax.at f)

pub returns-in-Err-Deep-clause-accepted : goal.returns-in-Err-Deep-clause-accepted
returns-in-Err-Deep-clause-accepted c us t w z s =
    let f : items DEPTH c.args.tokens.now 0 ≡ refused (deep c.in-Err-Deep.at) = subst (λ (x : Refused). Fails x (items DEPTH c.args.tokens.now 0)) c.in-Err-Deep.field-0-is c.in-Err-Deep.ensures in
    let m = fails-memory DEPTH c.args.tokens.now (kind.Deep c.in-Err-Deep.at) f us t w z s in cc

pub returns-in-Err-Deep-clause-refused : goal.returns-in-Err-Deep-clause-refused
returns-in-Err-Deep-clause-refused c =
    let f : items DEPTH c.args.tokens.now 0 ≡ refused (deep c.in-Err-Deep.at) = subst (λ (x : Refused). Fails x (items DEPTH c.args.tokens.now 0)) c.in-Err-Deep.field-0-is c.in-Err-Deep.ensures in
    subst (λ (n : ℕ). IsTooDeep DEPTH c.args.tokens.now n) (sym c.counted-in-Err-Deep.ensures) (fails-deep DEPTH c.args.tokens.now c.in-Err-Deep.at f)

pub counted-requires : goal.counted-requires
counted-requires c =
    let f : items DEPTH c.args.tokens.now 0 ≡ refused (syntax c.in-Err-Syntax.at) = subst (λ (x : Refused). Fails x (items DEPTH c.args.tokens.now 0)) c.in-Err-Syntax.field-0-is c.in-Err-Syntax.ensures in
    let near = syntax-near DEPTH c.args.tokens.now c.in-Err-Syntax.at f in let few = c.requires in omega arith

pub counted-requires-in-Err-Deep : goal.counted-requires-in-Err-Deep
counted-requires-in-Err-Deep c =
    let f : items DEPTH c.args.tokens.now 0 ≡ refused (deep c.in-Err-Deep.at) = subst (λ (x : Refused). Fails x (items DEPTH c.args.tokens.now 0)) c.in-Err-Deep.field-0-is c.in-Err-Deep.ensures in
    let near = deep-near DEPTH c.args.tokens.now c.in-Err-Deep.at f in let few = c.requires in omega arith
