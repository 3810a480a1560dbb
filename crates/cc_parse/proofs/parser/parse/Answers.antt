-- The computed reading is one that the tokens have.
use Rattle.std.proofs.Common.{◌≡◌, Some, rules}
use Rattle.cc_base.specs.declared.code.Code.TheVariants.{E03, E04}
use Rattle.cc_lex.specs.Lexemes.{placed_all}
use Rattle.cc_grammar.specs.Reads.{TreeOf}
use Rattle.cc_grammar.specs.Reading.{reading_of}
use Rattle.cc_grammar.proofs.Readings.{tokens_read_as_they_are}
use Rattle.cc_parse.specs.Trees.{module_syntax}
use Rattle.cc_parse.specs.Answers.{refusal_of}
use Rattle.cc_parse.proofs.parser.parse.Goals as goal

pub returns-in-Ok-clause-meaning : goal.returns-in-Ok-clause-meaning
unfolding reading_of
returns-in-Ok-clause-meaning c =
    let tokens = placed_all c.args.tokens.now.tokens.items in
    let end = c.args.tokens.now.end in
    let answer : reading_of tokens end ≡ TreeOf (module_syntax c.in-Ok.module) = search rules in
    (reading_of tokens end, tokens_read_as_they_are tokens end, answer)

pub returns-in-Err-Wrong-clause-meaning : goal.returns-in-Err-Wrong-clause-meaning
unfolding reading_of
returns-in-Err-Wrong-clause-meaning c =
    let tokens = placed_all c.args.tokens.now.tokens.items in
    let end = c.args.tokens.now.end in
    let answer : refusal_of (reading_of tokens end) ≡ Some (record { code = E03; place = c.place_of.result }) = search rules in
    (reading_of tokens end, tokens_read_as_they_are tokens end, answer)

pub returns-in-Err-High-clause-meaning : goal.returns-in-Err-High-clause-meaning
unfolding reading_of
returns-in-Err-High-clause-meaning c =
    let tokens = placed_all c.args.tokens.now.tokens.items in
    let end = c.args.tokens.now.end in
    let answer : refusal_of (reading_of tokens end) ≡ Some (record { code = E04; place = c.place_of-in-Err-High.result }) = search rules in
    (reading_of tokens end, tokens_read_as_they_are tokens end, answer)

pub returns-in-Err-NoMemory-clause-meaning : goal.returns-in-Err-NoMemory-clause-meaning
unfolding reading_of
returns-in-Err-NoMemory-clause-meaning c =
    let tokens = placed_all c.args.tokens.now.tokens.items in
    let end = c.args.tokens.now.end in
    (reading_of tokens end, tokens_read_as_they_are tokens end, tt)
