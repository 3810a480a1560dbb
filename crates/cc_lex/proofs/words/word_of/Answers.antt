use Rattle.std.proofs.Common.{◌∙◌, refl, None}
use Rattle.cc_lex.proofs.WordTexts.{word_of-chars, word_of-length}
use Rattle.cc_lex.proofs.words.word_of.Goals as goal

pub returns-in-1 : goal.returns-in-1
returns-in-1 c = word_of-length 1 c.args.text.now None c.utf8.text c.in-1.is refl

pub returns-in-2 : goal.returns-in-2
returns-in-2 c = word_of-length 2 c.args.text.now c.find_word.result c.utf8.text c.in-2.is c.find_word.ensures

pub returns-in-3 : goal.returns-in-3
returns-in-3 c = word_of-length 3 c.args.text.now c.find_word-in-3.result c.utf8.text c.in-3.is c.find_word-in-3.ensures

pub returns-in-4 : goal.returns-in-4
returns-in-4 c = word_of-length 4 c.args.text.now c.find_word-in-4.result c.utf8.text c.in-4.is c.find_word-in-4.ensures

pub returns-in-5 : goal.returns-in-5
returns-in-5 c = word_of-length 5 c.args.text.now c.find_word-in-5.result c.utf8.text c.in-5.is c.find_word-in-5.ensures

pub returns-in-6 : goal.returns-in-6
returns-in-6 c = word_of-length 6 c.args.text.now c.find_word-in-6.result c.utf8.text c.in-6.is c.find_word-in-6.ensures

pub returns-in-7 : goal.returns-in-7
returns-in-7 c = word_of-length 7 c.args.text.now c.find_word-in-7.result c.utf8.text c.in-7.is c.find_word-in-7.ensures

pub returns-in-8 : goal.returns-in-8
returns-in-8 c = word_of-length 8 c.args.text.now c.find_word-in-8.result c.utf8.text c.in-8.is c.find_word-in-8.ensures

pub returns-in_default : goal.returns-in_default
returns-in_default c = c.find_word-in_default.ensures ∙ word_of-chars c.args.text.now c.utf8.text
