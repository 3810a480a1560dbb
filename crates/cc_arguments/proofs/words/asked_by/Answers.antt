use Rattle.std.proofs.Common.{rules}
use Rattle.std.specs.String.{string_bytes}
use Rattle.cc_arguments.proofs.WordLaws.{one_word, two_words}
use Rattle.cc_arguments.proofs.words.asked_by.Goals as goal

pub returns-in-1 : goal.returns-in-1
returns-in-1 c =
    one_word string_bytes c.args.words.now c.index-words-0.result c.as_bytes.result.now c.asked_by_one.result (search rules)
    c.index-words-0.is c.as_bytes.ensures.value c.asked_by_one.ensures

pub returns-in-2 : goal.returns-in-2
returns-in-2 c =
    two_words string_bytes c.args.words.now c.index-words-0-in-2.result c.index-words-1.result c.as_bytes-in-2.result.now
    c.as_bytes-in-2-2.result.now c.asked_by_two.result (search rules) c.index-words-0-in-2.is c.index-words-1.is
    c.as_bytes-in-2.ensures.value c.as_bytes-in-2-2.ensures.value c.asked_by_two.ensures
