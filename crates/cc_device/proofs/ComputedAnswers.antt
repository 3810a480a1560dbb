-- What devices answer, by computation.
use Rattle.std.proofs.Common.{refl}
use Rattle.std.specs.Int.{int_wrap}
use Rattle.cc_device.specs.WorkedAnswers.{ConsolesTakeLines, FilesGiveTheirNumbers, FilesTakeNumbers, CountersCount, OtherKindsDoNotAnswer, OtherArgumentsHaveNoAnswer, DevicesAnswerByTheirNumbers}

pub consoles_take_lines : ConsolesTakeLines
consoles_take_lines = (refl, refl, refl)

pub files_give_their_numbers : FilesGiveTheirNumbers
files_give_their_numbers = (refl, refl, refl, refl)

pub files_take_numbers : FilesTakeNumbers
files_take_numbers = (refl, refl, refl)

pub counters_count : CountersCount
unfolding int_wrap
counters_count = (refl, refl, refl, refl)

pub other_kinds_do_not_answer : OtherKindsDoNotAnswer
other_kinds_do_not_answer = (refl, refl, refl, refl, refl, refl, refl, refl, refl, refl)

pub other_arguments_have_no_answer : OtherArgumentsHaveNoAnswer
other_arguments_have_no_answer = (refl, refl, refl, refl, refl, refl, refl, refl, refl, refl)

pub devices_answer_by_their_numbers : DevicesAnswerByTheirNumbers
unfolding int_wrap
devices_answer_by_their_numbers = (refl, refl, refl)
