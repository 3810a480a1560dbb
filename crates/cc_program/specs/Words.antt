-- How the program ends where the system gives it no words.
use Rattle.std.specs.declared.io.ErrorKind.{ErrorKind}
use Rattle.cc_arguments.specs.GivenWords.{ending_without_words}
use Rattle.cc_program.specs.declared.status.Status.{Status}
use Rattle.cc_program.specs.declared.status.Status.TheVariants.{NoMemory, BadWords}

-- want of memory is told as such; every other error says that the words are no texts
abbrev pub status_without_words : ErrorKind → Status
status_without_words kind = ending_without_words NoMemory BadWords kind
