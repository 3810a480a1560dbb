-- What the program holds of a reason, as the reason that it is.
use Rattle.std.specs.Prelude.{option_map}
use Rattle.cc_lex.specs.Lexemes.{lexeme_of}
use Rattle.cc_text_reasons.specs.TextReasons as plain
use Rattle.cc_text_reasoning.specs.declared.reason.Break.{Break}
use Rattle.cc_text_reasoning.specs.declared.reason.Break.TheVariants as breaks
use Rattle.cc_text_reasoning.specs.declared.reason.TextReason.{TextReason}
use Rattle.cc_text_reasoning.specs.declared.reason.TextReason.TheVariants as reasons

abbrev pub break_of : Break → plain.Break
break_of (breaks.AtCharacter character) = plain.AtCharacter character
break_of breaks.AtEnd = plain.AtEnd
break_of breaks.TooGreat = plain.TooGreat

abbrev pub reason_of : TextReason → plain.TextReason
reason_of (reasons.NotUtf8 byte) = plain.NotUtf8 byte
reason_of (reasons.Broken break) = plain.Broken (break_of break)
reason_of (reasons.Unwanted found wanted) = plain.Unwanted (option_map lexeme_of found) wanted.items
reason_of reasons.TooHigh = plain.TooHigh
