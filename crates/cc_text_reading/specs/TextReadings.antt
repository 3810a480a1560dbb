-- What the program reads a text as.
use Rattle.cc_verdicts.specs.Readings.{TextReading, IsTree, IsNoModule}
use Rattle.cc_text_reading.specs.declared.reading.TextReading.{TextReading as DeclaredReading}
use Rattle.cc_text_reading.specs.declared.reading.TextReading.TheVariants as readings
use Rattle.cc_parse.specs.Trees.{module_syntax}

-- what the text is
abbrev pub text_reading_of : DeclaredReading → TextReading
text_reading_of (readings.Tree tree) = IsTree (module_syntax tree)
text_reading_of (readings.NoModule diag) = IsNoModule diag.code diag.place
