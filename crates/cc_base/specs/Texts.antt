-- How codes and places are written.
use Rattle.std.specs.Prelude.{ℕ, List, ◌++◌, codes}
use Rattle.std.specs.Fmt.{decimal}
use Rattle.cc_base.specs.declared.place.Place.{Place}
use Rattle.cc_base.specs.declared.code.Code.{Code}
use Rattle.cc_base.specs.declared.code.Code.TheVariants.{E01, E02, E03, E04, E05, E06, E07, E08, E09, E10, E11, E12}
use Rattle.cc_base.specs.declared.code.Code.TheVariants.{E13, E14, E15, E16, E17, E18, E19, E30, E31, E32, E33}
use Rattle.cc_base.specs.declared.code.Code.TheVariants.{E34, E35, E36, E37}

-- the line and the column in decimal, with a colon between them
abbrev pub place_text : Place → List ℕ
place_text p = decimal p.line ++ codes ":" ++ decimal p.col

abbrev pub code_text : Code → List ℕ
code_text E01 = codes "E01"
code_text E02 = codes "E02"
code_text E03 = codes "E03"
code_text E04 = codes "E04"
code_text E05 = codes "E05"
code_text E06 = codes "E06"
code_text E07 = codes "E07"
code_text E08 = codes "E08"
code_text E09 = codes "E09"
code_text E10 = codes "E10"
code_text E11 = codes "E11"
code_text E12 = codes "E12"
code_text E13 = codes "E13"
code_text E14 = codes "E14"
code_text E15 = codes "E15"
code_text E16 = codes "E16"
code_text E17 = codes "E17"
code_text E18 = codes "E18"
code_text E19 = codes "E19"
code_text E30 = codes "E30"
code_text E31 = codes "E31"
code_text E32 = codes "E32"
code_text E33 = codes "E33"
code_text E34 = codes "E34"
code_text E35 = codes "E35"
code_text E36 = codes "E36"
code_text E37 = codes "E37"
