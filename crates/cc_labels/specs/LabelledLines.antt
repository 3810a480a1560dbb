-- Lines that tell something: words, and maybe a type behind them.
use Rattle.std.specs.Prelude.{ℕ, List, [], ◌∷◌, ◌++◌, codes, Option, Some, None}
use Rattle.std.specs.List.{flat_map}
use Rattle.std.specs.String.{string_bytes}
use Rattle.cc_core.specs.declared.types.Ty.{Ty}
use Rattle.cc_core.specs.TermViews.{type_of}
use Rattle.cc_print.specs.TypeTexts.{type_text}
use Rattle.cc_labels.specs.declared.labels.Labels.{Labels}
use Rattle.cc_labels.specs.declared.lines.Line.{Line}
use Rattle.cc_labels.specs.LabelTexts.{labels_in}

-- the text of a type, if there is one
abbrev pub told : Labels → Option Ty → List ℕ
told labels (Some type) = type_text (labels_in labels) labels.locals (type_of type)
told labels None = []

-- the line, without what stands around it in a reply
abbrev pub line_of : Line → List ℕ
line_of line = string_bytes line.words ++ told line.labels.value line.ty

-- as it stands in a reply: two spaces before it, and a line feed behind it
abbrev pub indented : List ℕ → List ℕ
indented line = codes "  " ++ line ++ 10 ∷ []

abbrev pub indented_lines : List (List ℕ) → List ℕ
indented_lines lines = flat_map indented lines
