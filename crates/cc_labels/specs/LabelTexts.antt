-- What is told for the free positions of a context, which is no identifier where it tells a place.
use Rattle.std.specs.Prelude.{ℕ, List, ◌++◌, map, codes}
use Rattle.std.specs.Option.{unwrap_or}
use Rattle.cc_base.specs.Texts.{place_text}
use Rattle.cc_labels.specs.declared.labels.Label.{Label}
use Rattle.cc_labels.specs.declared.labels.Label.TheVariants.{Known, Local}
use Rattle.cc_labels.specs.declared.labels.Labels.{Labels}

-- A name, or that of a local variable with its place. One that the text does not name has none.
abbrev pub label_of : Label → List ℕ
label_of (Known name) = name
label_of (Local name at) = unwrap_or name (codes "_") ++ codes "@" ++ place_text at

-- the labels of the first positions
abbrev pub labels_in : Labels → List (List ℕ)
labels_in labels = map label_of labels.labels.items
