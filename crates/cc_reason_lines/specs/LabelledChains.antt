-- What is told of elements and of their chains with labels. It serves the code alone.
use Rattle.std.specs.Prelude.{ℕ, List, [], ◌∷◌, ◌++◌, codes}
use Rattle.std.specs.List.{flat_map}
use Rattle.cc_capture.specs.declared.var.Elem.{Elem}
use Rattle.cc_print.specs.TypeTexts.{element_text}
use Rattle.cc_labels.specs.declared.labels.Labels.{Labels}
use Rattle.cc_labels.specs.LabelTexts.{labels_in}

-- the text of an element
abbrev pub labelled : Labels → Elem → List ℕ
labelled labels e = element_text (labels_in labels) labels.locals e

-- those of elements, each behind a space
abbrev pub labelled_all : Labels → List Elem → List ℕ
labelled_all labels elements = flat_map (λ e. codes " " ++ labelled labels e) elements

-- the line of a chain, if it goes on
abbrev pub labelled_chain : Labels → List Elem → List (List ℕ)
labelled_chain labels [] = []
labelled_chain labels (e ∷ []) = []
labelled_chain labels (e ∷ next ∷ behind) = (labelled labels e ++ codes ":" ++ labelled_all labels (next ∷ behind)) ∷ []

-- those of chains
abbrev pub labelled_chains : Labels → List (List Elem) → List (List ℕ)
labelled_chains labels chains = flat_map (labelled_chain labels) chains
