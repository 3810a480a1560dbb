-- The laws of filled terms.
use Rattle.std.specs.Prelude.{◌≡◌, ◌↔◌, true}
use Rattle.cc_core.specs.Captured.{is_value}
use Rattle.cc_core.specs.Occurrences.{HasNoHoleInTerm}
use Rattle.cc_core.specs.Stores.{is_function}
use Rattle.cc_core.specs.Terms.{Term}
use Rattle.cc_core.specs.WellFormed.{Kind, is_well_formed_term}
use Rattle.cc_filled.specs.FilledTerms.{IsFilledAs}
use Rattle.cc_filled.specs.FilledTests.{is_filled_as}

-- the test says exactly that
abbrev pub TheTestDecides : Type 0
TheTestDecides = (term filled : Term) → (is_filled_as term filled ≡ true) ↔ IsFilledAs term filled

-- what is filled is a value where the term is one, and a function where it is one
abbrev pub ValuesStayValues : Type 0
ValuesStayValues =
    (term filled : Term) → IsFilledAs term filled
    → (is_value filled ≡ is_value term) × (is_function filled ≡ is_function term)
