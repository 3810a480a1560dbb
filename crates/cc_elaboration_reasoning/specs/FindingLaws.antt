-- What the program finds is the first refusal.
use Rattle.std.specs.Prelude.{◌≡◌, List}
use Rattle.cc_grammar.specs.Syntax.{ModuleSyntax}
use Rattle.cc_mnf.specs.Scopes.{Name}
use Rattle.cc_elaboration_reasons.specs.ExplainedElaboration.{first_refusal}
use Rattle.cc_elaboration_reasoning.specs.FoundRefusals.{module_found}

-- The first refusal is found without elaborating: a right side is refused by its form alone.
abbrev pub FirstRefusalIsFound : Type 0
FirstRefusalIsFound =
    (devices : List Name) (text : ModuleSyntax) → module_found devices text ≡ first_refusal devices text
