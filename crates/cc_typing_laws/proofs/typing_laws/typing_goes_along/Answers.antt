use Rattle.cc_typing_laws.proofs.TypingTheorems.{typing_weakens, typing_narrows, variables_substitute, shapes_substitute}
use Rattle.cc_typing_laws.proofs.typing_laws.typing_goes_along.Goals as goal

pub returns : goal.returns
returns c =
    record {
      weakening = typing_weakens;
      narrowing = typing_narrows;
      variable = variables_substitute;
      shape = shapes_substitute;
    }
