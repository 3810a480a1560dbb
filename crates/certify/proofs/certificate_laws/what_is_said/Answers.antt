use Rattle.std.proofs.Common.{◌∙◌, subst, sym}
use Rattle.certify.proofs.certificate_laws.what_is_said.Goals as goal

pub returns : goal.returns
returns g c = record {
  valid = λ old new said. said.2 ∙ said.1;
  invalid = λ old new said. said.2 ∙ said.1;
  read_fault = λ old new said. (said.1.0, subst (g.E.Messages.gives old _ said.1.0) (sym said.2) said.1.1);
  too_long = λ old new said. (said.1.0, subst (g.E.Messages.gives old _ said.1.0) (sym said.2) said.1.1);
  no_memory = λ old new said. (said.1.0, subst (g.E.Messages.gives old _ said.1.0) (sym said.2) said.1.1);
  write_fault = λ old new said. (said.1.0, subst (g.E.Messages.gives old _ said.1.0) (sym said.2) said.1.1);
  bad_words = λ old new said. said;
}
