use Rattle.std.proofs.Common.{sym, ap, ◌∙◌}
use Rattle.cc_runs.specs.Machine.{literal_in}
use Rattle.cc_machine.specs.Lines.{number_in}
use Rattle.cc_machine.proofs.parts.Parts.number_at.Goals as goal

pub returns-in-Some : goal.returns-in-Some
returns-in-Some c = c.number_in_cell.ensures c.args.self.now.links.items ∙ ap (λ o. number_in (literal_in o)) (sym c.in-Some.ensures.cell)

pub returns-in-None : goal.returns-in-None
returns-in-None c = ap (λ o. number_in (literal_in o)) (sym c.in-None.ensures.cell)
