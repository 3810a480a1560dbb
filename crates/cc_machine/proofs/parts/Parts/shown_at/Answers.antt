use Rattle.std.proofs.Common.{sym, ap, ◌∙◌}
use Rattle.cc_runs.specs.Answers.{shown_cell}
use Rattle.cc_machine.proofs.parts.Parts.shown_at.Goals as goal

pub returns-in-Some : goal.returns-in-Some
returns-in-Some c =
    c.shown_cell.ensures c.args.self.now.links.items
    ∙ ap shown_cell
    (sym c.in-Some.ensures.cell)

pub returns-in-None : goal.returns-in-None
returns-in-None c =
    ap shown_cell (sym c.in-None.ensures.cell)
