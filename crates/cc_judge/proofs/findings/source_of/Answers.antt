use Rattle.std.proofs.Common.{ap, sym, ◌∙◌}
use Rattle.cc_graph.specs.Graph.{reaches}
use Rattle.cc_judge.proofs.findings.source_of.Goals as goal

pub returns-then-reaches : goal.returns-then-reaches
returns-then-reaches c = (
  c.in-Some.at,
  c.in-Some.ensures,
  ap (λ g. reaches g c.args.source.now c.args.name.now) (sym c.requires.graph) ∙ (sym c.reaches.ensures.test
      ∙ c.if-reaches.true),
)

pub returns-else-reaches : goal.returns-else-reaches
returns-else-reaches c = (
  c.in-Some.ensures,
  ap (λ g. reaches g c.args.source.now c.args.name.now) (sym c.requires.graph) ∙ (sym c.reaches.ensures.test
      ∙ c.if-reaches.false),
)
