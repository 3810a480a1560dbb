use Rattle.std.proofs.Common.{◌≡◌, ap, ◌∙◌, sym}
use Rattle.cc_graph.proofs.Paths.{reaches-path, path-reaches}
use Rattle.cc_graph.specs.Graph.{reaches}
use Rattle.cc_graph.proofs.imports.ImportGraph.reaches.Goals as goal

pub returns-clause-path : goal.returns-clause-path
returns-clause-path c =
    let is : c.leads.result ≡ reaches c.args.self.now c.args.from.now c.args.to.now =
    c.leads.ensures ∙ ap (λ g. reaches g c.args.from.now c.args.to.now) (c.as_slice.ensures.value ∙ c.self.view_is) in
    (λ says. reaches-path _ _ _ (sym is ∙ says), λ path. is ∙ path-reaches _ _ _ path)
