use Rattle.std.proofs.Common.{subst, sym, ap, ◌∙◌, map, List, Option, ℕ}
use Rattle.cc_grammar.specs.Syntax.{ImportSyntax}
use Rattle.cc_graph.specs.Graph.{ImportMap, IsOrder}
use Rattle.cc_verdicts.specs.PresentTexts.{graph_of}
use Rattle.cc_verdicts.specs.Readings.{imports_of}
use Rattle.cc_judge.specs.Dependencies.{ListsUnread}
use Rattle.cc_judge.proofs.Graphs.{imports_by_text}
use Rattle.cc_judge.proofs.PushedPlaces.{order_among_keys}
use Rattle.cc_judge.proofs.dependencies.schedule.Goals as goal

pub returns : goal.returns
returns c =
    let places = c.push_unread.new.places.items in
    let G : ImportMap → Type 0 = λ g. IsOrder g c.in_ok-names.names.items in
    let N : List (List ℕ) → Type 0 = λ ns. IsOrder (graph_of c.args.texts.now) ns in
    let order = subst N (sym c.as_slice.ensures.value) (subst G c.requires.graph c.in_ok-names.ensures) in
    let (more, parts, named) = c.in_ok-push_named.ensures (order_among_keys c.args.texts.now c.as_slice.result.now order) in
    let L : List (Option (List ImportSyntax)) → Type 0 = λ rs. ListsUnread rs places in
    record {
      unread = places;
      ordered = more;
      names = c.as_slice.result.now;
      parts = parts;
      lists = subst L (ap (map imports_of) c.requires.read ∙ imports_by_text c.args.texts.now) c.in_ok-push_unread.ensures;
      order = order;
      named = named;
    }
