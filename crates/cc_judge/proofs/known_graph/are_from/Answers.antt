use Rattle.std.proofs.Common.{◌≡◌, ◌∙◌, ap, get_or, sym, arith}
use Rattle.std.specs.Cmp.Lexicographic.{bytes_decides}
use Rattle.cc_judge.proofs.GraphAgain.{source_more, source_at}
use Rattle.cc_judge.proofs.known_graph.are_from.Goals as goal

pub loop-at-preserved : goal.loop-at-preserved
loop-at-preserved c =
    let imports = c.args.imports.now in
    let sources = c.args.sources.now in
    record {
      within = omega (arith, c.loop-at-test.true);
      same = source_more imports sources c.loop-at.at c.index-imports-at.result c.index-sources-at.result
          c.loop-at-test.true (omega (arith, c.loop-at-test.true, c.if-imports-sources.false)) c.index-imports-at.is c.index-sources-at.is
          (ap (λ i. i.module) c.index-imports-at.is
          ∙ (bytes_decides (get_or imports c.loop-at.at c.index-imports-at.result).module c.index-sources-at.result).0
          (sym c.eq-same.ensures ∙ c.if-not-same.false))
          c.loop-at.invariant.same;
    }

pub returns-then-not-same : goal.returns-then-not-same
returns-then-not-same c =
    let imports = c.args.imports.now in
    let sources = c.args.sources.now in
    let one = get_or imports c.loop-at.at c.index-imports-at.result in
    let source = c.index-sources-at.result in (
      λ same. cc,
      λ all.
          absurd
          (let equal : one.module ≡ source =
          ap (λ i. i.module) (sym c.index-imports-at.is)
          ∙ source_at imports sources c.loop-at.at c.index-imports-at.result source c.loop-at-test.true
          c.index-imports-at.is c.index-sources-at.is all in
          let yes = (bytes_decides one.module source).1 equal in
          let no = sym c.eq-same.ensures ∙ c.if-not-same.true in cc),
    )
