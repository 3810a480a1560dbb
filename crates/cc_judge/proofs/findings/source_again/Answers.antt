use Rattle.std.proofs.Common.{List, ℕ, sym, subst, ◌∙◌}
use Rattle.std.specs.Cmp.Lexicographic.{bytes_decides}
use Rattle.cc_judge.specs.Found.{IsSource}
use Rattle.cc_judge.proofs.findings.source_again.Goals as goal

pub returns-then-eq : goal.returns-then-eq
returns-then-eq c =
    let P : List ℕ → Type 0 = λ source. IsSource c.args.texts.now c.args.name.now source c.args.found in
    subst P ((bytes_decides c.args.known.now c.args.source.now).0 (sym c.eq.ensures ∙ c.if-eq.true)) c.requires.known
