use Rattle.std.proofs.Common.{◌≡◌, length, sym, ◌∙◌, arith}
use Rattle.std.proofs.lemmas.Bool.{eqb-true, eq-eqb}
use Rattle.cc_capture.proofs.WordSets.{empty-set_of}
use Rattle.cc_capture.proofs.set.CapSet.is_empty.Goals as goal

pub returns : goal.returns
returns c =
    let both = empty-set_of c.self.inside.words.items c.self.invariant in (
      λ t.
          let none : length c.self.inside.words.items ≡ 0 =
          omega (arith, c.len.ensures, c.self.inside.words.ok.0, eqb-true _ _ t) in
          sym c.self.view_is ∙ both.0 none,
      λ e.
          let none =
          both.1 (c.self.view_is ∙ e) in eq-eqb _ _ (omega (arith, c.len.ensures, c.self.inside.words.ok.0, none)),
    )
