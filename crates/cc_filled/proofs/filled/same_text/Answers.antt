use Rattle.std.proofs.Common.{ap, sym, ◌∙◌}
use Rattle.std.specs.Str.{chars, bytes_eq}
use Rattle.std.proofs.lemmas.Str.{encodes-chars}
use Rattle.cc_base.specs.NameTexts.{bytes_eq-encodes}
use Rattle.cc_filled.proofs.filled.same_text.Goals as goal

pub returns : goal.returns
returns c =
    let one = encodes-chars c.args.text.now c.utf8.text in
    let other = encodes-chars c.args.other.now c.utf8.other in
    c.eq.ensures ∙ sym (λ i. bytes_eq (one i) (other i)) ∙ bytes_eq-encodes (chars c.args.text.now) (chars c.args.other.now)
