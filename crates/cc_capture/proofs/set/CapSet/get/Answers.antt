use Rattle.std.proofs.Common.{Some, slice_get, sym, ap, ◌∙◌}
use Rattle.std.specs.Prelude.{option_map}
use Rattle.cc_capture.specs.Numbers.{element_at}
use Rattle.cc_capture.specs.Words.{numbers}
use Rattle.cc_capture.proofs.WordElements.{number-within}
use Rattle.cc_capture.proofs.WordSets.{slice_get-set_of}
use Rattle.cc_capture.proofs.set.CapSet.get.Goals as goal

pub returns-in_err-number : goal.returns-in_err-number
returns-in_err-number c =
    c.from_residual.ensures
    ∙ ap (option_map element_at) (c.in_err-number.ensures
    ∙ ap (λ ws. slice_get (numbers ws) c.args.index) c.as_slice.ensures.value)
    ∙ slice_get-set_of c.self.inside.words.items c.args.self.now c.args.index c.self.invariant c.self.view_is

pub element_at-requires : goal.element_at-requires
element_at-requires c =
    number-within c.self.inside.words.items c.args.index c.in_ok-number.number c.self.invariant
    (sym (c.in_ok-number.ensures ∙ ap (λ ws. slice_get (numbers ws) c.args.index) c.as_slice.ensures.value))

pub returns : goal.returns
returns c =
    ap (λ e. Some e) c.element_at.ensures
    ∙ ap (option_map element_at) (c.in_ok-number.ensures
    ∙ ap (λ ws. slice_get (numbers ws) c.args.index) c.as_slice.ensures.value)
    ∙ slice_get-set_of c.self.inside.words.items c.args.self.now c.args.index c.self.invariant c.self.view_is
